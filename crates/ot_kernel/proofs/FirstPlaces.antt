-- A place before which no assumption is a sequent.
use Rattle.std.specs.Prelude.{slice_get, slice_index_or, Some, find}
use Rattle.std.specs.List.{All}
use Rattle.std.specs.Map.{lookup}
use Rattle.std.proofs.Common.{◌≡◌, ℕ, ◌<◌, ◌≤◌, Bool, true, false, List, [], length}
use Rattle.std.proofs.Common.{map, take, drop, refl, sym, ap, ◌∙◌, arith}
use Rattle.std.proofs.lemmas.List.{length-take, get_or-take, drop-map, length-map}
use Rattle.std.proofs.lemmas.Option.{get_or_from_slice_get}
use Rattle.ot_logic.specs.Names.{Name}
use Rattle.ot_logic.specs.Trees.{Bound, Sequent}
use Rattle.ot_logic.specs.Hol.{same_sequent}
use Rattle.ot_logic.specs.Naming.{names, numbers, name_of}
use Rattle.ot_logic.specs.Renamed.{map_named}
use Rattle.ot_term.specs.Term.{TermTable}
use Rattle.ot_kernel.specs.declared.key.SequentKey.{SequentKey}
use Rattle.ot_kernel.specs.declared.theorem.Theorem.{Theorem}
use Rattle.ot_kernel.specs.State.{State, sequent_at, theorem_at}
use Rattle.ot_kernel.specs.Keys.{same_key, IsKeyOf}
use Rattle.ot_kernel.specs.Spelled.{Held, sequent_of, state_of, IsInside, IsKernel}
use Rattle.ot_kernel.specs.Numbered.{tm_at, tms_at, numbered_sequent}
use Rattle.ot_kernel.proofs.Keying.{keyed-same}
use Rattle.ot_kernel.proofs.Namings.{index-map}
use Rattle.ot_kernel.proofs.Placing.{find-past}
use Rattle.ot_kernel.proofs.Theorems.{real_theorem, same_sequent-real}
use Rattle.ot_logic.proofs.Elements.{slice_get-there, All-slice_get}

-- as many as their numbers
pub counted : (ns : List Name) (t : TermTable) (held : Held) (now : State) → state_of ns t held ≡ now
    → length now.assumptions ≡ length held.assumptions
counted ns t held now view =
    let dflt : Sequent Name = record { hyps = []; concl = Bound 0 } in
    ap (λ (s : State). length s.assumptions) (sym view)
    ∙ length-map held.assumptions (λ i. slice_index_or (state_of ns t held).theorems i dflt)

module _ (ns : List Name) (t : TermTable) (held : Held) (now : State) (view : state_of ns t held ≡ now)
    (k : IsKernel ns t held) where
  -- n is no later than the place of the key, where it has one
  module _ (hyps : List ℕ) (concl n : ℕ) (l : SequentKey) (within : All (λ i. i < length now.terms) hyps)
      (here : concl < length now.terms) (keyed : IsKeyOf t.classes hyps concl l)
      (first : (p : ℕ) → lookup (same_key l) held.places ≡ Some p → n ≤ p) where
    terms_counted : length now.terms ≡ length t.terms
    terms_counted = ap (λ (s : State). length s.terms) (sym view) ∙ length-map t.terms (map_named (name_of ns))

    -- an assumption before n
    apart : (j i : ℕ) (th : Theorem) → j < n → slice_get held.assumptions j ≡ Some i
        → slice_get held.theorems i ≡ Some th → IsInside (length t.terms) th → (b : Bool)
        → same_sequent numbers (numbered_sequent t.terms th)
        (record { hyps = tms_at t.terms hyps; concl = tm_at t.terms concl }) ≡ b → b ≡ false
    apart j i th h at found inside false e = refl
    apart j i th h at found inside true e =
        let all : All (λ m. m < length t.terms) hyps = λ m d w. let x = within m d w in
        omega (arith, x, terms_counted) in
        let key = keyed-same t k.table th.hyps hyps th.concl concl l inside.hyps all inside.concl
        (omega (arith, here, terms_counted)) e keyed in
        let (p, place, le) = k.placed.found j i th l at found key in
        let lt = first p place in
        absurd (omega (arith, lt, le, h))

    other : (j i : ℕ) → j < n → slice_get held.assumptions j ≡ Some i → i < length held.theorems
        → same_sequent names (theorem_at now i) (sequent_at now hyps concl) ≡ false
    other j i h at below =
        let (th, found) = slice_get-there held.theorems i below in
        let inside = All-slice_get (IsInside (length t.terms)) held.theorems i th k.inside found in
        let theorems = ap (λ (s : State). length s.theorems) view in
        let many = length-map held.theorems (sequent_of (state_of ns t held).terms) in
        let all : All (λ m. m < length now.terms) th.hyps =
        λ m d w. let x = inside.hyps m d w in omega (arith, x, terms_counted) in
        ap (λ (q : Sequent Name). same_sequent names q (sequent_at now hyps concl))
        (sym (real_theorem ns t held now view i th (omega (arith, theorems, many, below))
        (sym (get_or_from_slice_get held.theorems i th th found))))
        ∙ sym (same_sequent-real ns t held now view k th.hyps hyps th.concl concl all within
        (omega (arith, inside.concl, terms_counted)) here)
        ∙ apart j i th h at found inside (same_sequent numbers (numbered_sequent t.terms th)
        (record { hyps = tms_at t.terms hyps; concl = tm_at t.terms concl })) refl

    pub none_before : n ≤ length held.assumptions
        → All (λ r. same_sequent names r (sequent_at now hyps concl) ≡ false) (take n now.assumptions)
    none_before le j r h =
        let dflt : Sequent Name = record { hyps = []; concl = Bound 0 } in
        let many = counted ns t held now view in
        let short : j < n = omega (arith, h, many, length-take n now.assumptions) in
        let (i, at) = slice_get-there held.assumptions j (omega (arith, short, le)) in
        let below = All-slice_get (λ m. m < length held.theorems) held.assumptions j i k.numbered at in
        let read : slice_index_or now.assumptions j r ≡ theorem_at now i =
        ap (λ (s : State). slice_index_or s.assumptions j r) (sym view)
        ∙ index-map (λ m. slice_index_or (state_of ns t held).theorems m dflt) held.assumptions j 0 r
        (omega (arith, short, le))
        ∙ ap (λ m. slice_index_or (state_of ns t held).theorems m dflt)
        (get_or_from_slice_get held.assumptions j i 0 at)
        ∙ ap (λ (s : State). theorem_at s i) view in
        ap (λ (q : Sequent Name). same_sequent names q (sequent_at now hyps concl))
        (get_or-take n now.assumptions j r short ∙ read) ∙ other j i short at below

-- the first assumption that is a sequent stands behind those that are others
pub found-behind : (now : State) (ids slice : List ℕ) (n : ℕ) (q : Sequent Name) → map (theorem_at now) ids
    ≡ now.assumptions → slice ≡ drop n ids → All (λ r. same_sequent names r q ≡ false) (take n now.assumptions)
    → find (λ r. same_sequent names r q) now.assumptions ≡ find (λ r. same_sequent names r q)
    (map (theorem_at now) slice)
found-behind now ids slice n q is same none =
    find-past (λ r. same_sequent names r q) now.assumptions n none
    ∙ ap (λ (l : List (Sequent Name)). find (λ r. same_sequent names r q) (drop n l)) (sym is)
    ∙ ap (find (λ r. same_sequent names r q)) (drop-map (theorem_at now) n ids)
    ∙ ap (λ l. find (λ r. same_sequent names r q) (map (theorem_at now) l)) (sym same)
