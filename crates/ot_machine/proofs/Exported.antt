-- The exports of a machine, one after another.
use Rattle.std.specs.Prelude.{◌||◌, false, zero, suc, take}
use Rattle.std.specs.List.{All}
use Rattle.std.proofs.Common.{◌≡◌, ◌+◌, ◌<◌, ℕ, List, length, map, get_or, drop, drop-cons, add-one}
use Rattle.std.proofs.Common.{length-drop, ◌-◌, arith, ◌++◌, ◌∷◌, [], refl, sym, ap, subst, ◌∙◌}
use Rattle.std.proofs.Math.Seq.{take-length}
use Rattle.std.proofs.lemmas.List.{length-map, map-append}
use Rattle.std.proofs.lemmas.List.Elements.{All-head, All-tail}
use Rattle.ot_logic.specs.Names.{Name}
use Rattle.ot_logic.specs.Trees.{Sequent}
use Rattle.ot_logic.specs.Hol.{same_sequent}
use Rattle.ot_logic.specs.Naming.{names}
use Rattle.ot_kernel.specs.State as kernel
use Rattle.ot_machine.specs.declared.session.Session.{Session}
use Rattle.ot_machine.specs.Rows.{is_exported}
use Rattle.ot_machine.specs.declared.machine.Export.{Export}
use Rattle.ot_machine.specs.Meaning.{export_of, exported_by}

-- what stands from a place on
pub behind : {X : Type 0} (n : ℕ) (xs : List X) → take (length xs - n) (drop n xs) ≡ drop n xs
behind n xs =
    let rest : length xs - n ≡ length (drop n xs) = omega (arith, length-drop n xs) in
    ap (λ m. take m (drop n xs)) rest ∙ take-length (drop n xs)

-- whether a sequent is the next export, or one of those after it
pub exported_next : (k : Session) (q : Sequent Name) (es : List Export) (n : ℕ) (e : Export) → n < length es
    → e ≡ get_or es n e → is_exported q (map (export_of k) (drop n es))
    ≡ (same_sequent names q (kernel.theorem_at k.kernel e.th) || is_exported q (map (export_of k) (drop (n + 1) es)))
exported_next k q es n e h is =
    ap (λ l. is_exported q (map (export_of k) l)) (drop-cons es n e h)
    ∙ (λ j. same_sequent names q (kernel.theorem_at k.kernel (sym is j).th)
    || is_exported q (map (export_of k) (drop (sym (add-one n) j) es)))

-- none of these is the sequent
pub not_exported : (k : Session) (q : Sequent Name) (es : List Export)
    → All (λ r. same_sequent names q r ≡ false) (exported_by k.kernel es)
    → is_exported q (map (export_of k) es) ≡ false
not_exported k q [] none = refl
not_exported k q (e ∷ es) none =
    let rest = exported_by k.kernel es in
    let here = All-head (λ r. same_sequent names q r ≡ false) (kernel.theorem_at k.kernel e.th) rest none in
    let others =
    not_exported k q es (All-tail (λ r. same_sequent names q r ≡ false) (kernel.theorem_at k.kernel e.th) rest none) in
    (λ i. here i || others i)

-- those from a place on are enough where none before it is the sequent
pub exported_from : (k : Session) (q : Sequent Name) (es : List Export) (n : ℕ)
    → All (λ r. same_sequent names q r ≡ false) (take n (exported_by k.kernel es))
    → is_exported q (map (export_of k) (drop n es)) ≡ is_exported q (map (export_of k) es)
exported_from k q es zero none = refl
exported_from k q [] (suc n) none = refl
exported_from k q (e ∷ es) (suc n) none =
    let rest = take n (exported_by k.kernel es) in
    let here = All-head (λ r. same_sequent names q r ≡ false) (kernel.theorem_at k.kernel e.th) rest none in
    let others =
    exported_from k q es n (All-tail (λ r. same_sequent names q r ≡ false) (kernel.theorem_at k.kernel e.th) rest none) in
    (λ i. sym here i || others i)

-- what holds of exports and of one more
pub placed-more : (k : kernel.State) (es all : List Export) (e : Export) (place : ℕ)
    (Old New : List (Sequent Name) → Type 0) → all ≡ es ++ e ∷ [] → place ≡ length es
    → ((qs : List (Sequent Name)) → length qs ≡ place → Old qs → New (qs ++ kernel.theorem_at k e.th ∷ []))
    → Old (exported_by k es) → New (exported_by k all)
placed-more k es all e place Old New pushed end more before =
    let counted : length (exported_by k es) ≡ place = length-map es (λ (e : Export). kernel.theorem_at k e.th)
    ∙ sym end in
    let same = ap (exported_by k) pushed ∙ map-append (λ (e : Export). kernel.theorem_at k e.th) es (e ∷ []) in
    subst New (sym same) (more (exported_by k es) counted before)
