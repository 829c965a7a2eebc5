-- A theorem whose hypotheses are compared with others.
use Rattle.std.specs.Prelude.{◌&&◌, Bool}
use Rattle.std.specs.List.{All}
use Rattle.std.proofs.Common.{◌≡◌, ℕ, ◌<◌, List, [], length, slice_index_or, sym, ap, ◌∙◌, subst, arith}
use Rattle.std.proofs.lemmas.List.Elements.{All-nil}
use Rattle.std.proofs.lemmas.List.{length-map}
use Rattle.ot_logic.specs.Names.{Name}
use Rattle.ot_logic.specs.Hol.{same_tm, is_in, all_in}
use Rattle.ot_logic.specs.Naming.{names, numbers, name_of}
use Rattle.ot_logic.specs.Renamed.{map_named}
use Rattle.ot_logic.proofs.Naming.{naming, lettering}
use Rattle.ot_term.specs.Term.{TermTable}
use Rattle.ot_kernel.specs.declared.theorem.Theorem.{Theorem}
use Rattle.ot_kernel.specs.State.{State, term_at, terms_at, theorem_at}
use Rattle.ot_kernel.specs.Spelled.{Held, sequent_of, state_of, IsInside, IsKernel}
use Rattle.ot_kernel.specs.Numbered.{tm_at, tms_at, numbered_sequent}
use Rattle.ot_kernel.proofs.Carried.{carry-sequents}
use Rattle.ot_kernel.proofs.Namings.{table_names}
use Rattle.ot_kernel.proofs.Theorems.{real_theorem, real_sequent}

module _ (ns : List Name) (t : TermTable) (held : Held) (now : State) (view : state_of ns t held ≡ now)
    (k : IsKernel ns t held) (i : ℕ) (th : Theorem) (h : i < length now.theorems)
    (p : th ≡ slice_index_or held.theorems i th) where
  -- the numbers of a theorem are inside
  pub inside-real : IsInside (length t.terms) th
  inside-real =
      let e = ap (λ (s : State). length s.theorems) view in
      let f = length-map held.theorems (sequent_of (state_of ns t held).terms) in
      subst (IsInside (length t.terms)) (sym p) (k.inside i th (omega (arith, e, f)))

  pub within-real : (hyps : List ℕ) (concl : ℕ) (b : Bool) → All (λ i. i < length now.terms) hyps
      → concl < length now.terms
      → b ≡ (all_in numbers (tms_at t.terms th.hyps) (tms_at t.terms hyps)
      && same_tm numbers (tm_at t.terms th.concl) (tm_at t.terms concl))
      → b ≡ (all_in names (theorem_at now i).hyps (terms_at now hyps) && same_tm names (theorem_at now i).concl
      (term_at now concl))
  within-real hyps concl b g l q =
      let d = ap (λ (s : State). length s.terms) view in
      let n = length-map t.terms (map_named (name_of ns)) in
      let inside = inside-real in
      let within : All (λ i. i < length now.terms) th.hyps = λ j x m. let w = inside.hyps j x m in
      omega (arith, d, n) in
      let left = real_sequent ns t held now view k th.hyps th.concl within (omega (arith, d, n, inside.concl))
      ∙ real_theorem ns t held now view i th h p in
      let right = real_sequent ns t held now view k hyps concl g l in
      carry-sequents (naming ns) numbers names (lettering ns (table_names ns k.names))
      (λ L c y z. b ≡ (all_in c y.hyps z.hyps && same_tm c y.concl z.concl)) (numbered_sequent t.terms th)
      (record { hyps = tms_at t.terms hyps; concl = tm_at t.terms concl }) q
      ∙ (λ j. all_in names (left j).hyps (right j).hyps && same_tm names (left j).concl (right j).concl)

  pub hyp-real : (u : ℕ) (b : Bool) → u < length now.terms → b ≡ is_in numbers (tm_at t.terms u)
      (tms_at t.terms th.hyps) → b ≡ is_in names (term_at now u) (theorem_at now i).hyps
  hyp-real u b l q =
      let d = ap (λ (s : State). length s.terms) view in
      let n = length-map t.terms (map_named (name_of ns)) in
      let inside = inside-real in
      let within : All (λ i. i < length now.terms) th.hyps = λ j x m. let w = inside.hyps j x m in
      omega (arith, d, n) in
      let left = real_sequent ns t held now view k th.hyps th.concl within (omega (arith, d, n, inside.concl))
      ∙ real_theorem ns t held now view i th h p in
      let right = real_sequent ns t held now view k [] u (All-nil (λ i. i < length now.terms)) l in
      carry-sequents (naming ns) numbers names (lettering ns (table_names ns k.names))
      (λ L c y z. b ≡ is_in c z.concl y.hyps) (numbered_sequent t.terms th)
      (record { hyps = []; concl = tm_at t.terms u }) q
      ∙ (λ j. is_in names (right j).concl (left j).hyps)
