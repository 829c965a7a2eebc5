-- The equation of two conclusions, under what is left of their hypotheses.
use Rattle.std.specs.Prelude.{Ok}
use Rattle.std.specs.List.{All}
use Rattle.std.proofs.Common.{◌≡◌, ℕ, ◌<◌, List, length, refl, ◌∙◌}
use Rattle.ot_logic.specs.Trees.{Tm}
use Rattle.ot_logic.specs.Hol.{bool_ty, minus, union, IsSequent}
use Rattle.ot_logic.specs.Naming.{numbers}
use Rattle.ot_logic.specs.Rules.{deduct_antisym_rule}
use Rattle.ot_term.specs.Term.{TermTable}
use Rattle.ot_term.specs.TermTable.{Grows, IsTermTable}
use Rattle.ot_kernel.specs.declared.theorem.Theorem.{Theorem}
use Rattle.ot_kernel.specs.declared.fault.RuleFault.{RuleFault}
use Rattle.ot_kernel.specs.Answers.{RefusesRule}
use Rattle.ot_kernel.specs.Equating.{equation_rule, IsMadeTerm}
use Rattle.ot_kernel.specs.Numbered.{tm_at, tms_at, numbered_sequent, Derives}
use Rattle.ot_kernel.proofs.Equating.{equated_derives, equated_refused}

module _ (t : TermTable) (lower top : Theorem)
    (lower_sequent : IsSequent numbers (numbered_sequent t.terms lower)) where
  -- what is left of the hypotheses
  abbrev left_over : List (Tm ℕ)
  left_over = union numbers (minus numbers (tm_at t.terms top.concl) (tms_at t.terms lower.hyps))
      (minus numbers (tm_at t.terms lower.concl) (tms_at t.terms top.hyps))

  pub deduced : (u : TermTable) → IsTermTable t → Grows t u → (ls rs : List ℕ) (th : Theorem)
      → tms_at t.terms ls ≡ minus numbers (tm_at t.terms top.concl) (tms_at t.terms lower.hyps)
      → tms_at t.terms rs ≡ minus numbers (tm_at t.terms lower.concl) (tms_at t.terms top.hyps)
      → tms_at t.terms th.hyps ≡ union numbers (tms_at t.terms ls) (tms_at t.terms rs)
      → All (λ i. i < length t.terms) th.hyps
      → IsMadeTerm (Ok th.concl) (equation_rule numbers (tm_at t.terms lower.concl) (tm_at t.terms top.concl)) u.terms
      → Derives (Ok th) (deduct_antisym_rule numbers (numbered_sequent t.terms lower) (numbered_sequent t.terms top))
      u.terms
  deduced u table grows ls rs th left right both inside made =
      equated_derives t u table grows th left_over (tm_at t.terms lower.concl) (tm_at t.terms top.concl)
      (bool_ty numbers) _ inside (both ∙ (λ j. union numbers (left j) (right j))) lower_sequent.concl made refl

  pub not_deduced : (e : RuleFault)
      → RefusesRule e (equation_rule numbers (tm_at t.terms lower.concl) (tm_at t.terms top.concl))
      → RefusesRule e (deduct_antisym_rule numbers (numbered_sequent t.terms lower) (numbered_sequent t.terms top))
  not_deduced e refused = equated_refused e left_over (tm_at t.terms lower.concl) (tm_at t.terms top.concl)
      (bool_ty numbers) _ lower_sequent.concl refused refl
