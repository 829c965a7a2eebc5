-- Applications and abstractions of both sides of equations, made one after the other over the table.
use Rattle.std.proofs.Common.{◌≡◌, ℕ, ◌<◌, false, length, Result, Ok, sym, subst, ◌∙◌}
use Rattle.ot_logic.specs.Trees.{Ty, Tm}
use Rattle.ot_logic.specs.Faults.{Fault}
use Rattle.ot_logic.specs.Hol.{is_free_in_some}
use Rattle.ot_logic.specs.Naming.{numbers}
use Rattle.ot_logic.specs.Rules.{app_rule, abs_rule, app_thm_rule, abs_thm_rule}
use Rattle.ot_laws.proofs.Tests.{tells_numbers}
use Rattle.ot_term.specs.Term.{TermTable}
use Rattle.ot_term.specs.TermTable.{variable_of, Grows}
use Rattle.ot_term.specs.declared.term.VarKey.{VarKey}
use Rattle.ot_term.proofs.Growing.{variable_of-Grows}
use Rattle.ot_kernel.specs.declared.theorem.Theorem.{Theorem}
use Rattle.ot_kernel.specs.declared.fault.RuleFault.{RuleFault}
use Rattle.ot_kernel.specs.Answers.{RefusesRule}
use Rattle.ot_kernel.specs.Numbered.{tm_at, numbered_sequent}
use Rattle.ot_kernel.specs.Equating.{IsMadeTerm, AreSides}
use Rattle.ot_kernel.proofs.EquationRules.{app_thm-right, IsApplications, app_thm-is}
use Rattle.ot_kernel.proofs.EquationRules.{abs_thm-right, IsAbstractions, abs_thm-parts}
use Rattle.ot_kernel.proofs.Equating.{tm_at-Grows}

-- ---- from two equations
module _ (t u : TermTable) (lower top : Theorem) (ty uy : Ty ℕ) (f g x y left : ℕ)
    (p : AreSides t.terms lower.concl ty f g) (q : AreSides t.terms top.concl uy x y) (first : Grows t u)
    (made : IsMadeTerm (Ok left) (app_rule numbers (tm_at t.terms f) (tm_at t.terms x)) u.terms) where
  -- the right sides stand for what they stood for
  same_right : app_rule numbers (tm_at u.terms g) (tm_at u.terms y) ≡ app_rule numbers (tm_at t.terms g)
      (tm_at t.terms y)
  same_right =
      let function = tm_at-Grows t u first g p.typed.right_below in
      let argument = tm_at-Grows t u first y q.typed.right_below in
      λ i. app_rule numbers (function i) (argument i)

  pub right_application_refused : (e : RuleFault)
      → RefusesRule e (app_rule numbers (tm_at u.terms g) (tm_at u.terms y))
      → RefusesRule e (app_thm_rule numbers (numbered_sequent t.terms lower) (numbered_sequent t.terms top))
  right_application_refused e r =
      app_thm-right numbers tells_numbers (numbered_sequent t.terms lower) (numbered_sequent t.terms top) ty uy
      (tm_at t.terms f) (tm_at t.terms g) (tm_at t.terms x) (tm_at t.terms y) p.sides q.sides e
      (tm_at u.terms left) p.typed.left q.typed.left p.typed.right q.typed.right made.1
      (subst (λ (z : Result (Tm ℕ) (Fault ℕ)). RefusesRule e z) same_right r)

  pub both_applications : (w : TermTable) (right : ℕ) → Grows u w
      → IsMadeTerm (Ok right) (app_rule numbers (tm_at u.terms g) (tm_at u.terms y)) w.terms → (b : Ty ℕ)
      × IsApplications numbers tells_numbers (numbered_sequent t.terms lower) (numbered_sequent t.terms top) ty uy
      (tm_at t.terms f) (tm_at t.terms g) (tm_at t.terms x) (tm_at t.terms y) p.sides q.sides b
      (tm_at w.terms left) (tm_at w.terms right)
  both_applications w right second made_right =
      let kept = tm_at-Grows u w second left made.0 in
      app_thm-is numbers tells_numbers (numbered_sequent t.terms lower) (numbered_sequent t.terms top) ty uy
      (tm_at t.terms f) (tm_at t.terms g) (tm_at t.terms x) (tm_at t.terms y) p.sides q.sides (tm_at w.terms left)
      (tm_at w.terms right) p.typed.left q.typed.left p.typed.right q.typed.right
      (made.1 ∙ (λ i. Ok (sym kept i)))
      (sym same_right ∙ made_right.1)

-- ---- from one
module _ (t u : TermTable) (key : VarKey) (th : Theorem) (ty : Ty ℕ) (a b left : ℕ) (below : key.ty < length t.types)
    (p : AreSides t.terms th.concl ty a b) (not_free : is_free_in_some numbers (variable_of t.types key)
    (numbered_sequent t.terms th).hyps ≡ false) (first : Grows t u)
    (made : IsMadeTerm (Ok left) (abs_rule numbers (variable_of t.types key) (tm_at t.terms a)) u.terms) where
  -- the variable and the right side stand for what they stood for
  same_abstraction : abs_rule numbers (variable_of u.types key) (tm_at u.terms b)
      ≡ abs_rule numbers (variable_of t.types key) (tm_at t.terms b)
  same_abstraction =
      let binder = variable_of-Grows t u first key below in
      let body = tm_at-Grows t u first b p.typed.right_below in
      λ i. abs_rule numbers (binder i) (body i)

  pub right_abstraction_refused : (e : RuleFault)
      → RefusesRule e (abs_rule numbers (variable_of u.types key) (tm_at u.terms b))
      → RefusesRule e (abs_thm_rule numbers (variable_of t.types key) (numbered_sequent t.terms th))
  right_abstraction_refused e r =
      abs_thm-right numbers tells_numbers (variable_of t.types key) (numbered_sequent t.terms th) ty (tm_at t.terms a)
      (tm_at t.terms b) p.sides not_free e
      (subst (λ (z : Result (Tm ℕ) (Fault ℕ)). RefusesRule e z) same_abstraction r)

  pub both_abstractions : (w : TermTable) (right : ℕ) → Grows u w
      → IsMadeTerm (Ok right) (abs_rule numbers (variable_of u.types key) (tm_at u.terms b)) w.terms
      → IsAbstractions numbers tells_numbers (variable_of t.types key) (numbered_sequent t.terms th) ty
      (tm_at t.terms a) (tm_at t.terms b) p.sides not_free (tm_at w.terms left) (tm_at w.terms right)
  both_abstractions w right second made_right =
      let kept = tm_at-Grows u w second left made.0 in
      abs_thm-parts numbers tells_numbers (variable_of t.types key) (numbered_sequent t.terms th) ty (tm_at t.terms a)
      (tm_at t.terms b) p.sides not_free (tm_at w.terms left) (tm_at w.terms right) p.typed.left p.typed.right
      (made.1 ∙ (λ i. Ok (sym kept i)))
      (sym same_abstraction ∙ made_right.1)
