-- The equation of a redex and what beta makes of it.
use Rattle.std.specs.Prelude.{Ok, Err}
use Rattle.std.specs.List.{All}
use Rattle.std.proofs.Common.{◌≡◌, ℕ, ◌<◌, false, [], length, Some, None, refl, sym, ap, subst, ◌∙◌, arith}
use Rattle.std.proofs.lemmas.Option.{same_Some, slice_get-get_or}
use Rattle.std.proofs.lemmas.List.Elements.{All-nil}
use Rattle.ot_logic.specs.Trees.{Ty, TyVar, Tm, Free, Con, Bound, App, Abs, NConst}
use Rattle.ot_logic.specs.Faults.{NotRedex, Nesting}
use Rattle.ot_logic.specs.Hol.{HasType, type_in, type_of, is_shallow, opened, equation, sequent_of, fun_ty, bool_ty}
use Rattle.ot_logic.specs.Naming.{numbers}
use Rattle.ot_logic.specs.Rules.{within_limit, beta_conv_rule}
use Rattle.ot_laws.proofs.Equations.{equation-sides}
use Rattle.ot_laws.proofs.Tests.{tells_numbers}
use Rattle.ot_laws.proofs.Typed.{beta_conv-typed}
use Rattle.ot_laws.proofs.Typing.{type_of-is, type-nameless}
use Rattle.ot_term.specs.Term.{TermTable}
use Rattle.ot_term.specs.TermTable.{term_at, Grows, IsTermTable}
use Rattle.ot_subst.specs.Beta.{contracted}
use Rattle.ot_subst.specs.Walk.{HasForm}
use Rattle.ot_subst.specs.declared.fault.SubstFault.{SubstFault}
use Rattle.ot_subst.specs.declared.fault.SubstFault.TheVariants as faults
use Rattle.ot_subst.proofs.Shallow.{deep-right}
use Rattle.ot_kernel.specs.declared.theorem.Theorem.{Theorem}
use Rattle.ot_kernel.specs.declared.fault.RuleFault.{RuleFault}
use Rattle.ot_kernel.specs.declared.fault.RuleFault.TheVariants as rules
use Rattle.ot_kernel.specs.Answers.{RefusesRule}
use Rattle.ot_kernel.specs.Equating.{equation_rule, IsMadeTerm}
use Rattle.ot_kernel.specs.Numbered.{tm_at, tms_at, Derives}
use Rattle.ot_kernel.specs.Refusals.{of_subst}
use Rattle.ot_kernel.proofs.EquationRules.{refuses_rule, memory_refuses}
use Rattle.ot_kernel.proofs.Equating.{tm_at-Grows, equated_derives, equated_refused}
use Rattle.ot_kernel.proofs.ByNumber.{deep_conclusion}

-- ---- what beta makes of a nameless term

no_redex : (x : Tm ℕ) → contracted x ≡ None → beta_conv_rule numbers x ≡ Err NotRedex
no_redex (App (Abs a b) u) p = cc
no_redex (App (App f y) u) p = refl
no_redex (App (Free v) u) p = refl
no_redex (App (Con n t) u) p = refl
no_redex (App (Bound k) u) p = refl
no_redex (Free v) p = refl
no_redex (Con n t) p = refl
no_redex (Bound k) p = refl
no_redex (Abs t b) p = refl

-- the equation at the type of the redex
abbrev reduces_to : Tm ℕ → Tm ℕ → Tm ℕ
reduces_to x y = equation numbers (type_of numbers x) x y

redex : (x y : Tm ℕ) → contracted x ≡ Some y → beta_conv_rule numbers x
    ≡ within_limit numbers (sequent_of numbers (reduces_to x y))
redex (App (Abs a b) u) y p = ap (λ z. within_limit numbers (sequent_of numbers (reduces_to (App (Abs a b) u) z)))
    (same_Some (opened numbers b u) y p)
redex (App (App f z) u) y p = cc
redex (App (Free v) u) y p = cc
redex (App (Con n t) u) y p = cc
redex (App (Bound k) u) y p = cc
redex (Free v) y p = cc
redex (Con n t) y p = cc
redex (Bound k) y p = cc
redex (Abs t b) y p = cc

-- beta keeps the type
same_type : (x y : Tm ℕ) (ty : Ty ℕ) → contracted x ≡ Some y → HasType numbers x ty → HasType numbers y ty
same_type (App (Abs a b) u) y ty p h =
    subst (λ z. HasType numbers z ty) (same_Some (opened numbers b u) y p)
    (equation-sides numbers tells_numbers ty (bool_ty numbers) (App (Abs a b) u) (opened numbers b u)
    (beta_conv-typed numbers tells_numbers b u a ty h).concl).1
same_type (App (App f z) u) y ty p h = cc
same_type (App (Free v) u) y ty p h = cc
same_type (App (Con n t) u) y ty p h = cc
same_type (App (Bound k) u) y ty p h = cc
same_type (Free v) y ty p h = cc
same_type (Con n t) y ty p h = cc
same_type (Bound k) y ty p h = cc
same_type (Abs t b) y ty p h = cc

deep_redex : (x y : Tm ℕ) → contracted x ≡ Some y → is_shallow numbers (reduces_to x y) ≡ false
    → beta_conv_rule numbers x ≡ Err Nesting
deep_redex x y p q = redex x y p ∙ deep_conclusion (sequent_of numbers (reduces_to x y)) q

-- ---- beta's refusals
pub beta_refused : (x : Tm ℕ) (fault : SubstFault) → (fault ≡ faults.NotRedex → contracted x ≡ None)
    → (fault ≡ faults.Nesting → (y : Tm ℕ) × (contracted x ≡ Some y) × (is_shallow numbers y ≡ false))
    → RefusesRule (of_subst fault) (beta_conv_rule numbers x)
beta_refused x faults.NotRedex none deep = refuses_rule rules.NotRedex NotRedex (beta_conv_rule numbers x) (λ _. refl)
    (no_redex x (none refl))
beta_refused x faults.Nesting none deep =
    let (y, p, q) = deep refl in
    refuses_rule rules.Nesting Nesting (beta_conv_rule numbers x) (λ _. refl)
    (deep_redex x y p
    (deep-right (App
    (Con numbers.equals
    (fun_ty numbers (type_of numbers x) (fun_ty numbers (type_of numbers x) (bool_ty numbers)))) x) y q))
beta_refused x (faults.Memory memory) none deep = memory_refuses _

-- ---- the equation over the table, which has what beta made
module _ (t u : TermTable) (g : Grows t u) (table : IsTermTable u) (i : ℕ) (h : i < length t.terms) (id : ℕ)
    (made : (y : Tm ℕ) × (contracted (tm_at t.terms i) ≡ Some y) × HasForm u id y) where
  same_redex : tm_at u.terms i ≡ tm_at t.terms i
  same_redex = tm_at-Grows t u g i h

  reduced : contracted (tm_at t.terms i) ≡ Some (tm_at u.terms id)
  reduced = made.1 ∙ ap Some (sym made.2.form)

  -- the rule, at the type of the redex
  conversion : (ty : Ty ℕ) → HasType numbers (tm_at u.terms i) ty → beta_conv_rule numbers (tm_at t.terms i)
      ≡ within_limit numbers (sequent_of numbers (equation numbers ty (tm_at u.terms i) (tm_at u.terms id)))
  conversion ty typed =
      ap (beta_conv_rule numbers) (sym same_redex)
      ∙ redex (tm_at u.terms i) (tm_at u.terms id) (ap contracted same_redex ∙ reduced)
      ∙ ap (λ a. within_limit numbers (sequent_of numbers (equation numbers a (tm_at u.terms i) (tm_at u.terms id))))
      (type_of-is numbers (tm_at u.terms i) ty typed)

  typed_redex : (ty : Ty ℕ) × HasType numbers (tm_at u.terms i) ty
  typed_redex =
      let (ty, p) = table.typed i (term_at u.terms i)
      (slice_get-get_or u.terms i (NConst 0 (TyVar 0)) (omega (arith, h, g.terms.longer))) in
      (ty, type-nameless numbers tells_numbers (term_at u.terms i) ∙ p)

  pub one_type : type_in numbers [] (tm_at u.terms i) ≡ type_in numbers [] (tm_at u.terms id)
  one_type = let (ty, typed) = typed_redex in
      typed ∙ sym (same_type (tm_at u.terms i) (tm_at u.terms id) ty (ap contracted same_redex ∙ reduced) typed)

  pub redex_equated : (v : TermTable) → Grows u v → (new : Theorem) → new.hyps ≡ []
      → IsMadeTerm (Ok new.concl) (equation_rule numbers (tm_at u.terms i) (tm_at u.terms id)) v.terms
      → Derives (Ok new) (beta_conv_rule numbers (tm_at t.terms i)) v.terms
  redex_equated v grows new none made =
      let (ty, typed) = typed_redex in
      equated_derives u v table grows new [] (tm_at u.terms i) (tm_at u.terms id) ty _
      (subst (All (λ i. i < length u.terms)) (sym none) (All-nil (λ i. i < length u.terms)))
      (ap (tms_at u.terms) none) typed made (conversion ty typed)

  pub equation_refused : (e : RuleFault) → RefusesRule e (equation_rule numbers (tm_at u.terms i) (tm_at u.terms id))
      → RefusesRule e (beta_conv_rule numbers (tm_at t.terms i))
  equation_refused e refused = let (ty, typed) = typed_redex in
      equated_refused e [] (tm_at u.terms i) (tm_at u.terms id) ty _ typed refused (conversion ty typed)
