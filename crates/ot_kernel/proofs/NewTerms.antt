-- Terms that are made over the table, against the rules on nameless terms.
use Rattle.std.specs.Prelude.{◌≢◌}
use Rattle.std.proofs.Common.{◌≡◌, ℕ, ◌<◌, true, false, [], length, slice_get, Some, Ok, Err, refl, sym, ap, ◌∙◌}
use Rattle.std.proofs.lemmas.Option.{slice_get_within, get_or_from_slice_get}
use Rattle.ot_logic.specs.Trees.{Ty, TyVar, Variable, Tm, Named, NConst, NApp, NAbs}
use Rattle.ot_logic.specs.Faults.{NotFunction, ArgumentType, Nesting}
use Rattle.ot_logic.specs.Hol.{fun_ty, type_in, is_shallow}
use Rattle.ot_logic.specs.NamedTerms.{nameless, named_type}
use Rattle.ot_logic.specs.Naming.{numbers}
use Rattle.ot_logic.specs.Rules.{app_rule, abs_rule}
use Rattle.ot_laws.proofs.Tests.{tells_numbers}
use Rattle.ot_laws.proofs.Typing.{type-nameless}
use Rattle.ot_term.specs.declared.term.TermFault.{TermFault}
use Rattle.ot_term.specs.declared.term.TermFault.TheVariants as of_terms
use Rattle.ot_term.specs.Term.{TermTable}
use Rattle.ot_term.specs.TermTable.{term_at, is_within_limit, IsTermTable}
use Rattle.ot_term.specs.Equality.{named_equation}
use Rattle.ot_kernel.specs.declared.fault.RuleFault.TheVariants as rules
use Rattle.ot_kernel.specs.Answers.{RefusesRule}
use Rattle.ot_kernel.specs.Refusals.{of_term}
use Rattle.ot_kernel.specs.Equating.{limited, equation_rule, IsMadeTerm}
use Rattle.ot_kernel.proofs.TermRules.{app-made, app-not_function, app-argument_type}
use Rattle.ot_kernel.proofs.TermRules.{app-nesting, abs-made}
use Rattle.ot_kernel.proofs.EquationRules.{refuses_rule, memory_refuses, equation_rule-at}

-- the term of a new number
pub new_at : (u : TermTable) (id : ℕ) (x : Named ℕ) → slice_get u.terms id ≡ Some x
    → (id < length u.terms) × (term_at u.terms id ≡ x)
new_at u id x p = (slice_get_within u.terms id x p, get_or_from_slice_get u.terms id x (NConst 0 (TyVar 0)) p)

-- a type of a named term is that of its nameless form
has : (t : Named ℕ) (ty : Ty ℕ) → named_type numbers t ≡ Some ty → type_in numbers [] (nameless numbers t) ≡ Some ty
has t ty h = type-nameless numbers tells_numbers t ∙ h

pub limited-made : (t : Tm ℕ) → is_shallow numbers t ≡ true → limited numbers t ≡ Ok t
limited-made t h = rw h refl

pub limited-past : (t : Tm ℕ) → is_shallow numbers t ≡ false → limited numbers t ≡ Err Nesting
limited-past t h = rw h refl

-- ---- equations
pub makes_equation : (u : TermTable) (a b : Named ℕ) (ty : Ty ℕ) (id : ℕ) → IsTermTable u
    → named_type numbers a ≡ Some ty → slice_get u.terms id ≡ Some (named_equation ty a b)
    → IsMadeTerm (Ok id) (equation_rule numbers (nameless numbers a) (nameless numbers b)) u.terms
makes_equation u a b ty id table typed made =
    let (below, is) = new_at u id (named_equation ty a b) made in (
      below,
      equation_rule-at numbers (nameless numbers a) (nameless numbers b) ty (has a ty typed)
          ∙ limited-made (nameless numbers (named_equation ty a b)) (table.limit id (named_equation ty a b) made)
          ∙ ap (λ x. Ok (nameless numbers x)) (sym is),
    )

pub equation_refused : (a b : Named ℕ) (e : TermFault) → type_in numbers [] (nameless numbers a)
    ≡ type_in numbers [] (nameless numbers b)
    → (e ≢ of_terms.NotFunction) → (e ≡ of_terms.ArgumentType → named_type numbers a ≢ named_type numbers b)
    → (e ≡ of_terms.Nesting → (ty : Ty ℕ) × (named_type numbers a ≡ Some ty) × (named_type numbers b ≡ Some ty)
    × (is_within_limit (named_equation ty a b) ≡ false))
    → RefusesRule (of_term e) (equation_rule numbers (nameless numbers a) (nameless numbers b))
equation_refused a b of_terms.NotFunction same function argument nesting = absurd (function refl)
equation_refused a b of_terms.ArgumentType same function argument nesting =
    absurd (argument refl (sym (type-nameless numbers tells_numbers a) ∙ same
    ∙ type-nameless numbers tells_numbers b))
equation_refused a b of_terms.Nesting same function argument nesting =
    let (ty, p, q, past) = nesting refl in
    refuses_rule rules.Nesting Nesting _ (λ _. refl)
    (equation_rule-at numbers (nameless numbers a) (nameless numbers b) ty (has a ty p)
    ∙ limited-past (nameless numbers (named_equation ty a b)) past)
equation_refused a b (of_terms.Memory memory) same function argument nesting = memory_refuses _

-- ---- applications
pub makes_application : (u : TermTable) (f x : Named ℕ) (id : ℕ) → IsTermTable u → slice_get u.terms id
    ≡ Some (NApp f x) → IsMadeTerm (Ok id) (app_rule numbers (nameless numbers f) (nameless numbers x)) u.terms
makes_application u f x id table made =
    let (below, is) = new_at u id (NApp f x) made in
    let (ty, typed) = table.typed id (NApp f x) made in (
      below,
      app-made numbers tells_numbers f x ty typed (table.limit id (NApp f x) made)
          ∙ ap (λ z. Ok (nameless numbers z)) (sym is),
    )

pub application_refused : (f x : Named ℕ) (e : TermFault)
    → (e ≡ of_terms.NotFunction → (a b : Ty ℕ) → named_type numbers f ≢ Some (fun_ty numbers a b))
    → (e ≡ of_terms.ArgumentType → (a b : Ty ℕ) × (named_type numbers f ≡ Some (fun_ty numbers a b))
    × (named_type numbers x ≢ Some a))
    → (e ≡ of_terms.Nesting → (b : Ty ℕ) × (named_type numbers (NApp f x) ≡ Some b)
    × (is_within_limit (NApp f x) ≡ false))
    → RefusesRule (of_term e) (app_rule numbers (nameless numbers f) (nameless numbers x))
application_refused f x of_terms.NotFunction function argument nesting = refuses_rule rules.NotFunction NotFunction _
    (λ _. refl) (app-not_function numbers tells_numbers f x (function refl))
application_refused f x of_terms.ArgumentType function argument nesting =
    let (a, b, p, q) = argument refl in
    refuses_rule rules.ArgumentType ArgumentType _ (λ _. refl) (app-argument_type numbers tells_numbers f x a b p q)
application_refused f x of_terms.Nesting function argument nesting =
    let (b, p, q) = nesting refl in
    refuses_rule rules.Nesting Nesting _ (λ _. refl) (app-nesting numbers tells_numbers f x b p q)
application_refused f x (of_terms.Memory memory) function argument nesting = memory_refuses _

-- ---- abstractions
pub makes_abstraction : (u : TermTable) (v : Variable ℕ) (b : Named ℕ) (id : ℕ) → IsTermTable u
    → slice_get u.terms id ≡ Some (NAbs v b) → IsMadeTerm (Ok id) (abs_rule numbers v (nameless numbers b)) u.terms
makes_abstraction u v b id table made =
    let (below, is) = new_at u id (NAbs v b) made in (
      below,
      abs-made numbers tells_numbers v b (table.limit id (NAbs v b) made)
          ∙ ap (λ z. Ok (nameless numbers z)) (sym is),
    )
