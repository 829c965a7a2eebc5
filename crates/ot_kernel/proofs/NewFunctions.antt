-- Equations of functions that are made over the table, and of constants with their terms.
use Rattle.std.specs.List.{All}
use Rattle.std.proofs.Common.{◌≡◌, ℕ, ◌<◌, Bool, true, false, [], length, slice_get}
use Rattle.std.proofs.Common.{Some, Result, Ok, refl, sym, ap, subst, ◌∙◌}
use Rattle.std.proofs.lemmas.List.Elements.{All-nil}
use Rattle.ot_logic.specs.Trees.{Alphabet, Ty, Variable, Tm, Con, App, Abs, Named, NConst, Sequent}
use Rattle.ot_logic.specs.Faults.{Fault}
use Rattle.ot_logic.specs.Hol.{fun_ty, bool_ty, type_in, HasType, close, is_shallow}
use Rattle.ot_logic.specs.Hol.{equation, as_equation, type_of, sequent_of}
use Rattle.ot_logic.specs.NamedTerms.{nameless}
use Rattle.ot_logic.specs.Naming.{numbers}
use Rattle.ot_logic.specs.Rules.{within_limit, app_rule, abs_rule, abs_thm_rule}
use Rattle.ot_laws.proofs.Tests.{Tells, tells_numbers, has_type-is}
use Rattle.ot_laws.proofs.Typing.{type_of-is, type_of-typed, as_fun_ty-fun}
use Rattle.ot_laws.proofs.Equations.{as_equation-equation}
use Rattle.ot_laws.proofs.Opened.{within-nameless}
use Rattle.ot_type.specs.TypeTable.{type_at}
use Rattle.ot_term.specs.Term.{TermTable}
use Rattle.ot_term.specs.TermTable.{variable_of, Grows, IsTermTable}
use Rattle.ot_term.specs.declared.term.VarKey.{VarKey}
use Rattle.ot_term.proofs.Growing.{variable_of-Grows}
use Rattle.ot_subst.proofs.Shallow.{deep-left, deep-right, deep-body}
use Rattle.ot_kernel.specs.declared.theorem.Theorem.{Theorem}
use Rattle.ot_kernel.specs.declared.fault.RuleFault.{RuleFault}
use Rattle.ot_kernel.specs.Answers.{RefusesRule}
use Rattle.ot_kernel.specs.Numbered.{tm_at, tms_at, Derives}
use Rattle.ot_kernel.specs.Equating.{limited, equation_rule, IsMadeTerm}
use Rattle.ot_kernel.specs.Proved.{equal_functions}
use Rattle.ot_kernel.proofs.NewTerms.{new_at}
use Rattle.ot_kernel.proofs.EquationRules.{limited-refused, within-refused, abs_thm-is, abs_thm-left}
use Rattle.ot_kernel.proofs.EquationRules.{abs_thm-right, IsAbstractions, abs_thm-parts}
use Rattle.ot_kernel.proofs.Equating.{typed_at, tm_at-Grows, equated_derives, equated_refused}

-- ---- the limit
-- where what fails with a part holds, the part does
kept : (a b : Bool) → (a ≡ false → b ≡ false) → b ≡ true → a ≡ true
kept true b h p = refl
kept false b h p = sym (h refl) ∙ p

-- a term with a part that is refused
pub part_refused : (e : RuleFault) (part t : Tm ℕ) → (is_shallow numbers part ≡ false → is_shallow numbers t ≡ false)
    → RefusesRule e (limited numbers part) → RefusesRule e (limited numbers t)
part_refused e part t deep r =
    limited-refused numbers e part t (kept (is_shallow numbers part) (is_shallow numbers t) deep) r

pub left_part_refused : (e : RuleFault) (f x : Tm ℕ) → RefusesRule e (limited numbers f)
    → RefusesRule e (limited numbers (App f x))
left_part_refused e f x r = part_refused e f (App f x) (deep-left f x) r

pub right_part_refused : (e : RuleFault) (f x : Tm ℕ) → RefusesRule e (limited numbers x)
    → RefusesRule e (limited numbers (App f x))
right_part_refused e f x r = part_refused e x (App f x) (deep-right f x) r

pub body_refused : (e : RuleFault) (v : Variable ℕ) (b : Named ℕ)
    → RefusesRule e (limited numbers (nameless numbers b))
    → RefusesRule e (limited numbers (Abs v.ty (close numbers v (nameless numbers b))))
body_refused e v b r = part_refused e (nameless numbers b) (Abs v.ty (close numbers v (nameless numbers b)))
    (deep-body v (nameless numbers b) (within-nameless numbers tells_numbers b)) r

-- an equation of functions one of whose bodies is refused
pub left_function_refused : (e : RuleFault) (v : Variable ℕ) (ty : Ty ℕ) (a : Named ℕ) (b : Tm ℕ)
    → RefusesRule e (limited numbers (nameless numbers a))
    → RefusesRule e (within_limit numbers (equal_functions v ty (nameless numbers a) b))
left_function_refused e v ty a b r =
    let left = Abs v.ty (close numbers v (nameless numbers a)) in
    let right = Abs v.ty (close numbers v b) in
    let sides = fun_ty numbers v.ty ty in
    let equals = Con numbers.equals (fun_ty numbers sides (fun_ty numbers sides (bool_ty numbers))) in
    within-refused numbers e [] (equation numbers sides left right)
    (left_part_refused e (App equals left) right (right_part_refused e equals left (body_refused e v a r)))

pub right_function_refused : (e : RuleFault) (v : Variable ℕ) (ty : Ty ℕ) (a : Tm ℕ) (b : Named ℕ)
    → RefusesRule e (limited numbers (nameless numbers b))
    → RefusesRule e (within_limit numbers (equal_functions v ty a (nameless numbers b)))
right_function_refused e v ty a b r =
    let left = Abs v.ty (close numbers v a) in
    let right = Abs v.ty (close numbers v (nameless numbers b)) in
    let sides = fun_ty numbers v.ty ty in
    let equals = Con numbers.equals (fun_ty numbers sides (fun_ty numbers sides (bool_ty numbers))) in
    within-refused numbers e [] (equation numbers sides left right)
    (right_part_refused e (App equals left) right (body_refused e v b r))

-- ---- an application of a function to an argument that it takes
pub app_rule-is : {N : Type 0} (alphabet : Alphabet N) → Tells alphabet → (f x : Tm N) (a b : Ty N)
    → HasType alphabet f (fun_ty alphabet a b) → HasType alphabet x a
    → app_rule alphabet f x ≡ limited alphabet (App f x)
app_rule-is alphabet tells f x a b p q =
    rw (p, as_fun_ty-fun alphabet tells a b, (has_type-is alphabet tells x a).1 q) refl

-- ---- a theorem without hypotheses
pub bare_derives : (t u : TermTable) → IsTermTable t → Grows t u → (th : Theorem) (a b : Tm ℕ) (ty : Ty ℕ)
    (stated : Result (Sequent ℕ) (Fault ℕ)) → th.hyps ≡ [] → HasType numbers a ty
    → IsMadeTerm (Ok th.concl) (equation_rule numbers a b) u.terms → stated
    ≡ within_limit numbers (sequent_of numbers (equation numbers ty a b)) → Derives (Ok th) stated u.terms
bare_derives t u table g th a b ty stated none typed made rule =
    equated_derives t u table g th [] a b ty stated
    (subst (All (λ i. i < length t.terms)) (sym none) (All-nil (λ i. i < length t.terms)))
    (ap (tms_at t.terms) none) typed made rule

-- ---- a constant that equals its term
module _ (t m : TermTable) (g : Grows t m) (i name k ty : ℕ) (h : i < length t.terms)
    (made : slice_get m.terms k ≡ Some (NConst name (type_at t.types ty))) where
  abbrev term_ty : Ty ℕ
  term_ty = type_at t.types ty

  constant_is : tm_at m.terms k ≡ Con name term_ty
  constant_is = ap (nameless numbers) (new_at m k (NConst name term_ty) made).1

  pub constant_typed : HasType numbers (tm_at m.terms k) term_ty
  constant_typed = ap (type_in numbers []) constant_is

  pub constant_sides : HasType numbers (tm_at t.terms i) term_ty → type_in numbers [] (tm_at m.terms k)
      ≡ type_in numbers [] (tm_at m.terms i)
  constant_sides typed = constant_typed ∙ sym (ap (type_in numbers []) (tm_at-Grows t m g i h) ∙ typed)

  pub constant_rule : HasType numbers (tm_at t.terms i) term_ty
      → within_limit numbers
      (sequent_of numbers
      (equation numbers (type_of numbers (tm_at t.terms i)) (Con name (type_of numbers (tm_at t.terms i)))
      (tm_at t.terms i)))
      ≡ within_limit numbers (sequent_of numbers (equation numbers term_ty (tm_at m.terms k) (tm_at m.terms i)))
  constant_rule typed =
      let at = type_of-is numbers (tm_at t.terms i) term_ty typed in
      let left : Con name (type_of numbers (tm_at t.terms i)) ≡ tm_at m.terms k = ap (Con name) at
      ∙ sym constant_is in
      let right = sym (tm_at-Grows t m g i h) in
      λ j. within_limit numbers (sequent_of numbers (equation numbers (at j) (left j) (right j)))

-- ---- two functions that are equal
module _ (t : TermTable) (table : IsTermTable t) (key : VarKey) (a b : ℕ) (below : key.ty < length t.types)
    (ha : a < length t.terms) (hb : b < length t.terms)
    (same : type_in numbers [] (tm_at t.terms a) ≡ type_in numbers [] (tm_at t.terms b)) where
  abbrev var : Variable ℕ
  var = variable_of t.types key

  abbrev ty : Ty ℕ
  ty = type_of numbers (tm_at t.terms a)

  -- the equation of the bodies
  abbrev bodies : Sequent ℕ
  bodies = sequent_of numbers (equation numbers ty (tm_at t.terms a) (tm_at t.terms b))

  abbrev stated : Result (Sequent ℕ) (Fault ℕ)
  stated = within_limit numbers (equal_functions var ty (tm_at t.terms a) (tm_at t.terms b))

  sides : as_equation numbers bodies.concl ≡ Some (ty, tm_at t.terms a, tm_at t.terms b)
  sides = as_equation-equation numbers tells_numbers ty (tm_at t.terms a) (tm_at t.terms b)

  typed_left : HasType numbers (tm_at t.terms a) ty
  typed_left = type_of-typed numbers (tm_at t.terms a) (typed_at t table a ha)

  is_rule : abs_thm_rule numbers var bodies ≡ stated
  is_rule = abs_thm-is numbers bodies ty (tm_at t.terms a) (tm_at t.terms b) sides var refl

  pub left_abstraction_refused : (e : RuleFault) → RefusesRule e (abs_rule numbers var (tm_at t.terms a))
      → RefusesRule e stated
  left_abstraction_refused e r =
      subst (λ (z : Result (Sequent ℕ) (Fault ℕ)). RefusesRule e z) is_rule
      (abs_thm-left numbers tells_numbers var bodies ty (tm_at t.terms a) (tm_at t.terms b) sides refl e r)

  module _ (u : TermTable) (first : Grows t u) where
    same_right : abs_rule numbers (variable_of u.types key) (tm_at u.terms b) ≡ abs_rule numbers var (tm_at t.terms b)
    same_right =
        let binder = variable_of-Grows t u first key below in
        let body = tm_at-Grows t u first b hb in
        λ i. abs_rule numbers (binder i) (body i)

    pub right_abstraction_refused : (e : RuleFault)
        → RefusesRule e (abs_rule numbers (variable_of u.types key) (tm_at u.terms b)) → RefusesRule e stated
    right_abstraction_refused e r =
        subst (λ (z : Result (Sequent ℕ) (Fault ℕ)). RefusesRule e z) is_rule
        (abs_thm-right numbers tells_numbers var bodies ty (tm_at t.terms a) (tm_at t.terms b) sides refl e
        (subst (λ (z : Result (Tm ℕ) (Fault ℕ)). RefusesRule e z) same_right r))

    module _ (w : TermTable) (second : Grows u w) (left right : ℕ)
        (made : IsMadeTerm (Ok left) (abs_rule numbers var (tm_at t.terms a)) u.terms)
        (made_right : IsMadeTerm (Ok right) (abs_rule numbers (variable_of u.types key) (tm_at u.terms b)) w.terms) where
      functions : IsAbstractions numbers tells_numbers var bodies ty (tm_at t.terms a) (tm_at t.terms b) sides refl
          (tm_at w.terms left) (tm_at w.terms right)
      functions =
          let there = tm_at-Grows u w second left made.0 in
          abs_thm-parts numbers tells_numbers var bodies ty (tm_at t.terms a) (tm_at t.terms b) sides refl
          (tm_at w.terms left) (tm_at w.terms right) typed_left (sym same ∙ typed_left)
          (made.1 ∙ (λ i. Ok (sym there i)))
          (sym same_right ∙ made_right.1)

      pub one_type : type_in numbers [] (tm_at w.terms left) ≡ type_in numbers [] (tm_at w.terms right)
      one_type = functions.left ∙ sym functions.right

      pub functions_refused : (e : RuleFault)
          → RefusesRule e (equation_rule numbers (tm_at w.terms left) (tm_at w.terms right)) → RefusesRule e stated
      functions_refused e r = equated_refused e [] (tm_at w.terms left) (tm_at w.terms right)
          (fun_ty numbers var.ty ty) stated functions.left r (sym is_rule ∙ functions.rule)

      pub functions_derived : (x : TermTable) → IsTermTable w → Grows w x → (th : Theorem) → th.hyps ≡ []
          → IsMadeTerm (Ok th.concl) (equation_rule numbers (tm_at w.terms left) (tm_at w.terms right)) x.terms
          → Derives (Ok th) stated x.terms
      functions_derived x within third th none made_last =
          bare_derives w x within third th (tm_at w.terms left) (tm_at w.terms right) (fun_ty numbers var.ty ty)
          stated none functions.left made_last (sym is_rule ∙ functions.rule)
