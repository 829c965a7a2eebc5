-- How an equation is made, and what type it has.
use Rattle.std.proofs.Common.{◌≡◌, ℕ, ◌<◌, length, slice_get, Some, refl, sym, ap, ◌∙◌}
use Rattle.std.proofs.lemmas.Option.{get_or_from_slice_get}
use Rattle.ot_logic.specs.Trees.{Ty, TyVar, Named, NConst, NApp}
use Rattle.ot_logic.specs.Hol.{fun_ty, bool_ty}
use Rattle.ot_logic.specs.NamedTerms.{named_type}
use Rattle.ot_logic.specs.Naming.{numbers}
use Rattle.ot_type.specs.TypeTable.{type_at}
use Rattle.ot_term.specs.Term.{TermTable}
use Rattle.ot_term.specs.TermTable.{term_at, Grows}
use Rattle.ot_term.specs.Equality.{equality_ty, named_equation, IsEquality}
use Rattle.ot_term.specs.declared.table.equation.Equality.{Equality}
use Rattle.ot_term.proofs.Growing.{Grows-trans, type_at-Grows, term_at-Grows}
use Rattle.ot_term.proofs.Refusals.{application-typed}

-- the tree at a number, from what a call says of it
pub type_is : (t : TermTable) (i : ℕ) (x : Ty ℕ) → slice_get t.types i ≡ Some x → type_at t.types i ≡ x
type_is t i x p = get_or_from_slice_get t.types i x (TyVar 0) p

pub term_is : (t : TermTable) (i : ℕ) (x : Named ℕ) → slice_get t.terms i ≡ Some x → term_at t.terms i ≡ x
term_is t i x p = get_or_from_slice_get t.terms i x (NConst 0 (TyVar 0)) p

-- the constant that is added after its three types
pub made-equality : (s t u v w : TermTable) (ty truth test relation constant : ℕ) → Grows s t → Grows t u → Grows u v
    → w.types ≡ v.types → ty < length s.types
    → slice_get t.types truth ≡ Some (bool_ty numbers)
    → slice_get u.types test ≡ Some (fun_ty numbers (type_at t.types ty) (type_at t.types truth))
    → slice_get v.types relation ≡ Some (fun_ty numbers (type_at u.types ty) (type_at u.types test))
    → slice_get w.terms constant ≡ Some (NConst numbers.equals (type_at v.types relation))
    → IsEquality w (type_at s.types ty) (record { constant = constant; test = test; truth = truth })
made-equality s t u v w ty truth test relation constant g h k same below p q r e =
    let first = type_at-Grows s t g ty below in
    let second = type_at-Grows s u (Grows-trans g h) ty below in
    let truth_is = type_is t truth _ p in
    let test_tree : fun_ty numbers (type_at t.types ty) (type_at t.types truth) ≡ fun_ty numbers (type_at s.types ty) (bool_ty numbers) = λ i. fun_ty numbers (first i) (truth_is i) in
    let test_is = type_is u test _ q ∙ test_tree in
    let relation_is : type_at v.types relation ≡ equality_ty (type_at s.types ty) = type_is v relation _ r
    ∙ (λ i. fun_ty numbers (second i) (test_is i)) in
    record {
      constant = e ∙ ap (λ x. Some (NConst numbers.equals x)) relation_is;
      test = ap (λ ts. slice_get ts test) same ∙ k.types.keeps test _ (q ∙ ap Some test_tree);
      truth = ap (λ ts. slice_get ts truth) same ∙ k.types.keeps truth _ (h.types.keeps truth _ p);
    }

module _ (t u : TermTable) (g : Grows t u) (ty a : ℕ) (e : Equality) (below : a < length t.terms)
    (made : IsEquality u (type_at t.types ty) e)
    (typed : named_type numbers (term_at t.terms a) ≡ Some (type_at t.types ty)) where
  -- `=` applied to the first term
  pub left_tree : NApp (term_at u.terms e.constant) (term_at u.terms a)
      ≡ NApp (NConst numbers.equals (equality_ty (type_at t.types ty))) (term_at t.terms a)
  left_tree =
      let function = term_is u e.constant _ made.constant in
      let argument = term_at-Grows t u g a below in
      λ i. NApp (function i) (argument i)

  pub left_typed : named_type numbers (NApp (term_at u.terms e.constant) (term_at u.terms a))
      ≡ Some (type_at u.types e.test)
  left_typed =
      ap (named_type numbers) left_tree
      ∙ application-typed (NConst numbers.equals (equality_ty (type_at t.types ty))) (term_at t.terms a)
      (equality_ty (type_at t.types ty)) (type_at t.types ty) (type_at t.types ty)
      (fun_ty numbers (type_at t.types ty) (bool_ty numbers)) refl refl typed refl
      ∙ ap Some (sym (type_is u e.test _ made.test))

  module _ (w : TermTable) (h : Grows u w) (b left : ℕ) (below_b : b < length t.terms)
      (is_left : slice_get w.terms left ≡ Some (NApp (term_at u.terms e.constant) (term_at u.terms a))) where
    -- and to the second
    pub equation_tree : NApp (term_at w.terms left) (term_at w.terms b) ≡ named_equation (type_at t.types ty)
        (term_at t.terms a) (term_at t.terms b)
    equation_tree =
        let function = term_is w left _ is_left ∙ left_tree in
        let argument = term_at-Grows t w (Grows-trans g h) b below_b in
        λ i. NApp (function i) (argument i)

    pub equation_typed : named_type numbers (term_at t.terms b) ≡ Some (type_at t.types ty)
        → named_type numbers (NApp (term_at w.terms left) (term_at w.terms b)) ≡ Some (type_at w.types e.truth)
    equation_typed typed_b =
        application-typed (term_at w.terms left) (term_at w.terms b)
        (fun_ty numbers (type_at t.types ty) (bool_ty numbers)) (type_at t.types ty) (type_at t.types ty)
        (bool_ty numbers)
        (ap (named_type numbers) (term_is w left _ is_left) ∙ left_typed ∙ ap Some (type_is u e.test _ made.test))
        refl
        (ap (named_type numbers) (term_at-Grows t w (Grows-trans g h) b below_b) ∙ typed_b)
        refl
        ∙ ap Some (sym (type_is w e.truth _ (h.types.keeps e.truth _ made.truth)))
