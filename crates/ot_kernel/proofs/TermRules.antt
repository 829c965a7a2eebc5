-- What the rules answer on the nameless forms of named terms.
use Rattle.std.specs.Prelude.{◌≢◌, Ok, Err}
use Rattle.std.proofs.Common.{◌≡◌, ◌<◌, ◌≤◌, true, false, Option, Some, None, refl, sym, ap, ◌∙◌, inl, inr}
use Rattle.std.proofs.lemmas.Bool.{le-leb, lt-leb}
use Rattle.ot_logic.specs.Trees.{Alphabet, Ty, Tys, TyOp, Variable, Named, NApp, NAbs}
use Rattle.ot_logic.specs.Hol.{fun_ty, as_fun_ty, depth_ty, depth_limit, is_shallow}
use Rattle.ot_logic.specs.NamedTerms.{nameless, named_type}
use Rattle.ot_logic.specs.Faults.{NotFunction, ArgumentType, Nesting}
use Rattle.ot_logic.specs.Rules.{has_type, op_rule, app_rule, abs_rule}
use Rattle.ot_laws.proofs.Tests.{Tells, has_type-is, cases_of}
use Rattle.ot_laws.proofs.Typing.{as_fun_ty-some, as_fun_ty-fun, applied-some, type-nameless}

module _ {N : Type 0} (alphabet : Alphabet N) where
  pub op-made : (n : N) (ts : Tys N) → depth_ty alphabet (TyOp n ts) ≤ depth_limit
      → op_rule alphabet n ts ≡ Ok (TyOp n ts)
  op-made n ts h = rw (le-leb (depth_ty alphabet (TyOp n ts)) depth_limit h) refl

  pub op-nesting : (n : N) (ts : Tys N) → depth_limit < depth_ty alphabet (TyOp n ts)
      → op_rule alphabet n ts ≡ Err Nesting
  op-nesting n ts h = rw (lt-leb (depth_ty alphabet (TyOp n ts)) depth_limit h) refl

module _ {N : Type 0} (alphabet : Alphabet N) (tells : Tells alphabet) where
  -- ---- the test of a type
  pub has_type-named : (t : Named N) (ty : Ty N) → named_type alphabet t ≡ Some ty
      → has_type alphabet (nameless alphabet t) ty ≡ true
  has_type-named t ty h = (has_type-is alphabet tells (nameless alphabet t) ty).1 (type-nameless alphabet tells t ∙ h)

  pub has_type-other : (t : Named N) (ty : Ty N) → named_type alphabet t ≢ Some ty
      → has_type alphabet (nameless alphabet t) ty ≡ false
  has_type-other t ty h =
      elim (cases_of (has_type alphabet (nameless alphabet t) ty)
      (has_type-is alphabet tells (nameless alphabet t) ty)) [
        | inl p ↦ absurd (h (sym (type-nameless alphabet tells t) ∙ p.1))
        | inr p ↦ p.0
      ]

  -- ---- terms
  pub app-made : (f x : Named N) (b : Ty N) → named_type alphabet (NApp f x) ≡ Some b
      → is_shallow alphabet (nameless alphabet (NApp f x)) ≡ true
      → app_rule alphabet (nameless alphabet f) (nameless alphabet x) ≡ Ok (nameless alphabet (NApp f x))
  app-made f x b h s =
      let (a, p, q) = applied-some alphabet tells (named_type alphabet f) (named_type alphabet x) b h in
      rw (s, type-nameless alphabet tells f ∙ p, as_fun_ty-fun alphabet tells a b, has_type-named x a q) refl

  pub app-not_function : (f x : Named N) → ((a b : Ty N) → named_type alphabet f ≢ Some (fun_ty alphabet a b))
      → app_rule alphabet (nameless alphabet f) (nameless alphabet x) ≡ Err NotFunction
  app-not_function f x h = go (named_type alphabet f) refl
    where
      no_parts : (ty : Ty N) → named_type alphabet f ≡ Some ty → (o : Option (Ty N × Ty N))
          → as_fun_ty alphabet ty ≡ o → as_fun_ty alphabet ty ≡ None
      no_parts ty e None p = p
      no_parts ty e (Some q) p = absurd (h q.0 q.1 (e ∙ ap Some (as_fun_ty-some alphabet tells ty q.0 q.1 p)))

      go : (o : Option (Ty N)) → named_type alphabet f ≡ o
          → app_rule alphabet (nameless alphabet f) (nameless alphabet x) ≡ Err NotFunction
      go None e = rw (type-nameless alphabet tells f ∙ e) refl
      go (Some ty) e = rw (type-nameless alphabet tells f ∙ e, no_parts ty e (as_fun_ty alphabet ty) refl) refl

  pub app-argument_type : (f x : Named N) (a b : Ty N) → named_type alphabet f ≡ Some (fun_ty alphabet a b)
      → named_type alphabet x ≢ Some a → app_rule alphabet (nameless alphabet f) (nameless alphabet x)
      ≡ Err ArgumentType
  app-argument_type f x a b p q =
      rw (type-nameless alphabet tells f ∙ p, as_fun_ty-fun alphabet tells a b, has_type-other x a q) refl

  pub app-nesting : (f x : Named N) (b : Ty N) → named_type alphabet (NApp f x) ≡ Some b
      → is_shallow alphabet (nameless alphabet (NApp f x)) ≡ false
      → app_rule alphabet (nameless alphabet f) (nameless alphabet x) ≡ Err Nesting
  app-nesting f x b h s =
      let (a, p, q) = applied-some alphabet tells (named_type alphabet f) (named_type alphabet x) b h in
      rw (s, type-nameless alphabet tells f ∙ p, as_fun_ty-fun alphabet tells a b, has_type-named x a q) refl

  pub abs-made : (v : Variable N) (t : Named N) → is_shallow alphabet (nameless alphabet (NAbs v t)) ≡ true
      → abs_rule alphabet v (nameless alphabet t) ≡ Ok (nameless alphabet (NAbs v t))
  abs-made v t s = rw s refl

  pub abs-nesting : (v : Variable N) (t : Named N) → is_shallow alphabet (nameless alphabet (NAbs v t)) ≡ false
      → abs_rule alphabet v (nameless alphabet t) ≡ Err Nesting
  abs-nesting v t s = rw s refl
