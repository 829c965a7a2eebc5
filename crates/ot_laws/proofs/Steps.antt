-- What is known where the steps of a rule were not refused.
use Rattle.std.specs.Prelude.{if◌then◌else◌}
use Rattle.std.specs.Option.{option_and_then}
use Rattle.std.proofs.Common.{◌≡◌, Bool, true, false, [], Option, Some, None}
use Rattle.std.proofs.Common.{Result, Ok, Err, refl, sym, ap, subst, ◌∙◌}
use Rattle.ot_logic.specs.Trees.{Alphabet, Ty, Tys, TyOp, Variable, Tm, App, Abs, Sequent}
use Rattle.ot_logic.specs.Hol.{fun_ty, as_fun_ty, is_shallow_ty, type_in, HasType, IsWellTyped}
use Rattle.ot_logic.specs.Hol.{close, is_shallow, equation, as_equation, is_shallow_sequent}
use Rattle.ot_logic.specs.Faults.{Fault, NotEquation, NotFunction, ArgumentType, Nesting}
use Rattle.ot_logic.specs.Answers.{unless, some_or}
use Rattle.ot_logic.specs.Rules.{has_type, op_rule, app_rule, abs_rule, within_limit, sides}
use Rattle.ot_laws.proofs.Tests.{Tells, has_type-is}
use Rattle.ot_laws.proofs.Typing.{app-typed, as_fun_ty-some, type-close_at}
use Rattle.ot_laws.proofs.Equations.{as_equation-some}
use Rattle.ot_logic.proofs.Results.{bind-ok, same_Ok, some_or-ok, unless-ok}

pub and_then-some : {A B : Type 0} (f : A → Option B) (o : Option A) (y : B) → option_and_then f o ≡ Some y
    → (x : A) × (o ≡ Some x) × (f x ≡ Some y)
and_then-some f (Some x) y h = (x, refl, h)
and_then-some f None y h = cc

-- a last condition
pub limit-ok : {A E : Type 0} (b : Bool) (e : E) (x y : A) → ◌≡◌ {A = Result A E} (if b then Ok x else Err e) (Ok y)
    → (b ≡ true) × (x ≡ y)
limit-ok true e x y h = (refl, same_Ok x y h)
limit-ok false e x y h = cc

module _ {N : Type 0} (alphabet : Alphabet N) (tells : Tells alphabet) where
  pub within_limit-ok : (q r : Sequent N) → within_limit alphabet q ≡ Ok r → (is_shallow_sequent alphabet q ≡ true)
      × (q ≡ r)
  within_limit-ok q r h = limit-ok (is_shallow_sequent alphabet q) Nesting q r h

  -- the conclusion is the equation of the two sides
  pub sides-ok : (q : Sequent N) (e : Ty N × Tm N × Tm N) → sides alphabet q ≡ Ok e
      → q.concl ≡ equation alphabet e.0 e.1 e.2
  sides-ok q e h =
      as_equation-some alphabet tells q.concl e.0 e.1 e.2 (some_or-ok NotEquation (as_equation alphabet q.concl) e h)

  -- ---- the rules by which types and terms are made
  pub op_rule-ok : (n : N) (ts : Tys N) (t : Ty N) → op_rule alphabet n ts ≡ Ok t
      → (t ≡ TyOp n ts) × (is_shallow_ty alphabet t ≡ true)
  op_rule-ok n ts t h = let (s, e) = limit-ok (is_shallow_ty alphabet (TyOp n ts)) Nesting (TyOp n ts) t h in
      (sym e, subst (λ z. is_shallow_ty alphabet z ≡ true) e s)

  -- a term that passes the limit
  made-term : (x t : Tm N) → IsWellTyped alphabet x
      → ◌≡◌ {A = Result (Tm N) (Fault N)} (if is_shallow alphabet x then Ok x else Err Nesting) (Ok t)
      → (t ≡ x) × IsWellTyped alphabet t × (is_shallow alphabet t ≡ true)
  made-term x t w h = let (s, e) = limit-ok (is_shallow alphabet x) Nesting x t h in
      (sym e, subst (IsWellTyped alphabet) e w, subst (λ z. is_shallow alphabet z ≡ true) e s)

  pub app_rule-ok : (f x t : Tm N) → app_rule alphabet f x ≡ Ok t → (t ≡ App f x) × IsWellTyped alphabet t
      × (is_shallow alphabet t ≡ true)
  app_rule-ok f x t h =
      let (c, p, k) = bind-ok (some_or NotFunction (option_and_then (as_fun_ty alphabet) (type_in alphabet [] f))) _ t
      h in
      let (u, r, l) = bind-ok (unless ArgumentType (has_type alphabet x c.0)) _ t k in
      let (a, q, m) = and_then-some (as_fun_ty alphabet) (type_in alphabet [] f) c
      (some_or-ok NotFunction (option_and_then (as_fun_ty alphabet) (type_in alphabet [] f)) c p) in
      let from : HasType alphabet f (fun_ty alphabet c.0 c.1) =
      q ∙ ap Some (as_fun_ty-some alphabet tells a c.0 c.1 m) in
      let to : HasType alphabet x c.0 =
      (has_type-is alphabet tells x c.0).0 (unless-ok ArgumentType (has_type alphabet x c.0) u r) in
      made-term (App f x) t (c.1, app-typed alphabet tells [] f x c.0 c.1 from to) l

  pub abs_rule-ok : (v : Variable N) (b t : Tm N) → IsWellTyped alphabet b → abs_rule alphabet v b ≡ Ok t
      → (t ≡ Abs v.ty (close alphabet v b)) × IsWellTyped alphabet t × (is_shallow alphabet t ≡ true)
  abs_rule-ok v b t w h =
      let typed : HasType alphabet (Abs v.ty (close alphabet v b)) (fun_ty alphabet v.ty w.0) =
      rw (type-close_at alphabet tells [] v b w.0 w.1) refl in
      made-term (Abs v.ty (close alphabet v b)) t (fun_ty alphabet v.ty w.0, typed) h
