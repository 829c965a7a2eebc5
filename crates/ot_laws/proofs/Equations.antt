-- Equations: their parts and their types.
use Rattle.std.proofs.Common.{◌≡◌, Bool, true, false, cond, ◌&&◌, List, [], Option, Some, None, refl, sym, ap, ◌∙◌}
use Rattle.std.proofs.lemmas.Bool.{and_parts}
use Rattle.std.proofs.lemmas.Option.{same_Some}
use Rattle.ot_logic.specs.Trees.{Alphabet, Ty, TyOp, NoTys, MoreTys, Tm, Con, App}
use Rattle.ot_logic.specs.Hol.{same_ty, fun_ty, bool_ty, type_in, applied, HasType, equation, as_equation}
use Rattle.ot_laws.proofs.Tests.{Tells, same_ty-is}
use Rattle.ot_laws.proofs.Typing.{result_ty-fun, applied-some}

module _ {N : Type 0} (alphabet : Alphabet N) (tells : Tells alphabet) where
  pub as_equation-equation : (ty : Ty N) (a b : Tm N) → as_equation alphabet (equation alphabet ty a b)
      ≡ Some (ty, a, b)
  as_equation-equation ty a b =
      rw (
        (tells alphabet.equals alphabet.equals).1 refl,
        (same_ty-is alphabet tells (fun_ty alphabet ty (fun_ty alphabet ty (bool_ty alphabet)))
            (fun_ty alphabet ty (fun_ty alphabet ty (bool_ty alphabet)))).1 refl,
      ) refl

  pub as_equation-some : (t : Tm N) (ty : Ty N) (a b : Tm N) → as_equation alphabet t ≡ Some (ty, a, b)
      → t ≡ equation alphabet ty a b
  as_equation-some (App (App (Con n (TyOp m (MoreTys u (MoreTys v NoTys)))) x) y) ty a b h =
      go (alphabet.same n alphabet.equals && same_ty alphabet (TyOp m (MoreTys u (MoreTys v NoTys)))
      (fun_ty alphabet u (fun_ty alphabet u (bool_ty alphabet)))) refl h
    where
      go : (r : Bool)
          → (alphabet.same n alphabet.equals && same_ty alphabet (TyOp m (MoreTys u (MoreTys v NoTys)))
          (fun_ty alphabet u (fun_ty alphabet u (bool_ty alphabet)))) ≡ r
          → cond {A = Option (Ty N × Tm N × Tm N)} r (Some (u, x, y)) None ≡ Some (ty, a, b)
          → App (App (Con n (TyOp m (MoreTys u (MoreTys v NoTys)))) x) y ≡ equation alphabet ty a b
      go true e k =
          let p = and_parts (alphabet.same n alphabet.equals)
          (same_ty alphabet (TyOp m (MoreTys u (MoreTys v NoTys)))
          (fun_ty alphabet u (fun_ty alphabet u (bool_ty alphabet)))) e in
          let q = (tells n alphabet.equals).0 p.0 in
          let r = (same_ty-is alphabet tells (TyOp m (MoreTys u (MoreTys v NoTys)))
          (fun_ty alphabet u (fun_ty alphabet u (bool_ty alphabet)))).0 p.1 in
          let parts : ◌≡◌ {A = Ty N × Tm N × Tm N} (u, x, y) (ty, a, b) = same_Some (u, x, y) (ty, a, b) k in
          let at_type : u ≡ ty = ap (λ z. z.0) parts in
          let left : x ≡ a = ap (λ z. z.1) parts in
          let right : y ≡ b = ap (λ z. z.2) parts in
          cc
      go false e k = cc
  as_equation-some _ ty a b h = cc

  -- an equation of two terms of its type is of the type of propositions
  pub equation-typed : (l : List (Ty N)) (ty : Ty N) (a b : Tm N) → type_in alphabet l a ≡ Some ty
      → type_in alphabet l b ≡ Some ty → type_in alphabet l (equation alphabet ty a b) ≡ Some (bool_ty alphabet)
  equation-typed l ty a b p q =
      rw (p, result_ty-fun alphabet tells ty (fun_ty alphabet ty (bool_ty alphabet)), q)
      (result_ty-fun alphabet tells ty (bool_ty alphabet))

  pub equation-sides : (ty u : Ty N) (a b : Tm N) → HasType alphabet (equation alphabet ty a b) u
      → HasType alphabet a ty × HasType alphabet b ty
  equation-sides ty u a b h =
      let (y, p, q) =
      applied-some alphabet tells
      (applied alphabet (Some (fun_ty alphabet ty (fun_ty alphabet ty (bool_ty alphabet))))
      (type_in alphabet [] a)) (type_in alphabet [] b) u h in
      let (x, r, s) = applied-some alphabet tells (Some (fun_ty alphabet ty (fun_ty alphabet ty (bool_ty alphabet))))
      (type_in alphabet [] a) (fun_ty alphabet y u) p in
      let e : ty ≡ x = cc in
      let f : ty ≡ y = cc in
      (s ∙ ap Some (sym e), q ∙ ap Some (sym f))
