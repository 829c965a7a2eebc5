-- The open theorems of a type are within the limit where its theorems and the deepest term on the way are.
use Rattle.std.specs.Prelude.{nat_le, ◌&&◌, suc}
use Rattle.std.specs.List.{list_all}
use Rattle.std.proofs.Common.{◌≡◌, ◌≤◌, true, [], ◌∷◌, Some, refl, ap, ◌∙◌, arith}
use Rattle.std.proofs.lemmas.Bool.{leb-true, le-leb, and_parts, and_from}
use Rattle.ot_logic.specs.Trees.{Alphabet, Ty, Tm, Free, Con, Bound, App, Abs}
use Rattle.ot_logic.specs.Hol.{depth_limit, fun_ty, bool_ty, type_in, applied, HasType, depth_ty}
use Rattle.ot_logic.specs.Hol.{depth_tm, is_shallow_ty, is_shallow_type, has_shallow_types}
use Rattle.ot_logic.specs.Hol.{is_shallow, is_shallow_sequent, equation, type_theorems}
use Rattle.ot_laws.proofs.Tests.{Tells}
use Rattle.ot_laws.proofs.Typing.{result_ty-fun, app-typed}
use Rattle.ot_laws.proofs.Equations.{equation-typed}
use Rattle.ot_kernel.specs.Opening.{open_theorems, beta_over}

module _ {N : Type 0} (alphabet : Alphabet N) (tells : Tells alphabet) where
  abbrev Eq : Ty N → Tm N → Tm N → Tm N
  Eq = equation alphabet

  abbrev constant : Ty N → Tm N
  constant ty = Con alphabet.equals (fun_ty alphabet ty (fun_ty alphabet ty (bool_ty alphabet)))

  abbrev partial : Ty N → Tm N → Tm N
  partial ty a = App (constant ty) a

  -- the limits of an equation
  pub record Low (ty : Ty N) (a b : Tm N) : Type 0 where
    pub left_depth : suc (suc (depth_tm alphabet a)) ≤ depth_limit
    pub right_depth : suc (depth_tm alphabet b) ≤ depth_limit
    pub ty_depth : suc (suc (depth_ty alphabet ty)) ≤ depth_limit
    pub left : has_shallow_types alphabet [] a ≡ true
    pub right : has_shallow_types alphabet [] b ≡ true

  equals-depth : (ty : Ty N) → is_shallow_type alphabet (type_in alphabet [] (constant ty)) ≡ true
      → suc (suc (depth_ty alphabet ty)) ≤ depth_limit
  equals-depth ty h = let d =
      leb-true (depth_ty alphabet (fun_ty alphabet ty (fun_ty alphabet ty (bool_ty alphabet)))) depth_limit h in
      omega (arith, d)

  pub low-of : (ty : Ty N) (a b : Tm N) → is_shallow alphabet (Eq ty a b) ≡ true → Low ty a b
  low-of ty a b h =
      let (deep, types) = and_parts (nat_le (depth_tm alphabet (Eq ty a b)) depth_limit)
      (has_shallow_types alphabet [] (Eq ty a b)) h in
      let sides =
      (and_parts (is_shallow_type alphabet (type_in alphabet [] (Eq ty a b)))
      (has_shallow_types alphabet [] (partial ty a) && has_shallow_types alphabet [] b) types).1 in
      let (first, right) = and_parts (has_shallow_types alphabet [] (partial ty a)) (has_shallow_types alphabet [] b)
      sides in
      let inner =
      (and_parts (is_shallow_type alphabet (type_in alphabet [] (partial ty a)))
      (has_shallow_types alphabet [] (constant ty) && has_shallow_types alphabet [] a) first).1 in
      let (equals, left) = and_parts (has_shallow_types alphabet [] (constant ty)) (has_shallow_types alphabet [] a)
      inner in
      let depth = leb-true (depth_tm alphabet (Eq ty a b)) depth_limit deep in
      record {
        left_depth = omega (arith, depth);
        right_depth = omega (arith, depth);
        ty_depth = equals-depth ty equals;
        left = left;
        right = right;
      }

  pub from-low : (ty : Ty N) (a b : Tm N) → HasType alphabet a ty → HasType alphabet b ty → Low ty a b
      → is_shallow alphabet (Eq ty a b) ≡ true
  from-low ty a b p q l =
      let half_type : type_in alphabet [] (partial ty a) ≡ Some (fun_ty alphabet ty (bool_ty alphabet)) =
      ap (applied alphabet (Some (fun_ty alphabet ty (fun_ty alphabet ty (bool_ty alphabet))))) p
      ∙ result_ty-fun alphabet tells ty (fun_ty alphabet ty (bool_ty alphabet)) in
      let whole_type : type_in alphabet [] (Eq ty a b) ≡ Some (bool_ty alphabet) =
      (λ i. applied alphabet (half_type i) (q i)) ∙ result_ty-fun alphabet tells ty (bool_ty alphabet) in
      let half : is_shallow_type alphabet (type_in alphabet [] (partial ty a)) ≡ true =
      ap (is_shallow_type alphabet) half_type ∙ le-leb (depth_ty alphabet (fun_ty alphabet ty (bool_ty alphabet)))
      depth_limit (omega (arith, l.ty_depth)) in
      let whole : is_shallow_type alphabet (type_in alphabet [] (Eq ty a b)) ≡ true =
      ap (is_shallow_type alphabet) whole_type in
      let equals : has_shallow_types alphabet [] (constant ty) ≡ true =
      le-leb (depth_ty alphabet (fun_ty alphabet ty (fun_ty alphabet ty (bool_ty alphabet)))) depth_limit
      (omega (arith, l.ty_depth)) in
      let inner = and_from (has_shallow_types alphabet [] (constant ty)) (has_shallow_types alphabet [] a) equals
      l.left in
      let first = and_from (is_shallow_type alphabet (type_in alphabet [] (partial ty a)))
      (has_shallow_types alphabet [] (constant ty) && has_shallow_types alphabet [] a) half inner in
      let sides = and_from (has_shallow_types alphabet [] (partial ty a)) (has_shallow_types alphabet [] b) first
      l.right in
      let types = and_from (is_shallow_type alphabet (type_in alphabet [] (Eq ty a b)))
      (has_shallow_types alphabet [] (partial ty a) && has_shallow_types alphabet [] b) whole sides in
      and_from (nat_le (depth_tm alphabet (Eq ty a b)) depth_limit) (has_shallow_types alphabet [] (Eq ty a b))
      (le-leb (depth_tm alphabet (Eq ty a b)) depth_limit (omega (arith, l.left_depth, l.right_depth))) types

  pub open-shallow : (a r : N) (ty u : Ty N) (abs rep : N) (p : Tm N)
      → HasType alphabet p (fun_ty alphabet u (bool_ty alphabet))
      → list_all (is_shallow_sequent alphabet) (type_theorems alphabet ty u abs rep p) ≡ true
      → is_shallow alphabet (beta_over alphabet (record { name = r; ty = u }) p) ≡ true
      → list_all (is_shallow_sequent alphabet) (open_theorems alphabet a r ty u abs rep p) ≡ true
  open-shallow a r ty u abs rep p h limits deep =
      let bool = bool_ty alphabet in
      let c = Con abs (fun_ty alphabet u ty) in
      let g = Con rep (fun_ty alphabet ty u) in
      let x = Free (record { name = a; ty = ty }) in
      let y = Free (record { name = r; ty = u }) in
      let trip_function = Abs ty (App c (App g (Bound 0))) in
      let same_function = Abs u (Eq u (App g (App c (Bound 0))) (Bound 0)) in
      let (one, rest) = and_parts (is_shallow alphabet (Eq (fun_ty alphabet ty ty) trip_function (Abs ty (Bound 0))))
      (is_shallow alphabet (Eq (fun_ty alphabet u bool) same_function (Abs u (App p (Bound 0)))) && true)
      limits in
      let two =
      (and_parts (is_shallow alphabet (Eq (fun_ty alphabet u bool) same_function (Abs u (App p (Bound 0))))) true
      rest).0 in
      let l = low-of (fun_ty alphabet ty ty) trip_function (Abs ty (Bound 0)) one in
      let m = low-of (fun_ty alphabet u bool) same_function (Abs u (App p (Bound 0))) two in
      let d = low-of bool (App (Abs u (App p (Bound 0))) y) (App p y) deep in
      let there_types =
      (and_parts (is_shallow_type alphabet (type_in alphabet [] trip_function))
      (has_shallow_types alphabet (ty ∷ []) (App c (App g (Bound 0)))) l.left).1 in
      let same_types =
      (and_parts (is_shallow_type alphabet (type_in alphabet [] same_function))
      (has_shallow_types alphabet (u ∷ []) (Eq u (App g (App c (Bound 0))) (Bound 0))) m.left).1 in
      let room : suc (suc (depth_ty alphabet ty)) ≤ depth_limit = let k = l.ty_depth in omega (arith, k) in
      let x_types : is_shallow_ty alphabet ty ≡ true =
      le-leb (depth_ty alphabet ty) depth_limit (omega (arith, room)) in
      let there : HasType alphabet (App c (App g x)) ty =
      app-typed alphabet tells [] c (App g x) u ty refl (app-typed alphabet tells [] g x ty u refl refl) in
      let back : HasType alphabet (App g (App c y)) u =
      app-typed alphabet tells [] g (App c y) ty u refl (app-typed alphabet tells [] c y u ty refl refl) in
      let holds : HasType alphabet (App p y) bool = app-typed alphabet tells [] p y u bool h refl in
      let same : HasType alphabet (Eq u (App g (App c y)) y) bool =
      equation-typed alphabet tells [] u (App g (App c y)) y back refl in
      let first =
      from-low ty (App c (App g x)) x there refl
      (record {
        left_depth = omega arith;
        right_depth = omega arith;
        ty_depth = room;
        left = there_types;
        right = x_types;
      }) in
      let k = d.left_depth in
      let second =
      from-low bool (App p y) (Eq u (App g (App c y)) y) holds same
      (record {
        left_depth = omega (arith, k);
        right_depth = omega arith;
        ty_depth = omega arith;
        left = d.right;
        right = same_types;
      }) in
      and_from (is_shallow alphabet (Eq ty (App c (App g x)) x))
      (is_shallow alphabet (Eq bool (App p y) (Eq u (App g (App c y)) y)) && true) first
      (and_from (is_shallow alphabet (Eq bool (App p y) (Eq u (App g (App c y)) y))) true second refl)
