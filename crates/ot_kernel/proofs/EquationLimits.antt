-- The nesting limit of equations.
use Rattle.std.specs.Prelude.{nat_le}
use Rattle.std.proofs.Common.{◌≡◌, suc, ◌≤◌, true, ◌&&◌, [], Option, sym, ◌∙◌, subst, arith}
use Rattle.std.proofs.lemmas.Bool.{leb-true, le-leb, and_parts, and_from}
use Rattle.ot_logic.specs.Trees.{Alphabet, Ty, Tm, Con, App}
use Rattle.ot_logic.specs.Hol.{depth_limit, fun_ty, bool_ty, type_in, applied, HasType, depth_tm}
use Rattle.ot_logic.specs.Hol.{is_shallow_type, has_shallow_types, is_shallow, equation}

module _ {N : Type 0} (alphabet : Alphabet N) where
  -- the constant `=`, and its application to the left side
  abbrev constant : Ty N → Tm N
  constant ty = Con alphabet.equals (fun_ty alphabet ty (fun_ty alphabet ty (bool_ty alphabet)))

  abbrev partial : Ty N → Tm N → Tm N
  partial ty a = App (constant ty) a

  -- the limits of an equation, part by part
  record Parts (ty : Ty N) (a b : Tm N) : Type 0 where
    left_depth : suc (suc (depth_tm alphabet a)) ≤ depth_limit
    right_depth : suc (depth_tm alphabet b) ≤ depth_limit
    whole : is_shallow_type alphabet (applied alphabet (type_in alphabet [] (partial ty a)) (type_in alphabet [] b))
        ≡ true
    half : is_shallow_type alphabet (type_in alphabet [] (partial ty a)) ≡ true
    equals : is_shallow_type alphabet (type_in alphabet [] (constant ty)) ≡ true
    left : has_shallow_types alphabet [] a ≡ true
    right : has_shallow_types alphabet [] b ≡ true

  parts_of : (ty : Ty N) (a b : Tm N) → is_shallow alphabet (equation alphabet ty a b) ≡ true → Parts ty a b
  parts_of ty a b h =
      let (deep, types) = and_parts (nat_le (depth_tm alphabet (equation alphabet ty a b)) depth_limit)
      (has_shallow_types alphabet [] (equation alphabet ty a b)) h in
      let (whole, sides) = and_parts (is_shallow_type alphabet (type_in alphabet [] (equation alphabet ty a b)))
      (has_shallow_types alphabet [] (partial ty a) && has_shallow_types alphabet [] b) types in
      let (first, right) = and_parts (has_shallow_types alphabet [] (partial ty a)) (has_shallow_types alphabet [] b)
      sides in
      let (half, inner) = and_parts (is_shallow_type alphabet (type_in alphabet [] (partial ty a)))
      (has_shallow_types alphabet [] (constant ty) && has_shallow_types alphabet [] a) first in
      let (equals, left) = and_parts (has_shallow_types alphabet [] (constant ty)) (has_shallow_types alphabet [] a)
      inner in
      let depth = leb-true (depth_tm alphabet (equation alphabet ty a b)) depth_limit deep in
      record {
        left_depth = omega (arith, depth);
        right_depth = omega (arith, depth);
        whole = whole;
        half = half;
        equals = equals;
        left = left;
        right = right;
      }

  from_parts : (ty : Ty N) (a b : Tm N) → Parts ty a b → is_shallow alphabet (equation alphabet ty a b) ≡ true
  from_parts ty a b p =
      let inner = and_from (has_shallow_types alphabet [] (constant ty)) (has_shallow_types alphabet [] a) p.equals
      p.left in
      let first = and_from (is_shallow_type alphabet (type_in alphabet [] (partial ty a)))
      (has_shallow_types alphabet [] (constant ty) && has_shallow_types alphabet [] a) p.half inner in
      let sides = and_from (has_shallow_types alphabet [] (partial ty a)) (has_shallow_types alphabet [] b) first
      p.right in
      let types = and_from (is_shallow_type alphabet (type_in alphabet [] (equation alphabet ty a b)))
      (has_shallow_types alphabet [] (partial ty a) && has_shallow_types alphabet [] b) p.whole sides in
      and_from (nat_le (depth_tm alphabet (equation alphabet ty a b)) depth_limit)
      (has_shallow_types alphabet [] (equation alphabet ty a b))
      (le-leb (depth_tm alphabet (equation alphabet ty a b)) depth_limit
      (omega (arith, p.left_depth, p.right_depth))) types

  shallow_from : (t : Tm N) → depth_tm alphabet t ≤ depth_limit → has_shallow_types alphabet [] t ≡ true
      → is_shallow alphabet t ≡ true
  shallow_from t d h = and_from (nat_le (depth_tm alphabet t) depth_limit) (has_shallow_types alphabet [] t)
      (le-leb (depth_tm alphabet t) depth_limit d) h

  -- each side of an equation within the limit is within it
  pub shallow-left : (ty : Ty N) (a b : Tm N) → is_shallow alphabet (equation alphabet ty a b) ≡ true
      → is_shallow alphabet a ≡ true
  shallow-left ty a b h = let p = parts_of ty a b h in shallow_from a (omega (arith, p.left_depth)) p.left

  pub shallow-right : (ty : Ty N) (a b : Tm N) → is_shallow alphabet (equation alphabet ty a b) ≡ true
      → is_shallow alphabet b ≡ true
  shallow-right ty a b h = let p = parts_of ty a b h in shallow_from b (omega (arith, p.right_depth)) p.right

  -- where two equations are within the limit, so is that of the left side of one and the right side of the other
  pub shallow-outer : (ty : Ty N) (a b c d : Tm N) → HasType alphabet b ty → HasType alphabet d ty
      → is_shallow alphabet (equation alphabet ty a b) ≡ true → is_shallow alphabet (equation alphabet ty c d) ≡ true
      → is_shallow alphabet (equation alphabet ty a d) ≡ true
  shallow-outer ty a b c d typed_b typed_d h k =
      let p = parts_of ty a b h in
      let q = parts_of ty c d k in
      let same = typed_b ∙ sym typed_d in
      from_parts ty a d (record {
        left_depth = p.left_depth;
        right_depth = q.right_depth;
        whole = subst
            (λ (o : Option (Ty N)). is_shallow_type alphabet (applied alphabet (type_in alphabet [] (partial ty a)) o)
            ≡ true) same p.whole;
        half = p.half;
        equals = p.equals;
        left = p.left;
        right = q.right;
      })
