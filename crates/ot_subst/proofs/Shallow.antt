-- A term whose part passes the nesting limit passes it.
use Rattle.std.specs.Prelude.{nat_le, ◌&&◌}
use Rattle.std.proofs.Common.{◌≡◌, ℕ, suc, ◌<◌, ◌≤◌, Bool, true, false, List, [], ◌∷◌}
use Rattle.std.proofs.Common.{Some, refl, ap, ◌∙◌, ◌⊎◌, inl, inr, length, ◌++◌, arith}
use Rattle.std.proofs.lemmas.Bool.Decides.{nat_tests}
use Rattle.ot_logic.specs.Trees.{Ty, Variable, Tm, Free, Con, Bound, App, Abs}
use Rattle.ot_logic.specs.Hol.{depth_limit, depth_ty, depth_tm, fun_ty, type_in, close}
use Rattle.ot_logic.specs.Hol.{has_shallow_types, is_shallow_type, is_shallow, IsWithin, close_at}
use Rattle.ot_logic.specs.Naming.{numbers}
use Rattle.ot_laws.proofs.Tests.{tells_numbers, var_cases}
use Rattle.ot_laws.proofs.Typing.{type-closed, depth-closed}

-- a conjunction of which a part fails
and_left : (a b : Bool) → a ≡ false → (a && b) ≡ false
and_left a b p = ap (λ x. x && b) p

and_right : (a b : Bool) → b ≡ false → (a && b) ≡ false
and_right true b p = p
and_right false b p = refl

and_cases : (a b : Bool) → (a && b) ≡ false → (a ≡ false) ⊎ (b ≡ false)
and_cases true b p = inr p
and_cases false b p = inl refl

not_below : (m n : ℕ) → m ≤ n → nat_le m depth_limit ≡ false → nat_le n depth_limit ≡ false
not_below m n h p = grind (arith, nat_tests)

pub deep-left : (f x : Tm ℕ) → is_shallow numbers f ≡ false → is_shallow numbers (App f x) ≡ false
deep-left f x p = elim (and_cases (nat_le (depth_tm numbers f) depth_limit) (has_shallow_types numbers [] f) p) [
  | inl q ↦ and_left (nat_le (depth_tm numbers (App f x)) depth_limit) (has_shallow_types numbers [] (App f x))
      (not_below (depth_tm numbers f) (depth_tm numbers (App f x)) (omega arith) q)
  | inr q ↦ and_right (nat_le (depth_tm numbers (App f x)) depth_limit) (has_shallow_types numbers [] (App f x))
      (and_right (is_shallow_type numbers (type_in numbers [] (App f x)))
      (has_shallow_types numbers [] f && has_shallow_types numbers [] x)
      (and_left (has_shallow_types numbers [] f) (has_shallow_types numbers [] x) q))
]

pub deep-right : (f x : Tm ℕ) → is_shallow numbers x ≡ false → is_shallow numbers (App f x) ≡ false
deep-right f x p = elim (and_cases (nat_le (depth_tm numbers x) depth_limit) (has_shallow_types numbers [] x) p) [
  | inl q ↦ and_left (nat_le (depth_tm numbers (App f x)) depth_limit) (has_shallow_types numbers [] (App f x))
      (not_below (depth_tm numbers x) (depth_tm numbers (App f x)) (omega arith) q)
  | inr q ↦ and_right (nat_le (depth_tm numbers (App f x)) depth_limit) (has_shallow_types numbers [] (App f x))
      (and_right (is_shallow_type numbers (type_in numbers [] (App f x)))
      (has_shallow_types numbers [] f && has_shallow_types numbers [] x)
      (and_right (has_shallow_types numbers [] f) (has_shallow_types numbers [] x) q))
]

-- the types under a binder are those of the open body
shallow-closed : (l : List (Ty ℕ)) (v : Variable ℕ) (t : Tm ℕ) → IsWithin numbers (length l) t
    → has_shallow_types numbers (l ++ v.ty ∷ []) (close_at numbers (length l) v t) ≡ has_shallow_types numbers l t
shallow-closed l v (Free w) h = elim (var_cases numbers tells_numbers w v) [
  | inl q ↦ rw q.0 (ap (is_shallow_type numbers) (rw q.0 at (type-closed numbers tells_numbers l v (Free w) h)))
  | inr q ↦ rw q.0
]
shallow-closed l v (Con n t) h = refl
shallow-closed l v (Bound j) h = ap (is_shallow_type numbers) (type-closed numbers tells_numbers l v (Bound j) h)
shallow-closed l v (App f x) h = λ i. is_shallow_type numbers (type-closed numbers tells_numbers l v (App f x) h i)
    && (shallow-closed l v f h.0 i && shallow-closed l v x h.1 i)
shallow-closed l v (Abs t b) h = λ i. is_shallow_type numbers (type-closed numbers tells_numbers l v (Abs t b) h i)
    && shallow-closed (t ∷ l) v b h i

pub deep-body : (v : Variable ℕ) (t : Tm ℕ) → IsWithin numbers 0 t → is_shallow numbers t ≡ false
    → is_shallow numbers (Abs v.ty (close numbers v t)) ≡ false
deep-body v t h p = elim (and_cases (nat_le (depth_tm numbers t) depth_limit) (has_shallow_types numbers [] t) p) [
  | inl q ↦ and_left (nat_le (suc (depth_tm numbers (close numbers v t))) depth_limit) _
      (not_below (depth_tm numbers t) (suc (depth_tm numbers (close numbers v t)))
      (omega (arith, depth-closed numbers tells_numbers 0 v t)) q)
  | inr q ↦ and_right (nat_le (suc (depth_tm numbers (close numbers v t))) depth_limit) _
      (and_right (is_shallow_type numbers (type_in numbers [] (Abs v.ty (close numbers v t))))
      (has_shallow_types numbers (v.ty ∷ []) (close numbers v t)) (shallow-closed [] v t h ∙ q))
]

-- ---- types that are too deep
too_deep : (n : ℕ) → depth_limit < n → nat_le n depth_limit ≡ false
too_deep n h = grind (arith, nat_tests)

pub deep-free : (v : Variable ℕ) → depth_limit < depth_ty numbers v.ty → is_shallow numbers (Free v) ≡ false
deep-free v h = too_deep (depth_ty numbers v.ty) h

pub deep-binder : (a b : Ty ℕ) (t : Tm ℕ) → type_in numbers [] (Abs a t) ≡ Some (fun_ty numbers a b)
    → depth_limit < depth_ty numbers a → is_shallow numbers (Abs a t) ≡ false
deep-binder a b t typed h =
    and_right (nat_le (depth_tm numbers (Abs a t)) depth_limit) _
    (and_left (is_shallow_type numbers (type_in numbers [] (Abs a t))) (has_shallow_types numbers (a ∷ []) t)
    (ap (is_shallow_type numbers) typed ∙ too_deep (depth_ty numbers (fun_ty numbers a b)) (omega (arith, h))))
