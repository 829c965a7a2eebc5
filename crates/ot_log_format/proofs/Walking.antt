-- What a walk leaves as it is, and what the type of a part depends on.
use Rattle.std.specs.Prelude.{◌==◌, slice_get}
use Rattle.std.specs.Option.{option_map}
use Rattle.std.proofs.Common.{◌≡◌, ℕ, zero, suc, ◌<◌, ◌≤◌, false, cond, ◌&&◌}
use Rattle.std.proofs.Common.{List, [], ◌∷◌, take, Some, refl, ap, arith}
use Rattle.std.proofs.lemmas.Bool.{or_parts}
use Rattle.ot_logic.specs.Trees.{Alphabet, Ty, Variable, Tm, Free, Con, Bound, App, Abs}
use Rattle.ot_logic.specs.Hol.{fun_ty, type_in, applied, close_at, open_at}
use Rattle.ot_log_format.specs.Steps.{is_within_type, has_types_within}
use Rattle.ot_log_format.specs.Walks.{loose, has_free}

module _ {N : Type 0} (alphabet : Alphabet N) where
  -- ---- parts that a walk leaves as they are
  other-place : (j k : ℕ) → j < k → (j == k) ≡ false
  other-place j k h = grind arith

  pub open-kept : (u : Tm N) (k : ℕ) (t : Tm N) → loose t ≤ k → open_at alphabet k u t ≡ t
  open-kept u k (Free w) h = refl
  open-kept u k (Con n t) h = refl
  open-kept u k (Bound j) h = ap (λ b. cond b u (Bound j)) (other-place j k (omega arith))
  open-kept u k (App f x) h = λ i. App (open-kept u k f (omega arith) i) (open-kept u k x (omega arith) i)
  open-kept u k (Abs t b) h = λ i. Abs t (open-kept u (suc k) b (omega arith) i)

  pub close-kept : (v : Variable N) (k : ℕ) (t : Tm N) → has_free t ≡ false → close_at alphabet k v t ≡ t
  close-kept v k (Free w) h = cc
  close-kept v k (Con n t) h = refl
  close-kept v k (Bound j) h = refl
  close-kept v k (App f x) h = let p = or_parts (has_free f) (has_free x) h in
      λ i. App (close-kept v k f p.0 i) (close-kept v k x p.1 i)
  close-kept v k (Abs t b) h = λ i. Abs t (close-kept v (suc k) b h i)

  -- ---- typing: of the types around a term those count to which its places lead
  same_place : (n k : ℕ) (l r : List (Ty N)) → take n l ≡ take n r → k < n → slice_get l k ≡ slice_get r k
  same_place zero k l r e h = absurd (omega arith)
  same_place (suc n) zero [] [] e h = refl
  same_place (suc n) zero [] (b ∷ r) e h = cc
  same_place (suc n) zero (a ∷ l) [] e h = cc
  same_place (suc n) zero (a ∷ l) (b ∷ r) e h = let p : a ≡ b = cc in ap Some p
  same_place (suc n) (suc k) [] [] e h = refl
  same_place (suc n) (suc k) [] (b ∷ r) e h = cc
  same_place (suc n) (suc k) (a ∷ l) [] e h = cc
  same_place (suc n) (suc k) (a ∷ l) (b ∷ r) e h = let p : take n l ≡ take n r = cc in
      same_place n k l r p (omega arith)

  pub type-cut : (n : ℕ) (l r : List (Ty N)) (t : Tm N) → take n l ≡ take n r → loose t ≤ n
      → type_in alphabet l t ≡ type_in alphabet r t
  type-cut n l r (Free v) e h = refl
  type-cut n l r (Con c t) e h = refl
  type-cut n l r (Bound k) e h = same_place n k l r e (omega arith)
  type-cut n l r (App f x) e h =
      λ i. applied alphabet (type-cut n l r f e (omega arith) i) (type-cut n l r x e (omega arith) i)
  type-cut n l r (Abs t b) e h =
      ap (option_map (fun_ty alphabet t)) (type-cut (suc n) (t ∷ l) (t ∷ r) b (ap (λ z. t ∷ z) e) (omega arith))

  pub within-cut : (n : ℕ) (l r : List (Ty N)) (t : Tm N) → take n l ≡ take n r → loose t ≤ n
      → has_types_within alphabet l t ≡ has_types_within alphabet r t
  within-cut n l r (Free v) e h = refl
  within-cut n l r (Con c t) e h = refl
  within-cut n l r (Bound k) e h = ap (is_within_type alphabet) (type-cut n l r (Bound k) e h)
  within-cut n l r (App f x) e h =
      let p = type-cut n l r (App f x) e h in
      λ i. is_within_type alphabet (p i)
      && (within-cut n l r f e (omega arith) i && within-cut n l r x e (omega arith) i)
  within-cut n l r (Abs t b) e h =
      let p = type-cut n l r (Abs t b) e h in
      λ i. is_within_type alphabet (p i) && within-cut (suc n) (t ∷ l) (t ∷ r) b (ap (λ z. t ∷ z) e) (omega arith) i
