-- Numbers below 2^32 have different ranks.
use Rattle.std.proofs.Common.{◌≡◌, ℕ, ◌+◌, ◌*◌, ◌%◌, ◌<◌, List, ◌++◌, sym, ap, subst, ◌∙◌, inl, inr, ◌⊎◌, arith}
use Rattle.std.specs.Prelude.{nat_lt, ◌≢◌, false}
use Rattle.std.proofs.lemmas.Bool.Decides.{nat_tests}
use Rattle.std.proofs.lemmas.Nat.{mul-mod_first, mod-mul-add}
use Rattle.ot_logic.proofs.Members.{IsMember-cases}
use Rattle.ot_lists.specs.Ranks.{rank, IsTop}

-- the number of a rank
abbrev unrank : ℕ → ℕ
unrank r = (r * 340573321) % 4294967296

whole : (x : ℕ) → (x * 2654435769) * 340573321 ≡ (x * 210485888) * 4294967296 + x
whole x = omega arith

unrank-rank : (x : ℕ) → x < 4294967296 → unrank (rank x) ≡ x
unfolding rank
unrank-rank x h =
    mul-mod_first (x * 2654435769) 340573321 4294967296 ∙ ap (λ n. n % 4294967296) (whole x)
    ∙ mod-mul-add (x * 210485888) 4294967296 x h

pub rank-one : (x y : ℕ) → x < 4294967296 → y < 4294967296 → rank x ≡ rank y → x ≡ y
rank-one x y h k e = sym (unrank-rank x h) ∙ ap unrank e ∙ unrank-rank y k

-- of two numbers one has the higher rank
pub lower : (x y l r : ℕ) → x < 4294967296 → y < 4294967296 → l ≡ rank x → r ≡ rank y → nat_lt r l ≡ false → x ≢ y
    → rank x < rank y
lower x y l r h k p q e n =
    let apart : rank x ≢ rank y = λ z. n (rank-one x y h k z) in
    grind (arith, nat_tests)

-- the higher of two is that of both
module _ (x y : ℕ) (l m : List ℕ) (top : IsTop x l) (other : IsTop y m) where
  pub top-left : rank y < rank x → IsTop x (l ++ m)
  top-left h z i = elim (IsMember-cases z l m i) [
    | inl p ↦ top z p
    | inr p ↦ inr (by (other z p))
  ]
    where
      by : (z ≡ y) ⊎ (rank z < rank y) → rank z < rank x
      by (inl e) = subst (λ w. rank w < rank x) (sym e) h
      by (inr k) = omega (arith, h, k)

  pub top-right : rank x < rank y → IsTop y (l ++ m)
  top-right h z i = elim (IsMember-cases z l m i) [
    | inl p ↦ inr (by (top z p))
    | inr p ↦ other z p
  ]
    where
      by : (z ≡ x) ⊎ (rank z < rank x) → rank z < rank y
      by (inl e) = subst (λ w. rank w < rank y) (sym e) h
      by (inr k) = omega (arith, h, k)
