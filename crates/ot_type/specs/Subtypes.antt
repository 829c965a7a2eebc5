-- The types inside a type.
use Rattle.std.specs.Prelude.{◌≡◌, ℕ, ◌<◌, List, [], ◌∷◌, length, ◌⊎◌}
use Rattle.ot_logic.specs.Lists.{IsMember}
use Rattle.ot_logic.specs.Trees.{Ty, Tys, TyVar, TyOp, NoTys, MoreTys}
use Rattle.ot_type.specs.TypeTable.{type_at}

-- u is the type, or stands inside it
abbrev mutual
  pub IsSubtype : Ty ℕ → Ty ℕ → Type 0
  IsSubtype u (TyVar n) = u ≡ TyVar n
  IsSubtype u (TyOp n ts) = (u ≡ TyOp n ts) ⊎ IsInside u ts

  pub IsInside : Ty ℕ → Tys ℕ → Type 0
  IsInside u NoTys = ⊥
  IsInside u (MoreTys t ts) = IsSubtype u t ⊎ IsInside u ts

-- each number is above all after it
abbrev pub IsFalling : List ℕ → Type 0
IsFalling [] = Unit {0}
IsFalling (x ∷ xs) = ((y : ℕ) → IsMember y xs → y < x) × IsFalling xs

-- the numbers stand for the subtypes of t, each once, the greatest number first
pub record AreSubtypes (ts : List (Ty ℕ)) (t : Ty ℕ) (xs : List ℕ) : Type 0 where
  pub each : (x : ℕ) → IsMember x xs → (x < length ts) × IsSubtype (type_at ts x) t
  pub all : (u : Ty ℕ) → IsSubtype u t → (x : ℕ) × IsMember x xs × (type_at ts x ≡ u)
  pub falling : IsFalling xs

-- the numbers ys are xs and those of some types inside the type of i, among which every other one stands
pub record AddsParts (ts : List (Ty ℕ)) (i : ℕ) (xs ys : List ℕ) : Type 0 where
  pub kept : (y : ℕ) → IsMember y xs → IsMember y ys
  pub each : (y : ℕ) → IsMember y ys → IsMember y xs ⊎ ((y < i) × IsSubtype (type_at ts y) (type_at ts i))
  pub all : (u : Ty ℕ) → IsSubtype u (type_at ts i)
      → (u ≡ type_at ts i) ⊎ ((y : ℕ) × IsMember y ys × IsSubtype u (type_at ts y))
