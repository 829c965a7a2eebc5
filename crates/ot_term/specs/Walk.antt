-- Trees by number, and how those inside a tree are found, from the greatest number down.
--     tree i       the tree of the number i
--     Inside u t   u is the tree t, or stands inside it
use Rattle.std.specs.Prelude.{◌≡◌, ℕ, ◌<◌, List, ◌⊎◌}
use Rattle.ot_logic.specs.Lists.{IsMember}
use Rattle.ot_type.specs.Subtypes.{IsFalling}

module _ {T : Type 0} (tree : ℕ → T) where
  -- the numbers, all below the length, stand for exactly the trees that are asked for, each once, the greatest first
  pub record AreFound (len : ℕ) (IsAsked : T → Type 0) (xs : List ℕ) : Type 0 where
    pub each : (x : ℕ) → IsMember x xs → (x < len) × IsAsked (tree x)
    pub all : (u : T) → IsAsked u → (x : ℕ) × IsMember x xs × (tree x ≡ u)
    pub falling : IsFalling xs

  module _ (Inside : T → T → Type 0) where
    -- the numbers ys are xs and those of some trees inside the tree of i, among which every other one stands
    pub record AddsParts (i : ℕ) (xs ys : List ℕ) : Type 0 where
      pub kept : (y : ℕ) → IsMember y xs → IsMember y ys
      pub each : (y : ℕ) → IsMember y ys → IsMember y xs ⊎ ((y < i) × Inside (tree y) (tree i))
      pub all : (u : T) → Inside u (tree i) → (u ≡ tree i) ⊎ ((y : ℕ) × IsMember y ys × Inside u (tree y))

    -- u stands inside the tree of one of the numbers
    abbrev pub IsInsideSome : List ℕ → T → Type 0
    IsInsideSome ks u = (k : ℕ) × IsMember k ks × Inside u (tree k)
