-- Laws of the order, in other words.
use Rattle.std.specs.Prelude.{◌≡◌, ◌≢◌, ◌<◌, ℕ, List, [], ◌∷◌, ◌++◌, length}
use Rattle.ot_logic.specs.Lists.{IsMember, AreDistinct}
use Rattle.ot_walk.specs.Walk.{Walked, Stops, TooDeep}
use Rattle.ot_blocks.specs.Order.{order_of, imports_at}
use Rattle.ot_blocks.specs.declared.walk.Import.{Import}

-- each import names a block of the file
abbrev pub NamesBlocks : List (List Import) → Type 0
NamesBlocks g = (b : ℕ) (i : Import) → IsMember i (imports_at g b) → i.block < length g

-- imports lead from one block to another, or it is the same one
pub data Reaches (g : List (List Import)) : ℕ → ℕ → Type 0 where
  Here : (b : ℕ) → Reaches g b b
  Along : (a c : ℕ) (i : Import) → IsMember i (imports_at g a) → Reaches g i.block c → Reaches g a c

-- the blocks that `main` reaches: each once, behind all that it imports, and `main` at the end
pub record IsOrder (g : List (List Import)) (main : ℕ) (order : List ℕ) : Type 0 where
  pub once : AreDistinct order
  pub main_last : (front : List ℕ) × (order ≡ front ++ main ∷ [])
  pub imports_first : (front back : List ℕ) (b : ℕ) → order ≡ front ++ b ∷ back → (i : Import)
      → IsMember i (imports_at g b) → IsMember i.block front
  pub reached : (b : ℕ) → IsMember b order → Reaches g main b

-- `main` reaches a block whose import in this line leads back to that block
pub record HasCycleAt (g : List (List Import)) (main line : ℕ) : Type 0 where
  pub block : ℕ
  pub reached : Reaches g main block
  pub back : Import
  pub is_import : IsMember back (imports_at g block)
  pub in_line : back.line ≡ line
  pub returns : Reaches g back.block block

-- a law: the bound is enough
abbrev pub EndsAlways : Type 0
EndsAlways = (g : List (List Import)) (main : ℕ) → NamesBlocks g → main < length g → order_of g main ≢ TooDeep

-- a law: what the order is
abbrev pub GivesOrder : Type 0
GivesOrder = (g : List (List Import)) (main : ℕ) (order : List ℕ) → order_of g main ≡ Walked order
    → IsOrder g main order

-- a law: where there is no order, there is a cycle
abbrev pub GivesCycle : Type 0
GivesCycle = (g : List (List Import)) (main line : ℕ) → order_of g main ≡ Stops line → HasCycleAt g main line
