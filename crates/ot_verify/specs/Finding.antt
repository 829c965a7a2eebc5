-- What the numbers that a record names stand for.
use Rattle.std.specs.Prelude.{◌≡◌, ℕ, List, Result, Ok, Err, Option, Some, None, slice_get}
use Rattle.std.specs.Global.{Vec}
use Rattle.ot_log_nodes.specs.Items.{Item, HasName}
use Rattle.ot_log_nodes.specs.declared.node.VariableNode.{VariableNode}
use Rattle.ot_verify.specs.Asking.{AreEach}
use Rattle.ot_verify.specs.declared.operand.NamedType.{NamedType}
use Rattle.ot_verify.specs.declared.operand.TermPair.{TermPair}
use Rattle.ot_verify.specs.declared.operand.ConstantPair.{ConstantPair}
use Rattle.ot_verify.specs.declared.log.Refusal.{Refusal}
use Rattle.ot_verify.specs.declared.log.Refusal.TheVariants as refusals

-- what an operand stands for, or that it stands for nothing
abbrev pub Finds : {X Y : Type 0} → (X → Y → Type 0) → Option Y → X → Type 0
Finds is (Some y) x = is x y
Finds {X} {Y} is None x = (y : Y) → ¬ is x y

-- what each operand stands for, or that one stands for nothing; running out of memory may be answered at any point
abbrev pub FindsEach : {X Y : Type 0} → (X → Y → Type 0) → Result (Vec Y) Refusal → List X → Type 0
FindsEach is (Ok v) xs = AreEach is xs v.items
FindsEach {X} {Y} is (Err refusals.NoSuch) xs = (ys : List Y) → ¬ AreEach is xs ys
FindsEach is (Err (refusals.Memory memory)) xs = Unit {0}
FindsEach is (Err refusals.BadStep) xs = ⊥
FindsEach is (Err refusals.LogNesting) xs = ⊥

-- the variable has the name, and the type at that place
pub record IsFoundVariable (ts : List Item) (types : List ℕ) (x : NamedType) (v : VariableNode) : Type 0 where
  pub known : HasName ts x.name
  pub name : v.name ≡ x.name
  pub ty : slice_get types x.ty ≡ Some v.ty

abbrev pub IsFoundTypePair : List Item → List ℕ → NamedType → ℕ × ℕ → Type 0
IsFoundTypePair ts types x p = IsFoundVariable ts types x (record { name = p.0; ty = p.1 })

abbrev pub IsFoundTermPair : List Item → List ℕ → List ℕ → TermPair → VariableNode × ℕ → Type 0
IsFoundTermPair ts types terms x p = IsFoundVariable ts types x.variable p.0 × (slice_get terms x.term ≡ Some p.1)

abbrev pub IsFoundConstantPair : List Item → List ℕ → ConstantPair → ℕ × VariableNode → Type 0
IsFoundConstantPair ts types x p = HasName ts x.constant × (p.0 ≡ x.constant)
    × IsFoundVariable ts types x.variable p.1
