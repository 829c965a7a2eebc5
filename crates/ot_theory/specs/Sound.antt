-- What holds of each theory that a text writes.
use Rattle.std.specs.Prelude.{◌≡◌, ◌≤◌, List, ℕ, true, codes, map, count_by}
use Rattle.std.specs.List.{AllByRecursion, filter_map}
use Rattle.ot_logic.specs.Lists.{IsMember, AreDistinct}
use Rattle.ot_theory.specs.Forms.{is_identifier}
use Rattle.ot_theory.specs.Values.{key_of, is_source, IsPath}
use Rattle.ot_theory.specs.Interpretations.{IsInterpretation}
use Rattle.ot_theory.specs.Theory.{BlockText, TheoryText, has_block, renamed}
use Rattle.ot_theory.specs.declared.interpretation.SymbolWord.{SymbolWord}
use Rattle.ot_theory.specs.declared.keys.Key.{Key}
use Rattle.ot_theory.specs.declared.keys.Key.TheVariants.{Import, Article, Package, Interpret, Other}

-- the value is an interpretation, whatever it renames
pub record IsSomeInterpretation (value : List ℕ) : Type 0 where
  pub kind : SymbolWord
  pub from : List ℕ
  pub to : List ℕ
  pub is : IsInterpretation value kind from to

-- the value is right for the key
abbrev pub IsRightValue : Key → List ℕ → Type 0
IsRightValue Import value = is_identifier value ≡ true
IsRightValue Article value = IsPath value
IsRightValue Interpret value = IsSomeInterpretation value
IsRightValue Package value = Unit {0}
IsRightValue Other value = Unit {0}

-- no value goes past its line, the values are right for their keys, the block has one source at most, and no two
-- statements rename one symbol
pub record IsRightBlock (b : BlockText) : Type 0 where
  pub lines : AllByRecursion (λ t. ¬ (IsMember 10 t.value)) b.statements
  pub values : AllByRecursion (λ t. IsRightValue (key_of t.key) t.value) b.statements
  pub sources : count_by (λ t. is_source (key_of t.key)) b.statements ≤ 1
  pub renamings : AreDistinct (filter_map (λ t. renamed (key_of t.key) t.value) b.statements)

-- there is a block `main`, no two blocks have one name, and each block is right
pub record IsSound (t : TheoryText) : Type 0 where
  pub main : has_block t.blocks (codes "main") ≡ true
  pub names : AreDistinct (map (λ b. b.name) t.blocks)
  pub blocks : AllByRecursion IsRightBlock t.blocks
