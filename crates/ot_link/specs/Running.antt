-- What the code runs, and when it may.
use Rattle.std.specs.Prelude.{◌≡◌, ℕ, List, map, find, Option, true, Vec, string_bytes}
use Rattle.std.specs.Global.{Global}
use Rattle.ot_theory.specs.Theory.{TagText, BlockText}
use Rattle.ot_theory.specs.Values.{IsPath, key_of, is_source}
use Rattle.ot_blocks.specs.Structure.{source_of}
use Rattle.ot_blocks.specs.Paths.{is_package}
use Rattle.ot_link.specs.Stops.{Setting}
use Rattle.ot_link.specs.Blocks as stated
use Rattle.ot_link.specs.Link.{opener}
use Rattle.ot_link.specs.Adding.{AreRight}
use Rattle.ot_link.specs.declared.blocks.File.{File}
use Rattle.ot_link.specs.declared.blocks.Source.{Source}
use Rattle.ot_link.specs.declared.blocks.Source.TheVariants.{Article, Package, Imports}

-- the full names of packages
abbrev pub chain_of : List (Vec ℕ Global) → List (List ℕ)
chain_of chain = map (λ full. full.items) chain

-- the article or the package among statements
abbrev pub first_source : List TagText → Option TagText
first_source ts = find (λ t. is_source (key_of t.key)) ts

-- how a theory file opens packages
abbrev pub opener_of : Setting → File → stated.Opener
opener_of e file = opener file.left e (chain_of file.chain.items) (string_bytes file.path)

abbrev pub source_value : Source → stated.Source
source_value (Article value) = stated.FromArticle value.now
source_value (Package line full) = stated.FromPackage line full.now
source_value Imports = stated.FromImports

-- the value of an article is a path, and that of a package a full name
abbrev pub IsSourceRight : stated.Source → Type 0
IsSourceRight (stated.FromArticle value) = IsPath value
IsSourceRight (stated.FromPackage line full) = is_package full ≡ true
IsSourceRight stated.FromImports = Unit {0}

-- what holds of each block of a theory file that has a plan
pub record IsRunnable (b : BlockText) : Type 0 where
  pub statements : AreRight b.statements
  pub source : IsSourceRight (stated.source_at (source_of b))
