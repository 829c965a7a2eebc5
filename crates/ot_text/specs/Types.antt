-- The nodes of types, in what has types.
use Rattle.std.specs.Prelude.{◌≡◌, map}
use Rattle.std.specs.List.{All}
use Rattle.ot_logic.specs.Names.{Name}
use Rattle.ot_logic.specs.Trees.{Ty, TyVar, TyOp}
use Rattle.ot_logic.specs.PlainTrees.{tys_of}
use Rattle.ot_text.specs.declared.types.TypeForm.{TypeForm}
use Rattle.ot_text.specs.declared.types.TypeForm.TheVariants.{Variable, Operator}

-- the type of a node, by what its arguments stand for
abbrev pub type_of : {X : Type 0} → (X → Ty Name) → TypeForm X → Ty Name
type_of at (Variable n) = TyVar n.now
type_of at (Operator n args) = TyOp n.now (tys_of (map at args.now))

-- that holds of each argument
abbrev pub OfArguments : {X : Type 0} → (X → Type 0) → TypeForm X → Type 0
OfArguments has (Variable n) = Unit {0}
OfArguments has (Operator n args) = All has args.now

-- a node of this type, with arguments of its table
pub record IsFormOf {X : Type 0} (has : X → Type 0) (at : X → Ty Name) (t : Ty Name) (form : TypeForm X) : Type 0 where
  pub is : t ≡ type_of at form
  pub inside : OfArguments has form
