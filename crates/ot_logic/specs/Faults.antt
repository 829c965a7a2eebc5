-- The named faults of the stated machine, each a rule that the input breaks.
use Rattle.std.specs.Prelude.{ℤ}
use Rattle.ot_logic.specs.Trees.{Symbol}
use Rattle.ot_logic.specs.declared.kind.Kind.{Kind}

pub data Fault (N : Type 0) : Type 0 where
  LineTooLong : Fault N
  ArticleTooLong : Fault N
  UnknownCommand : Fault N
  BadName : Fault N
  BadNumber : Fault N
  NumberRange : Fault N
  VersionUnsupported : ℤ → Fault N
  VersionLate : Fault N
  StackEmpty : Fault N
  -- the kind that is wanted, and the kind that is there
  WrongKind : Kind → Kind → Fault N
  NoEntry : ℤ → Fault N
  EmptyList : Fault N
  NotFunction : Fault N
  ArgumentType : Fault N
  NotBool : Fault N
  NotEquation : Fault N
  NotAlphaEqual : Fault N
  VarFreeInHyps : Fault N
  NotRedex : Fault N
  BadSubst : Fault N
  ExportMismatch : Fault N
  Primitive : Symbol N → Fault N
  AlreadyDefined : Symbol N → Fault N
  SymbolInUse : Symbol N → Fault N
  NotClosed : Fault N
  TypeVarEscapes : Fault N
  BadDefinitionList : Fault N
  HypothesesPresent : Fault N
  NotApplication : Fault N
  BadTypeVars : Fault N
  Nesting : Fault N
