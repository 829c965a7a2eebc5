-- When a session is lawful, and what is lawful over it: every assumption, definition and export of a run is what its
-- origin makes, from the axioms and the definitions of the run, and each name of an origin is one that a line can
-- say.
use Rattle.std.specs.Prelude.{List, map, Result, Vec, IfOk, IfErr}
use Rattle.std.specs.Global.{Global}
use Rattle.std.specs.List.{All}
use Rattle.ot_kernel.specs.State as kernel
use Rattle.ot_theory.specs.Theory.{TagText}
use Rattle.ot_machine.specs.States.{RunState, Context, Export}
use Rattle.ot_machine.specs.Lawful.{Basis, run_basis, IsLarger, IsLawfulExport, IsLawfulRun}
use Rattle.ot_machine.specs.Lawful.{AreLawfulGivens, StatesSequent, AreApart, IsNaming}
use Rattle.ot_machine.specs.Writable.{IsWritable}
use Rattle.ot_machine.specs.Meaning.{export_of, run_of, IsRun, Grows}
use Rattle.ot_machine.specs.Contexts.{context_of, IsContextOf}
use Rattle.ot_machine.specs.declared.session.Session.{Session}
use Rattle.ot_machine.specs.declared.machine.Export as code
use Rattle.ot_machine.specs.declared.context.Context as code_context
use Rattle.ot_link.specs.Adding.{AreRight}
use Rattle.ot_link.specs.Blocks.{context_in}
use Rattle.ot_link.specs.Answers.{AreExportsIn}

-- what the origins of a run may use
abbrev pub basis_of : RunState → Basis
basis_of r = run_basis IsWritable r

abbrev pub IsLawfulSession : Session → Type 0
IsLawfulSession s = IsLawfulRun IsWritable (run_of s)

-- exports are lawful over the run of a session, and their lists and terms state their sequents
pub record AreLawfulExports (s : Session) (es : List code.Export) : Type 0 where
  pub lawful : All (IsLawfulExport (basis_of (run_of s))) (map (export_of s) es)
  pub stated : All StatesSequent (map (export_of s) es)

-- and no sequent is exported twice
pub record AreLawfulOnce (s : Session) (es : List code.Export) : Type 0 where
  pub exports : AreLawfulExports s es
  pub apart : AreApart (λ e. e.sequent) (map (export_of s) es)

-- the theorems of a context are lawful, and it reads what a line can say as what a line can say
pub record IsLawfulContext (s : Session) (c : code_context.Context) : Type 0 where
  pub theorems : AreLawfulGivens IsWritable (run_of s) (context_of s c).theorems
  pub naming : IsNaming IsWritable (context_of s c)

-- the new session is lawful, and so is over it all that is lawful over the old one
pub record StaysLawful (old new : Session) : Type 0 where
  pub run : IsLawfulSession new
  pub larger : IsLarger (basis_of (run_of old)) (basis_of (run_of new))

-- what an article or a block is run in: the session is a lawful run, and the context a lawful one of it
pub record IsReady (s : Session) (c : code_context.Context) : Type 0 where
  pub session : IsRun s
  pub lawful : IsLawfulSession s
  pub context : IsContextOf s c
  pub lawful_context : IsLawfulContext s c

-- what its run leaves: a session that grew and stays lawful, and exports that are lawful over it, each sequent once,
-- or a fault whose symbol is of its kernel
pub record LeavesExports {E : Type 0} (names : kernel.State → E → Type 0) (result : Result (Vec code.Export Global) E)
    (old new : Session) : Type 0 where
  pub exports : IfOk result (AreExportsIn new)
  pub symbols : IfErr result (names new.kernel)
  pub grown : Grows old new
  pub session : IsRun new
  pub lawful : StaysLawful old new
  pub lawful_exports : IfOk result (λ exports. AreLawfulOnce new exports.items)

-- a law: in a block, too, what a line can say is read so, where it is in the context of the block's file
abbrev pub BlocksAreNaming : Type 0
BlocksAreNaming = (outer : Context) (statements : List TagText) (imports : List Export) → AreRight statements
    → IsNaming IsWritable outer → IsNaming IsWritable (context_in outer statements imports)
