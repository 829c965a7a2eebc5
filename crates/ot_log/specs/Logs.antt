-- What the writer of proof logs is given and what it appends.
use Rattle.std.specs.Prelude.{◌≡◌, ◌<◌, ◌≤◌, ℕ, List, ◌++◌, length, map, Result, Ok, Err}
use Rattle.std.specs.List.{All}
use Rattle.ot_machine.specs.States.{Export, RunState}
use Rattle.ot_machine.specs.Lawful.{IsLawfulRun, IsLawfulExport, AreApart, run_basis}
use Rattle.ot_machine.specs.Writable.{IsWritable}
use Rattle.ot_machine.specs.Meaning.{origin_of}
use Rattle.ot_machine.specs.declared.machine.Export as code
use Rattle.ot_machine.specs.declared.session.Session.{Session}
use Rattle.ot_log_records.specs.Bytes.{bytes_of}
use Rattle.ot_log_law.specs.Writing.{log}
use Rattle.ot_log.specs.Ready.{IsProof}
use Rattle.ot_log.specs.declared.writing.LogRefusal.{LogRefusal}
use Rattle.ot_log.specs.declared.writing.LogRefusal.TheVariants as refusals

-- each assumption, definition and export is what its origin makes of names that a line can say, and no sequent is
-- exported twice
pub record AreLawful (r : RunState) (es : List Export) : Type 0 where
  pub run : IsLawfulRun IsWritable r
  pub exports : All (IsLawfulExport (run_basis IsWritable r)) es
  pub apart : AreApart (λ e. e.sequent) es

-- a text of at most max bytes was appended; or it has more; a refusal appends nothing
abbrev pub Writes : Result (Unit {0}) LogRefusal → List ℕ → ℕ → List ℕ → List ℕ → Type 0
Writes (Ok u) x max old new = (new ≡ old ++ x) × (length x ≤ max)
Writes (Err refusals.TooLarge) x max old new = (new ≡ old) × (max < length x)
Writes (Err (refusals.Memory memory)) x max old new = new ≡ old

-- ---- by steps

-- the value of the origin of an export's theorem is a theorem
abbrev pub HasProof : Session → code.Export → Type 0
HasProof s e = IsProof (origin_of s e.theorem)

-- the log of definitions and of the theorems of exports
abbrev pub steps_log : Session → List ℕ → List code.Export → List ℕ
steps_log s ds es = bytes_of (log (map (origin_of s) ds) (map (λ e. origin_of s e.theorem) es)).log.tokens
