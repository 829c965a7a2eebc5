-- The log of a run: its needed definitions and its exports, each theorem's origin once.
use Rattle.std.specs.Prelude.{ℕ, suc, ◌-◌, cond, List, [], ◌∷◌, ◌++◌, map, Option, Some, None}
use Rattle.ot_logic.specs.Names.{Name}
use Rattle.ot_logic.specs.Naming.{names}
use Rattle.ot_logic.specs.declared.command.Cmd.{Cmd}
use Rattle.ot_logic.specs.declared.command.Cmd.TheVariants as words
use Rattle.ot_log_format.specs.declared.word.RecordWord.TheVariants as records
use Rattle.ot_trace.specs.Origins.{Origin, Origins, Number, Named, Make, Define}
use Rattle.ot_trace.specs.Origins.{Outcome, NoOrigins, MoreOrigins, Roots}
use Rattle.ot_written.specs.Same.{same_origin}
use Rattle.ot_written.specs.Needed.{needed_definitions}
use Rattle.ot_written.specs.Written.{roots_of}
use Rattle.ot_machine.specs.Values.{values}
use Rattle.ot_log_records.specs.Entries.{ASequent, Entry}
use Rattle.ot_log_records.specs.Logged.{Log, header, write_entry, write_sequents}
use Rattle.ot_log_law.specs.Derived.{makes_theorem, read, theorem_entries, definition_entries}
use Rattle.ot_log_records.specs.Bytes.{bytes_of}

-- the log so far, and the origins of theorems that were written, each with the number of its sequent
pub record Written : Type 0 where
  pub log : Log
  pub theorems : List (Origin Name × ℕ)

abbrev pub nothing_written : Written
nothing_written = record { log = header; theorems = [] }

-- the number of an origin's sequent
abbrev pub number_of : Origin Name → List (Origin Name × ℕ) → Option ℕ
number_of o [] = None
number_of o (p ∷ ps) = cond (same_origin names.same o p.0) (Some p.1) (number_of o ps)

abbrev pub listed : Option ℕ → List ℕ
listed None = []
listed (Some i) = i ∷ []

-- the numbers of those operands that are theorems
abbrev pub numbers_of : Origins Name → List (Origin Name × ℕ) → List ℕ
numbers_of NoOrigins ps = []
numbers_of (MoreOrigins o os) ps = listed (number_of o ps) ++ numbers_of os ps

-- the origin of the theorem with this number
abbrev pub mark : Origin Name → ℕ → Written → Written
mark o i x = record x { theorems = x.theorems ++ (o, i) ∷ [] }

-- ---- theorems

abbrev pub put_theorem : Cmd → Origins Name → Written → Written
put_theorem w os x =
    let log = write_sequents (read (λ vs. theorem_entries x.log.sequents w vs (numbers_of os x.theorems)) (values os))
    x.log in
    mark (Make w os) (log.sequents - 1) (record x { log = log })

-- what was written isn't written again
abbrev pub once : Option ℕ → (Written → Written) → Written → Written
once (Some i) write x = x
once None write x = write x

-- the theorem of an origin: first its theorem operands from the bottom up, then its records; the last one's sequent
-- is the theorem
abbrev mutual
  pub write : Origin Name → Written → Written
  write (Make w os) x =
      cond (makes_theorem w) (once (number_of (Make w os) x.theorems) (λ y. put_theorem w os (write_all os y)) x) x
  write (Number k) x = x
  write (Named n) x = x
  write (Define w os) x = x
  write (Outcome j d) x = x

  pub write_all : Origins Name → Written → Written
  write_all NoOrigins x = x
  write_all (MoreOrigins o os) x = write_all os (write o x)

-- ---- definitions

-- the theorems of a definition, in order
abbrev pub outcomes : Cmd → Origin Name → List (Origin Name)
outcomes words.DefineTypeOp d = Outcome 1 d ∷ Outcome 2 d ∷ []
outcomes _ d = Outcome 1 d ∷ []

-- they get the next numbers
abbrev pub add_outcomes : List (Origin Name) → Written → Written
add_outcomes [] x = x
add_outcomes (o ∷ os) x =
    add_outcomes os (mark o x.log.sequents (record x { log = record x.log { sequents = suc x.log.sequents } }))

abbrev pub write_entries : List Entry → Log → Log
write_entries [] x = x
write_entries (e ∷ es) x = write_entries es (write_entry e x)

abbrev pub put_definition : Cmd → Origins Name → Written → Written
put_definition w os x = record x {
  log = write_entries (read (λ vs. definition_entries w vs (numbers_of os x.theorems)) (values os)) x.log;
}

-- a definition: its premise, and then its record
abbrev pub write_definition : Origin Name → Written → Written
write_definition (Define w os) x = add_outcomes (outcomes w (Define w os)) (put_definition w os (write_all os x))
write_definition _ x = x

abbrev pub write_definitions : List (Origin Name) → Written → Written
write_definitions [] x = x
write_definitions (d ∷ ds) x = write_definitions ds (write_definition d x)

-- ---- exports

-- a result: its theorem, and then its record
abbrev pub result_entry : List ℕ → Entry
result_entry is = record { word = records.Result; operands = map ASequent is }

abbrev pub put_result : Origin Name → Written → Written
put_result o x = record x { log = write_entry (result_entry (listed (number_of o x.theorems))) x.log }

abbrev pub write_results : List (Origin Name) → Written → Written
write_results [] x = x
write_results (o ∷ os) x = write_results os (put_result o (write o x))

-- ---- the log

-- of definitions and of the theorems of exports
abbrev pub log : List (Origin Name) → List (Origin Name) → Written
log ds os = write_results os (write_definitions ds nothing_written)

-- of exports, among the definitions of their run: those that they need, in their old order, and then the exports
abbrev pub log_bytes : List (Origin Name) → List (Roots Name) → List ℕ
log_bytes ds es =
    bytes_of (log (needed_definitions (same_origin names.same) (roots_of es) ds) (map (λ e. e.theorem) es)).log.tokens
