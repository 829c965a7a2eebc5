-- What `axiom` takes, by the terms that it reads.
use Rattle.std.specs.Prelude.{List, [], ◌∷◌, ◌++◌, Result, Ok, if◌then◌else◌}
use Rattle.ot_logic.specs.Names.{Name}
use Rattle.ot_logic.specs.Trees.{Tm}
use Rattle.ot_logic.specs.Faults.{Fault}
use Rattle.ot_logic.specs.Answers.{◌>>=◌}
use Rattle.ot_logic.specs.declared.command.Cmd.TheVariants as words
use Rattle.ot_kernel.specs.Axioms.{axiom_rule}
use Rattle.ot_trace.specs.Origins.{Origin, Origins, Make, operand}
use Rattle.ot_machine.specs.Objects.{term}
use Rattle.ot_machine.specs.States.{Entry, RunState, Context}
use Rattle.ot_machine.specs.Rows.{theorem_entry}
use Rattle.ot_machine.specs.Discharge.{is_hypothesis, adding, discharged}

-- the terms of a list as entries, with the origins that stand in its cons tree
abbrev pub term_entries : List (Tm Name) → Origin Name → List Entry
term_entries [] o = []
term_entries (t ∷ ts) o = record { object = term t; origin = operand 0 o } ∷ term_entries ts (operand 1 o)

-- for hypotheses whose list has the origin o, and a conclusion; os are the operands of the command
abbrev pub used : Context → List (Tm Name) → Tm Name → Origin Name → Origins Name → RunState
    → Result (Entry × RunState) (Fault Name)
used c hyps p o os run = axiom_rule hyps p >>= λ q. discharged c (term_entries hyps o)
    (record { sequent = q; origin = Make words.Axiom os }) run

-- the theorem e with one hypothesis more, if it lacks it
abbrev pub supposing : Entry → Entry → Result Entry (Fault Name)
supposing g e = if is_hypothesis g.object e.object then Ok e else adding e g

-- a new assumption at the end
abbrev pub assumed_new : List (Tm Name) → Tm Name → Origin Name → RunState → Result (Entry × RunState) (Fault Name)
assumed_new hyps p o run =
    axiom_rule hyps p
    >>= λ q. Ok (
      theorem_entry (record { sequent = q; origin = o }),
      record run
          { assumptions = run.assumptions ++ record { sequent = q; origin = o } ∷ [] },
    )
