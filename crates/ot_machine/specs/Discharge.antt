-- The command that takes an assumption: a theorem of the context with fewer hypotheses is enough.
use Rattle.std.specs.Prelude.{Bool, false, ◌&&◌, List, [], ◌∷◌, find, Option, Some, None, Result, Ok, if◌then◌else◌}
use Rattle.ot_logic.specs.Names.{Name}
use Rattle.ot_logic.specs.Naming.{names}
use Rattle.ot_logic.specs.Trees.{Sequent}
use Rattle.ot_logic.specs.Hol.{same_tm, is_in, all_in}
use Rattle.ot_logic.specs.Faults.{Fault}
use Rattle.ot_logic.specs.Answers.{◌>>=◌}
use Rattle.ot_logic.specs.declared.command.Cmd.TheVariants as words
use Rattle.ot_kernel.specs.Axioms.{axiom_rule}
use Rattle.ot_trace.specs.Origins.{Origin, Make, operand}
use Rattle.ot_machine.specs.Objects.{Object, Objects, term, theorem, no_objects, more_objects}
use Rattle.ot_machine.specs.States.{Entry, Given, RunState, State, Context}
use Rattle.ot_machine.specs.Places.{top, replaced, origins_of, list_entry, term_on, as_each, as_term}
use Rattle.ot_machine.specs.Rows.{made, given_as, or_assumed, theorem_entry}

-- the elements of a list as entries, with the origins that stand in its cons tree
abbrev pub element_entries : Objects → Origin Name → List Entry
element_entries no_objects o = []
element_entries (more_objects x xs) o = record { object = x; origin = operand 0 o } ∷ element_entries xs (operand 1 o)

-- whether a term is a hypothesis of a theorem
abbrev pub is_hypothesis : Object → Object → Bool
is_hypothesis (term t) (theorem q) = is_in names t q.hyps
is_hypothesis _ _ = false

-- the theorem with one hypothesis more: from g |- g and the theorem, their equation, and by it the theorem again
abbrev pub adding : Entry → Entry → Result Entry (Fault Name)
adding e g = do
  a ← made words.Assume (g ∷ [])
  d ← made words.DeductAntisym (a ∷ e ∷ [])
  made words.EqMp (d ∷ a ∷ [])

-- the theorem with each of these terms among its hypotheses; a term that is one already is passed over
abbrev pub weakened : List Entry → Entry → Result Entry (Fault Name)
weakened [] e = Ok e
weakened (g ∷ gs) e = (if is_hypothesis g.object e.object then Ok e else adding e g) >>= weakened gs

-- the first theorem whose conclusion is the stated one, and whose hypotheses are all stated
abbrev pub given_for : Sequent Name → List Given → Option Given
given_for q = find (λ g. all_in names g.sequent.hyps q.hyps && same_tm names g.sequent.concl q.concl)

-- what is used: the theorem of the context, weakened by the stated terms, or else the assumption
abbrev pub or_weakened : Option Given → List Entry → Given → RunState → Result (Entry × RunState) (Fault Name)
or_weakened (Some a) gs g run = weakened gs (theorem_entry a) >>= λ e. Ok (e, run)
or_weakened None gs g run = let t = or_assumed (given_as g.sequent run.assumptions) g run in
    Ok (theorem_entry t.0, t.1)

abbrev pub discharged : Context → List Entry → Given → RunState → Result (Entry × RunState) (Fault Name)
discharged c gs g run = or_weakened (given_for g.sequent c.theorems) gs g run

abbrev pub axiom_row : Context → State → Result State (Fault Name)
axiom_row c s = do
  p ← term_on 0 s.article.stack
  l ← list_entry 1 s.article.stack
  hyps ← as_each as_term l.0
  q ← axiom_rule hyps p
  t ← discharged c (element_entries l.0 l.1)
      (record { sequent = q; origin = Make words.Axiom (origins_of (top 2 s.article.stack)) }) s.run
  Ok (record { article = record s.article { stack = replaced 2 t.0 s.article.stack }; run = t.1 })
