-- Terms and sequents by number, as nameless trees over numbers of names.
use Rattle.std.specs.Prelude.{◌≡◌, ℕ, suc, max, List, map, length, Result, Ok, Err}
use Rattle.ot_logic.specs.Trees.{Tm, Named, Sequent}
use Rattle.ot_logic.specs.Faults.{Fault}
use Rattle.ot_logic.specs.NamedTerms.{nameless}
use Rattle.ot_logic.specs.Naming.{numbers}
use Rattle.ot_term.specs.Term.{TermTable}
use Rattle.ot_term.specs.TermTable.{term_at, IsGrownTo}
use Rattle.ot_kernel.specs.declared.theorem.Theorem.{Theorem}
use Rattle.ot_kernel.specs.declared.fault.RuleFault.{RuleFault}
use Rattle.ot_kernel.specs.Spelled.{IsInside}
use Rattle.ot_kernel.specs.Answers.{RefusesRule}

-- the nameless form of a term
abbrev pub tm_at : List (Named ℕ) → ℕ → Tm ℕ
tm_at ts i = nameless numbers (term_at ts i)

abbrev pub tms_at : List (Named ℕ) → List ℕ → List (Tm ℕ)
tms_at ts = map (tm_at ts)

-- the sequent of a theorem
abbrev pub numbered_sequent : List (Named ℕ) → Theorem → Sequent ℕ
numbered_sequent ts th = record { hyps = tms_at ts th.hyps; concl = tm_at ts th.concl }

-- what a rule answers over the table: a theorem of the stated sequent, or the stated refusal
abbrev pub Derives : Result Theorem RuleFault → Result (Sequent ℕ) (Fault ℕ) → List (Named ℕ) → Type 0
Derives (Ok th) stated ts = IsInside (length ts) th × (stated ≡ Ok (numbered_sequent ts th))
Derives (Err e) stated ts = RefusesRule e stated

-- what a rule leaves of the table: it has grown, by the names of equations and the name n alone
abbrev pub IsGrownBy : ℕ → TermTable → TermTable → Type 0
IsGrownBy n = IsGrownTo (max (suc n) 3)

abbrev pub IsGrown : TermTable → TermTable → Type 0
IsGrown = IsGrownBy 2
