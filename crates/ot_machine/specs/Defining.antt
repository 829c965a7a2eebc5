-- What a definition of a type operator gives.
use Rattle.std.specs.Prelude.{◌≡◌, ◌<◌, ℕ, List, [], ◌∷◌, length, map, Result, Ok}
use Rattle.std.specs.List.{All}
use Rattle.ot_logic.specs.Names.{Name}
use Rattle.ot_logic.specs.Naming.{names}
use Rattle.ot_logic.specs.Trees.{Ty, TyOp, Tm, Sequent}
use Rattle.ot_logic.specs.Hol.{tys_of_vars}
use Rattle.ot_logic.specs.Faults.{Fault}
use Rattle.ot_logic.specs.Answers.{◌>>=◌}
use Rattle.ot_kernel.specs.State.{State, name_at, theorem_at}
use Rattle.ot_kernel.specs.Defining.{type_definition}
use Rattle.ot_logic.specs.declared.command.Cmd.TheVariants as words
use Rattle.ot_trace.specs.Origins.{Origin, Named, Define, from_list, constant_origin, type_op_origin}
use Rattle.ot_machine.specs.Objects.{theorem}
use Rattle.ot_machine.specs.States.{Entry, Version, version_6, RunState}
use Rattle.ot_machine.specs.Rows.{defined}
use Rattle.ot_machine.specs.Version5.{open_theorems}
use Rattle.ot_machine.specs.declared.makers.definitions.DefinedOperator.{DefinedOperator}
use Rattle.ot_machine.specs.declared.makers.definitions.OperatorSteps.{OperatorSteps}
use Rattle.ot_machine.specs.declared.session.Session.{Session}
use Rattle.ot_machine.specs.Meaning.{origin_of}

-- by the names of the operator and its constants, the type variables, the theorem and the origin of the definition:
-- the theorems, and the run with it
abbrev pub Rule : Type 0
Rule = (op abs rep : Name) → List Name → Sequent Name → Origin Name → RunState
    → Result (List Entry × RunState) (Fault Name)

abbrev pub closed_defined : Rule
closed_defined op abs rep vars th origin run = defined (λ ds. type_definition names ds op abs rep vars th) origin run

-- in an article of version 5 the open theorems
abbrev pub open_defined : Rule
open_defined op abs rep vars th origin run =
    closed_defined op abs rep vars th origin run >>= λ made.
    open_theorems abs rep (TyOp op (tys_of_vars names vars)) th.concl made.0 >>= λ ths. Ok (ths, made.1)

-- in an article of a version
abbrev pub defined_in : Version → Rule
defined_in version_6 = closed_defined
defined_in v = open_defined

-- ---- what the code's numbers stand for

-- the operands of a definition are of the kernel
pub record AreOperandsIn (k : State) (n a r : ℕ) (vs : List ℕ) (th : ℕ) : Type 0 where
  pub name : n < length k.names
  pub abs : a < length k.names
  pub rep : r < length k.names
  pub variables : All (λ n. n < length k.names) vs
  pub premise : th < length k.theorems

-- what a rule gives for them
abbrev pub stated : Rule → State → (n a r : ℕ) → List ℕ → ℕ → Origin Name → RunState
    → Result (List Entry × RunState) (Fault Name)
stated rule k n a r vs th = rule (name_at k n) (name_at k a) (name_at k r) (map (name_at k) vs) (theorem_at k th)

abbrev pub operator_theorems : Session → DefinedOperator → List Entry
operator_theorems t d =
    record { object = theorem (theorem_at t.kernel d.abs_rep); origin = origin_of t d.abs_rep_step }
    ∷ record { object = theorem (theorem_at t.kernel d.rep_abs); origin = origin_of t d.rep_abs_step }
    ∷ []

-- an origin by that of the definition, the constants, the new type and the conclusion
abbrev pub origin_by : (Origin Name → (abs rep : Name) → Ty Name → Tm Name → Origin Name) → State → (n a r : ℕ)
    → List ℕ → ℕ → Origin Name → Origin Name
origin_by origin k n a r vs th o =
    origin o (name_at k a) (name_at k r) (TyOp (name_at k n) (tys_of_vars names (map (name_at k) vs)))
    (theorem_at k th).concl

-- the steps of the symbols are those that words make of their names, and that of the definition has these, a list and
-- a theorem
pub record AreOperatorSteps (s t : Session) (n a r list premise : ℕ) (d : OperatorSteps) : Type 0 where
  pub op : origin_of t d.op ≡ type_op_origin (Named (name_at s.kernel n))
  pub abs : origin_of t d.abs ≡ constant_origin (Named (name_at s.kernel a))
  pub rep : origin_of t d.rep ≡ constant_origin (Named (name_at s.kernel r))
  pub definition : origin_of t d.definition
      ≡ Define words.DefineTypeOp
      (from_list (Named (name_at s.kernel n) ∷ Named (name_at s.kernel a) ∷ Named (name_at s.kernel r)
      ∷ origin_of s list ∷ origin_of s premise ∷ []))
  pub op_step : d.op < length t.trace
  pub abs_step : d.abs < length t.trace
  pub rep_step : d.rep < length t.trace
  pub definition_step : d.definition < length t.trace

-- the steps of the symbols are those that words make of their names, and all numbers are of the session
pub record IsOperatorOf (s t : Session) (n a r : ℕ) (d : DefinedOperator) : Type 0 where
  pub op : origin_of t d.op ≡ type_op_origin (Named (name_at s.kernel n))
  pub abs : origin_of t d.abs ≡ constant_origin (Named (name_at s.kernel a))
  pub rep : origin_of t d.rep ≡ constant_origin (Named (name_at s.kernel r))
  pub op_step : d.op < length t.trace
  pub abs_step : d.abs < length t.trace
  pub rep_step : d.rep < length t.trace
  pub first : d.abs_rep < length t.kernel.theorems
  pub first_step : d.abs_rep_step < length t.trace
  pub second : d.rep_abs < length t.kernel.theorems
  pub second_step : d.rep_abs_step < length t.trace
