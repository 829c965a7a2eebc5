-- What is stated of a session, and of one with the same kernel, run and origins; and what a session without a machine
-- keeps.
use Rattle.std.specs.Prelude.{◌≡◌, ◌<◌, ℕ, List, [], ◌∷◌, length, map, slice_index_or, Result, Ok, Err, OnErr}
use Rattle.std.proofs.Common.{ap, sym, ◌∙◌, arith}
use Rattle.ot_logic.specs.Names.{Name}
use Rattle.ot_logic.specs.Naming.{names}
use Rattle.ot_logic.specs.Faults.{Fault}
use Rattle.ot_logic.proofs.TableLemmas.{Extends-refl}
use Rattle.ot_term.specs.declared.term.VarKey.{VarKey}
use Rattle.ot_kernel.specs.Defining.{const_definition, list_definition}
use Rattle.ot_kernel.specs.State as kernel
use Rattle.ot_logic.specs.declared.command.Cmd.TheVariants as words
use Rattle.ot_trace.specs.Origins.{Origin, Named, Define, from_list}
use Rattle.ot_machine.specs.States.{Entry, RunState}
use Rattle.ot_machine.specs.Rows.{defined, origin_at, type_defining}
use Rattle.ot_machine.specs.Defining.{Rule, stated, AreOperatorSteps, IsOperatorOf}
use Rattle.ot_machine.specs.declared.makers.definitions.OperatorSteps.{OperatorSteps}
use Rattle.ot_machine.specs.declared.session.Session.{Session}
use Rattle.ot_machine.specs.Meaning.{origin_of, givens_of, made_of, run_of, IsRun, Grows}
use Rattle.ot_machine.proofs.Kept.{with_kernel, named-more, origin-kept, givens-kept, made-kept}

-- a refusal that is handed on
pub on-err : {X E : Type 0} (r : Result X E) {P : Type 0} → P → OnErr r P
on-err (Ok x) p = tt
on-err (Err e) p = p

pub on-err-map : {X E : Type 0} (r : Result X E) {P Q : Type 0} → (P → Q) → OnErr r P → OnErr r Q
on-err-map (Ok x) f h = tt
on-err-map (Err e) f h = f h

abbrev Stated : Type 0
Stated = Result (List Entry × RunState) (Fault Name)

-- ---- definitions, over numbers
abbrev pub const_stated : kernel.State → ℕ → ℕ → Origin Name → RunState → Stated
const_stated k n t o r = defined (λ ds. const_definition names ds (kernel.name_at k n) (kernel.term_at k t)) o r

abbrev pub list_stated : kernel.State → List ℕ → List VarKey → ℕ → Origin Name → RunState → Stated
list_stated k is vs th o r =
    defined (λ ds. list_definition names ds (map (kernel.name_at k) is) (map (kernel.variable_at k) vs)
    (kernel.theorem_at k th)) o r

module _ (k l : kernel.State) (o p : Origin Name) (r q : RunState) (a : k ≡ l) (b : o ≡ p) (c : r ≡ q) where
  pub const-same : (n t : ℕ) → const_stated k n t o r ≡ const_stated l n t p q
  const-same n t = λ i. const_stated (a i) n t (b i) (c i)

  pub list-same : (is : List ℕ) (vs : List VarKey) (th : ℕ) → list_stated k is vs th o r ≡ list_stated l is vs th p q
  list-same is vs th = λ i. list_stated (a i) is vs th (b i) (c i)

  pub type-same : (rule : Rule) (n x y : ℕ) (vs : List ℕ) (th : ℕ) → stated rule k n x y vs th o r
      ≡ stated rule l n x y vs th p q
  type-same rule n x y vs th = λ i. stated rule (a i) n x y vs th (b i) (c i)

-- ---- a session with more names
module _ (s : Session) (l : kernel.State) (run : IsRun s) (kept : kernel.Keeps s.kernel l)
    (same : kernel.SameBasis s.kernel l) where
  grown : Grows s (with_kernel s l)
  grown = record { kernel = kept; trace = Extends-refl s.trace }

  pub is_run-kept : IsRun (with_kernel s l)
  is_run-kept = record {
    named = λ i o p. named-more (length s.kernel.names) (length l.names) kept.names.longer
        (slice_index_or s.trace i o) (run.named i o p);
    assumptions = run.assumptions;
    each_assumption = run.each_assumption ∙ ap length (sym same.assumptions);
    definitions = run.definitions;
    each_definition = run.each_definition ∙ ap length (sym same.definitions);
  }

  pub run-kept : run_of (with_kernel s l) ≡ run_of s
  run-kept =
      let t = with_kernel s l in
      λ i. record {
        assumptions =
            (ap (λ qs. givens_of t qs s.assumption_steps.items) same.assumptions
            ∙ givens-kept s t run grown s.kernel.assumptions s.assumption_steps.items run.assumptions) i;
        definitions =
            (ap (λ ds. made_of t ds s.definition_steps.items) same.definitions
            ∙ made-kept s t run grown s.kernel.definitions s.definition_steps.items run.definitions) i;
      }

-- ---- the steps of a type operator
module _ (s t : Session) (n a r list premise : ℕ) (d : OperatorSteps)
    (are : AreOperatorSteps s t n a r list premise d) where
  -- its definition is by the operands on the stack
  pub defining-is : (stack : List Entry) → origin_of s list ≡ origin_at 1 stack → origin_of s premise
      ≡ origin_at 0 stack → origin_of t d.definition
      ≡ type_defining (kernel.name_at s.kernel n) (kernel.name_at s.kernel a) (kernel.name_at s.kernel r) stack
  defining-is stack e f =
      let named = λ (m : ℕ). Named (kernel.name_at s.kernel m) in
      are.definition
      ∙ (λ i. Define words.DefineTypeOp (from_list (named n ∷ named a ∷ named r ∷ e i ∷ f i ∷ [])))

  -- with the theorems and their steps, in a session that grew
  pub operator-of : (u : Session) (i first j second : ℕ) → IsRun t → Grows t u → i < length u.kernel.theorems
      → first < length u.trace → j < length u.kernel.theorems → second < length u.trace
      → IsOperatorOf s u n a r (record {
        op = d.op;
        abs = d.abs;
        rep = d.rep;
        abs_rep = i;
        abs_rep_step = first;
        rep_abs = j;
        rep_abs_step = second;
      })
  operator-of u i first j second run grown ii fi ji si = record {
    op = origin-kept t u run grown d.op are.op_step ∙ are.op;
    abs = origin-kept t u run grown d.abs are.abs_step ∙ are.abs;
    rep = origin-kept t u run grown d.rep are.rep_step ∙ are.rep;
    op_step = omega (arith, are.op_step, grown.trace.longer);
    abs_step = omega (arith, are.abs_step, grown.trace.longer);
    rep_step = omega (arith, are.rep_step, grown.trace.longer);
    first = ii;
    first_step = fi;
    second = ji;
    second_step = si;
  }
