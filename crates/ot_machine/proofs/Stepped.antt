-- A session whose kernel grew, with the steps of its assumptions and definitions.
use Rattle.std.specs.Global.{Global}
use Rattle.std.specs.Prelude.{◌≡◌, ◌<◌, ◌-◌, ℕ, List, [], ◌∷◌, ◌++◌, length}
use Rattle.std.specs.Prelude.{take, slice_index_or, Vec, Result, Ok, Err, OnErr}
use Rattle.std.specs.List.{All}
use Rattle.std.proofs.Common.{refl, sym, ap, ◌∙◌, subst, arith, length-append}
use Rattle.std.proofs.Math.Seq.{take-append_seam}
use Rattle.std.proofs.lemmas.List.Elements.{All-nil, All-cons, All-append}
use Rattle.ot_logic.proofs.TableLemmas.{Extends-refl}
use Rattle.ot_logic.specs.Names.{Name}
use Rattle.ot_logic.specs.Naming.{names}
use Rattle.ot_logic.specs.Trees.{Sequent, Definition}
use Rattle.ot_logic.specs.Hol.{theorems}
use Rattle.ot_logic.specs.Faults.{Fault}
use Rattle.ot_logic.specs.Answers.{◌>>=◌}
use Rattle.ot_kernel.specs.Defining.{Defining}
use Rattle.ot_kernel.specs.State as kernel
use Rattle.ot_kernel.specs.Answers.{RefusesBy, IsSymbolIn}
use Rattle.ot_kernel.specs.declared.fault.RuleFault.{RuleFault}
use Rattle.ot_trace.specs.declared.trace.StepId.{StepId}
use Rattle.ot_machine.specs.States.{Entry, RunState}
use Rattle.ot_machine.specs.Rows.{definitions_of, theorem_entries, defined}
use Rattle.ot_machine.specs.declared.session.Session.{Session}
use Rattle.ot_machine.specs.Meaning.{origin_of, givens_of, made_of, run_of, IsRun, Grows}
use Rattle.ot_machine.specs.Stays.{Stays, GrowsBeside}
use Rattle.ot_machine.specs.Answers.{Refuses}
use Rattle.ot_machine.specs.Conversions.{rule_fault}
use Rattle.ot_machine.proofs.Refusals.{refuses-definition}
use Rattle.ot_machine.proofs.Kept.{keeps-same, named-more, origin-kept, givens-kept, made-kept}

-- ---- lists of steps
-- a step more
pub push-inside : (n : ℕ) (xs ys : List ℕ) (j : ℕ) → ys ≡ xs ++ j ∷ [] → j < n → All (λ i. i < n) xs
    → All (λ i. i < n) ys
push-inside n xs ys j e lt all = subst (All (λ i. i < n)) (sym e)
    (All-append (λ i. i < n) xs (j ∷ []) all (All-cons (λ i. i < n) j [] lt (All-nil (λ i. i < n))))

pub push-length : {X : Type 0} (xs ys : List ℕ) (j : ℕ) (qs rs : List X) (q : X) → ys ≡ xs ++ j ∷ []
    → rs ≡ qs ++ q ∷ [] → length xs ≡ length qs → length ys ≡ length rs
push-length xs ys j qs rs q e f same =
    omega (arith, ap length e, ap length f, length-append xs (j ∷ []), length-append qs (q ∷ []), same)

-- the last step was taken off again
pub popped : (xs : List ℕ) (v : Vec StepId Global) (zs : List ℕ) (j : ℕ) → v.items ≡ xs ++ j ∷ []
    → zs ≡ take (v.len - 1) v.items → zs ≡ xs
popped xs v zs j e rest =
    let place : v.len - 1 ≡ length xs = omega (arith, v.ok.0, ap length e, length-append xs (j ∷ [])) in
    rest ∙ (λ i. take (place i) (e i)) ∙ take-append_seam xs (j ∷ [])

-- ---- one more at the end
pub givens-push : (s : Session) (qs : List (Sequent Name)) (is : List ℕ) (q : Sequent Name) (i : ℕ)
    → length is ≡ length qs → givens_of s (qs ++ q ∷ []) (is ++ i ∷ []) ≡ givens_of s qs is
    ++ record { sequent = q; origin = origin_of s i } ∷ []
givens-push s [] [] q i e = refl
givens-push s [] (j ∷ is) q i e = absurd (omega (arith, e))
givens-push s (r ∷ qs) [] q i e = absurd (omega (arith, e))
givens-push s (r ∷ qs) (j ∷ is) q i e =
    ap (λ gs. record { sequent = r; origin = origin_of s j } ∷ gs) (givens-push s qs is q i (omega (arith, e)))

pub made-push : (s : Session) (ds : List (Definition Name)) (is : List ℕ) (d : Definition Name) (i : ℕ)
    → length is ≡ length ds → made_of s (ds ++ d ∷ []) (is ++ i ∷ []) ≡ made_of s ds is
    ++ record { definition = d; origin = origin_of s i } ∷ []
made-push s [] [] d i e = refl
made-push s [] (j ∷ is) d i e = absurd (omega (arith, e))
made-push s (c ∷ ds) [] d i e = absurd (omega (arith, e))
made-push s (c ∷ ds) (j ∷ is) d i e = ap (λ ms. record { definition = c; origin = origin_of s j } ∷ ms)
    (made-push s ds is d i (omega (arith, e)))

pub definitions_of-made : (s : Session) (ds : List (Definition Name)) (is : List ℕ) → length is ≡ length ds
    → definitions_of (made_of s ds is) ≡ ds
definitions_of-made s [] [] e = refl
definitions_of-made s [] (j ∷ is) e = refl
definitions_of-made s (d ∷ ds) [] e = absurd (omega (arith, e))
definitions_of-made s (d ∷ ds) (j ∷ is) e = ap (λ rest. d ∷ rest) (definitions_of-made s ds is (omega (arith, e)))

-- the run with a definition of this step, and its theorems
abbrev pub with_definition : Session → ℕ → Definition Name → RunState
with_definition s j e =
    record (run_of s) {
      definitions = (run_of s).definitions ++ record { definition = e; origin = origin_of s j }
          ∷ [];
    }

abbrev pub defined_then : Session → ℕ → Definition Name → Result (List Entry × RunState) (Fault Name)
defined_then s j e = Ok (theorem_entries (origin_of s j) 0 (theorems names e), with_definition s j e)

-- ---- the session
module _ (s : Session) (l : kernel.State) (a d : Vec StepId Global) (h : IsRun s)
    (kept : kernel.Keeps s.kernel l) where
  abbrev pub with_steps : Session
  with_steps = record s { kernel = l; assumption_steps = a; definition_steps = d }

  pub steps-grow : Grows s with_steps
  steps-grow = record { kernel = kept; trace = Extends-refl s.trace }

  -- steps of the trace, as many as there are assumptions and definitions
  pub is_run-with : All (λ i. i < length s.trace) a.items → length a.items ≡ length l.assumptions
      → All (λ i. i < length s.trace) d.items → length d.items ≡ length l.definitions → IsRun with_steps
  is_run-with ai al di dl = record {
    named = λ i o p. named-more (length s.kernel.names) (length l.names) kept.names.longer
        (slice_index_or s.trace i o) (h.named i o p);
    assumptions = ai;
    each_assumption = al;
    definitions = di;
    each_definition = dl;
  }

  -- the assumptions that stood
  pub assumptions-same : l.assumptions ≡ s.kernel.assumptions → a.items ≡ s.assumption_steps.items
      → givens_of with_steps l.assumptions a.items ≡ (run_of s).assumptions
  assumptions-same same items = (λ i. givens_of with_steps (same i) (items i))
      ∙ givens-kept s with_steps h steps-grow s.kernel.assumptions s.assumption_steps.items h.assumptions

  pub definitions-same : l.definitions ≡ s.kernel.definitions → d.items ≡ s.definition_steps.items
      → made_of with_steps l.definitions d.items ≡ (run_of s).definitions
  definitions-same same items = (λ i. made_of with_steps (same i) (items i))
      ∙ made-kept s with_steps h steps-grow s.kernel.definitions s.definition_steps.items h.definitions

  -- nothing more
  run-same : kernel.SameBasis s.kernel l → a.items ≡ s.assumption_steps.items → d.items ≡ s.definition_steps.items
      → run_of with_steps ≡ run_of s
  run-same same ai di =
      λ i. record {
        assumptions = assumptions-same same.assumptions ai i;
        definitions = definitions-same same.definitions di i;
      }

  is_run-same : kernel.SameBasis s.kernel l → a.items ≡ s.assumption_steps.items → d.items ≡ s.definition_steps.items
      → IsRun with_steps
  is_run-same same ai di =
      is_run-with (subst (All (λ i. i < length s.trace)) (sym ai) h.assumptions)
      (ap length ai ∙ h.each_assumption ∙ ap length (sym same.assumptions))
      (subst (All (λ i. i < length s.trace)) (sym di) h.definitions)
      (ap length di ∙ h.each_definition ∙ ap length (sym same.definitions))

  -- the run too, where the call was refused
  pub adds-with : {X E : Type 0} (r : Result X E) → OnErr r (run_of with_steps ≡ run_of s) → IsRun with_steps
      → GrowsBeside r s with_steps
  adds-with r same run = record { refused = same; grown = steps-grow; is_run = run }

  pub stays-with : kernel.SameBasis s.kernel l → a.items ≡ s.assumption_steps.items
      → d.items ≡ s.definition_steps.items → Stays s with_steps
  stays-with same ai di =
      record { grown = steps-grow; run = run-same same ai di; is_run = is_run-same same ai di }

  -- a definition more
  module _ (c : Definition Name) (j : ℕ) (inside : j < length s.trace)
      (more : l.definitions ≡ s.kernel.definitions ++ c ∷ []) (same : l.assumptions ≡ s.kernel.assumptions)
      (ai : a.items ≡ s.assumption_steps.items) (di : d.items ≡ s.definition_steps.items ++ j ∷ []) where
    defined-is_run : IsRun with_steps
    defined-is_run =
        is_run-with (subst (All (λ i. i < length s.trace)) (sym ai) h.assumptions)
        (ap length ai ∙ h.each_assumption ∙ ap length (sym same))
        (push-inside (length s.trace) s.definition_steps.items d.items j di inside h.definitions)
        (push-length s.definition_steps.items d.items j s.kernel.definitions l.definitions c di more
        h.each_definition)

    pub defined-adds : {X E : Type 0} (r : Result X E) → OnErr r (run_of with_steps ≡ run_of s)
        → GrowsBeside r s with_steps
    defined-adds r same = adds-with r same defined-is_run

    defined-run : run_of with_steps ≡ with_definition s j c
    defined-run =
        let t = with_steps in
        let old = made-kept s t h steps-grow s.kernel.definitions s.definition_steps.items h.definitions in
        let new = origin-kept s t h steps-grow j inside in
        let all = (λ k. made_of t (more k) (di k)) ∙ made-push t s.kernel.definitions s.definition_steps.items c j
        h.each_definition ∙ (λ k. old k ++ record { definition = c; origin = new k } ∷ []) in
        λ i. record { assumptions = assumptions-same same ai i; definitions = all i }

    -- the kernel's definition is the stated one
    pub defined-is : (rule : List (Definition Name) → Defining names) (qs : List (Sequent Name))
        → rule s.kernel.definitions ≡ Ok c → theorems names c ≡ qs → defined rule (origin_of s j) (run_of s)
        ≡ Ok (theorem_entries (origin_of s j) 0 qs, run_of with_steps)
    defined-is rule qs given are =
        ap (λ dl. rule dl >>= defined_then s j)
        (definitions_of-made s s.kernel.definitions s.definition_steps.items h.each_definition)
        ∙ ap (λ r. r >>= defined_then s j) given
        ∙ (λ i. Ok (theorem_entries (origin_of s j) 0 (are i), sym defined-run i))

-- and so is its refusal
pub defined-refused : (s : Session) (run : IsRun s) (rule : List (Definition Name) → Defining names) (j : ℕ)
    (f : Fault Name) → rule s.kernel.definitions ≡ Err f → defined rule (origin_of s j) (run_of s) ≡ Err f
defined-refused s run rule j f refused =
    ap (λ dl. rule dl >>= defined_then s j)
    (definitions_of-made s s.kernel.definitions s.definition_steps.items run.each_definition)
    ∙ ap (λ r. r >>= defined_then s j) refused

pub refused-definition : (s : Session) (l : kernel.State) (run : IsRun s)
    (rule : List (Definition Name) → Defining names) (j : ℕ) (e : RuleFault)
    → RefusesBy (kernel.name_at l) e (rule s.kernel.definitions) → IsSymbolIn (length l.names) e
    → Refuses l (rule_fault e) (defined rule (origin_of s j) (run_of s))
refused-definition s l run rule j e h symbol =
    refuses-definition l e _ (h.0, λ f q. defined-refused s run rule j f (h.1 f q)) symbol

-- over the same kernel
pub stays-beside : (s : Session) (a d : Vec StepId Global) → IsRun s
    → a.items ≡ s.assumption_steps.items → d.items ≡ s.definition_steps.items
    → Stays s (record s { assumption_steps = a; definition_steps = d })
stays-beside s a d h = stays-with s s.kernel a d h (keeps-same s.kernel)
    (record { assumptions = refl; definitions = refl })
