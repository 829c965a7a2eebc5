-- A session with an assumption more, and its step.
use Rattle.std.specs.Global.{Global}
use Rattle.std.specs.Prelude.{◌≡◌, ◌<◌, ℕ, List, [], ◌∷◌, ◌++◌, length, find, is_some, Bool}
use Rattle.std.specs.Prelude.{true, false, cond, Some, None, Vec, Ok, Err, if◌then◌else◌}
use Rattle.std.specs.Option.{unwrap_or}
use Rattle.std.specs.List.{All, list_all}
use Rattle.std.proofs.Common.{refl, sym, ap, ◌∙◌, subst, arith}
use Rattle.ot_logic.specs.Names.{Name}
use Rattle.ot_logic.specs.Trees.{Tm, Sequent}
use Rattle.ot_logic.specs.Hol.{bool_ty, same_sequent}
use Rattle.ot_logic.specs.Naming.{names}
use Rattle.ot_logic.specs.Faults.{Fault, NotBool}
use Rattle.ot_logic.specs.Rules.{has_type}
use Rattle.ot_logic.specs.Answers.{◌>>=◌, unless}
use Rattle.ot_kernel.specs.Axioms.{axiom_rule, known, with_sequent}
use Rattle.ot_kernel.specs.State as kernel
use Rattle.ot_trace.specs.Origins.{Origin}
use Rattle.ot_trace.specs.declared.trace.StepId.{StepId}
use Rattle.ot_machine.specs.States.{RunState}
use Rattle.ot_machine.specs.Rows.{given_as, theorem_entry}
use Rattle.ot_machine.specs.Assumptions.{assumed_new}
use Rattle.ot_machine.specs.declared.session.Session.{Session}
use Rattle.ot_machine.specs.Contexts.{given_of}
use Rattle.ot_machine.specs.Meaning.{origin_of, givens_of, run_of, IsRun}
use Rattle.ot_machine.proofs.Kept.{origin-kept, givens-kept}
use Rattle.ot_machine.proofs.Stepped.{push-inside, push-length, givens-push, with_steps}
use Rattle.ot_machine.proofs.Stepped.{steps-grow, is_run-with, definitions-same}
use Rattle.ot_machine.proofs.Taken.{stated, once, as-once}
use Rattle.ot_machine.proofs.Tops.{same-ok}
use Rattle.ot_logic.proofs.Results.{bind-ok}

module _ (s : Session) (l : kernel.State) (a d : Vec StepId Global) (h : IsRun s)
    (kept : kernel.Keeps s.kernel l) where
  abbrev later : Session
  later = with_steps s l a d h kept

  -- an assumption more
  module _ (q : Sequent Name) (j : ℕ) (inside : j < length s.trace)
      (more : l.assumptions ≡ s.kernel.assumptions ++ q ∷ []) (same : l.definitions ≡ s.kernel.definitions)
      (ai : a.items ≡ s.assumption_steps.items ++ j ∷ []) (di : d.items ≡ s.definition_steps.items) where
    pub assumed-is_run : IsRun later
    assumed-is_run =
        is_run-with s l a d h kept
        (push-inside (length s.trace) s.assumption_steps.items a.items j ai inside h.assumptions)
        (push-length s.assumption_steps.items a.items j s.kernel.assumptions l.assumptions q ai more
        h.each_assumption)
        (subst (All (λ i. i < length s.trace)) (sym di) h.definitions)
        (ap length di ∙ h.each_definition ∙ ap length (sym same))

    assumed-run : run_of later
        ≡ (let r = run_of s in
        record r { assumptions = r.assumptions ++ record { sequent = q; origin = origin_of s j } ∷ [] })
    assumed-run =
        let t = later in
        let old = givens-kept s t h (steps-grow s l a d h kept) s.kernel.assumptions s.assumption_steps.items
        h.assumptions in
        let new = origin-kept s t h (steps-grow s l a d h kept) j inside in
        let all = (λ k. givens_of t (more k) (ai k)) ∙ givens-push t s.kernel.assumptions s.assumption_steps.items q j
        h.each_assumption ∙ (λ k. old k ++ record { sequent = q; origin = new k } ∷ []) in
        λ i. record { assumptions = all i; definitions = definitions-same s l a d h kept same di i }

    pub assumed-made : (hyps : List (Tm Name)) (p : Tm Name) (th : ℕ) → axiom_rule hyps p ≡ Ok q
        → kernel.theorem_at l th ≡ q → assumed_new hyps p (origin_of s j) (run_of s)
        ≡ Ok (theorem_entry (given_of later (record { th = th; step = j })), run_of later)
    assumed-made hyps p th rule is =
        let new = origin-kept s later h (steps-grow s l a d h kept) j inside in
        ap (λ r. r
        >>= λ q. Ok (
          theorem_entry (record { sequent = q; origin = origin_of s j }),
          record (run_of s)
              { assumptions = (run_of s).assumptions ++ record { sequent = q; origin = origin_of s j } ∷ [] },
        )) rule
        ∙ (λ i. Ok (theorem_entry (record { sequent = sym is i; origin = sym new i }), sym assumed-run i))

-- ---- a sequent that is no assumption yet
-- what is no given of the run is no assumption of the kernel
nowhere : (s : Session) (q : Sequent Name) (qs : List (Sequent Name)) (is : List ℕ) → length is ≡ length qs
    → given_as q (givens_of s qs is) ≡ None → find (λ r. same_sequent names r q) qs ≡ None
nowhere s q [] is e p = refl
nowhere s q (r ∷ qs) [] e p = absurd (omega (arith, e))
nowhere s q (r ∷ qs) (j ∷ is) e p = by (same_sequent names r q) refl p (nowhere s q qs is (omega (arith, e)))
  where
    by : (b : Bool) → same_sequent names r q ≡ b → cond b (Some (record { sequent = r; origin = origin_of s j }))
        (given_as q (givens_of s qs is)) ≡ None
        → (given_as q (givens_of s qs is) ≡ None → find (λ r. same_sequent names r q) qs ≡ None)
        → cond (same_sequent names r q) (Some r) (find (λ r. same_sequent names r q) qs) ≡ None
    by true f p go = absurd (cc)
    by false f p go = ap (λ b. cond b (Some r) (find (λ r. same_sequent names r q) qs)) f ∙ go p

pub known-new : (qs : List (Sequent Name)) (q : Sequent Name) → find (λ r. same_sequent names r q) qs ≡ None
    → (known qs q ≡ q) × (with_sequent qs q ≡ qs ++ q ∷ [])
known-new qs q none = (ap (λ o. unwrap_or o q) none, ap (λ o. if is_some o then qs else qs ++ q ∷ []) none)

-- the sequent of the rule
pub once-is : (hyps : List (Tm Name)) (p : Tm Name) (q : Sequent Name) → axiom_rule hyps p ≡ Ok q → once hyps p ≡ q
once-is hyps p q e =
    let a = bind-ok (unless NotBool (has_type names p (bool_ty names))) _ _ e in
    let b = bind-ok (unless NotBool (list_all (λ h. has_type names h (bool_ty names)) hyps)) _ _ a.2 in
    same-ok _ _ _ refl b.2

pub kernel-nowhere : (s : Session) (hyps : List (Tm Name)) (p : Tm Name) (q : Sequent Name) → IsRun s
    → once hyps p ≡ q → None ≡ given_as (stated hyps p) (run_of s).assumptions
    → find (λ r. same_sequent names r q) s.kernel.assumptions ≡ None
kernel-nowhere s hyps p q run is none =
    nowhere s q s.kernel.assumptions s.assumption_steps.items run.each_assumption
    (ap (λ z. given_as z (run_of s).assumptions) (sym is) ∙ as-once (run_of s).assumptions hyps p ∙ sym none)

pub new-refused : (hyps : List (Tm Name)) (p : Tm Name) (o : Origin Name) (run : RunState) (f : Fault Name)
    → axiom_rule hyps p ≡ Err f → assumed_new hyps p o run ≡ Err f
new-refused hyps p o run f e =
    ap (λ r. r >>= λ q.
    Ok (
      theorem_entry (record { sequent = q; origin = o }),
      record run
          { assumptions = run.assumptions ++ record { sequent = q; origin = o } ∷ [] },
    )) e
