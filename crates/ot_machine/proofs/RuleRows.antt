-- Rows that take what a rule of the kernel gave.
use Rattle.std.specs.Prelude.{◌≡◌, ◌<◌, ◌+◌, ℕ, List, [], ◌∷◌, ◌++◌, length, slice_index_or, Result, Ok, Err, IfOk}
use Rattle.std.proofs.Common.{refl, sym, ap, subst, ◌∙◌, arith}
use Rattle.std.proofs.lemmas.List.{length_push}
use Rattle.std.proofs.lemmas.Option.{get_or_from_slice_get}
use Rattle.ot_logic.specs.Names.{Name}
use Rattle.ot_logic.specs.Trees.{Bound, Sequent}
use Rattle.ot_logic.specs.Faults.{Fault}
use Rattle.ot_logic.specs.Answers.{◌>>=◌}
use Rattle.ot_logic.specs.declared.command.Cmd.{Cmd}
use Rattle.ot_logic.proofs.InternedLemmas.{slice_get-last}
use Rattle.ot_kernel.specs.State as kernel
use Rattle.ot_kernel.specs.Answers.{Concludes, RefusesRule}
use Rattle.ot_kernel.specs.declared.fault.RuleFault.{RuleFault}
use Rattle.ot_trace.specs.Origins.{Make}
use Rattle.ot_machine.specs.declared.fault.Fault as code
use Rattle.ot_machine.specs.declared.object.Object as code_object
use Rattle.ot_machine.specs.declared.machine.Machine.{Machine}
use Rattle.ot_machine.specs.declared.session.Session.{Session}
use Rattle.ot_machine.specs.Conversions.{rule_fault}
use Rattle.ot_machine.specs.Objects.{Object, theorem}
use Rattle.ot_machine.specs.States.{Entry, State}
use Rattle.ot_machine.specs.Places.{object_at, top, replaced, origins_of}
use Rattle.ot_machine.specs.Makers.{Read, arity, made_by, maker}
use Rattle.ot_machine.specs.Rows.{Row, making}
use Rattle.ot_machine.specs.Step.{on_stack}
use Rattle.ot_machine.specs.Meaning.{object_of, lists_of, article_of, run_of, machine_state, IsOf, Leaves}
use Rattle.ot_machine.specs.Stays.{ReplacesTop}
use Rattle.ot_machine.specs.Answers.{TakesRow, StepsTo}
use Rattle.ot_machine.specs.Concluding.{GivesTheorem, concluding}
use Rattle.ot_machine.proofs.Kept.{grows-on}
use Rattle.ot_machine.proofs.Refusals.{refuses-rule}
use Rattle.ot_machine.proofs.Turning.{grows-same, stacked, leaves-grow, made-grow}

-- ---- what a rule gives
abbrev Stated : Type 0
Stated = Result (Sequent Name) (Fault Name)

pub concluded : (id : ℕ) (stated : Stated) (k l : kernel.State) → Concludes (Ok id) stated k l
    → (stated ≡ Ok (kernel.theorem_at l id)) × (id < length l.theorems)
concluded id stated k l h =
    let (q, is, more, last) = h in
    let none : Sequent Name = record { hyps = []; concl = Bound 0 } in
    let longer : length l.theorems ≡ length k.theorems + 1 = ap length more ∙ length_push k.theorems q in
    let at : kernel.theorem_at l id ≡ q =
    ap (λ i. kernel.theorem_at l i) last
    ∙ ap (λ qs. slice_index_or qs (length k.theorems) none) more
    ∙ get_or_from_slice_get (k.theorems ++ q ∷ []) (length k.theorems) q none (slice_get-last k.theorems q) in
    (is ∙ ap Ok (sym at), omega (arith, longer, last))

pub gives : (r : Result ℕ RuleFault) (stated : Stated) (k l : kernel.State) → Concludes r stated k l
    → GivesTheorem l r stated
gives (Ok id) stated k l h = (concluded id stated k l h).0
gives (Err e) stated k l h = h.1

pub gives-inside : (r : Result ℕ RuleFault) (stated : Stated) (k l : kernel.State) → Concludes r stated k l
    → IfOk r (λ th. th < length l.theorems)
gives-inside (Ok id) stated k l h = (concluded id stated k l h).1
gives-inside (Err e) stated k l h = tt

-- ---- what is taken of it
abbrev after : ℕ → Cmd → State → Stated → Result State (Fault Name)
after n w s r = on_stack (concluding n w r) s

module _ (s : Session) (m : Machine) (n : ℕ) (w : Cmd) (stated : Stated) where
  pub conclude-refused : (e : RuleFault) → IsOf s m → RefusesRule e stated
      → TakesRow (Err (rule_fault e)) (on_stack (concluding n w stated)) s m s m
  conclude-refused e of h =
      let r = refuses-rule s.kernel e stated h in
      record { moves = (refl, (r.0, λ f p. ap (after n w (machine_state s m)) (r.1 f p))); grown = grows-same s; of = of }

-- ---- the row of a word
abbrev made_entry : Cmd → List Entry → Object → Entry
made_entry w stack o = record { object = o; origin = Make w (origins_of (top (arity (maker w)) stack)) }

abbrev placed : Cmd → List Entry → Read → Row
placed w stack r = (r >>= λ o. Ok (made_entry w stack o)) >>= λ e. Ok (replaced (arity (maker w)) e stack)

through : (w : Cmd) (stack : List Entry) (r : Stated) → placed w stack (r >>= λ q. Ok (theorem q))
    ≡ concluding (arity (maker w)) w r stack
through w stack (Ok q) = refl
through w stack (Err e) = refl

-- after a rule that gave what the word makes
module _ (s t u : Session) (m n : Machine) (w : Cmd) (stated : Stated) (r : Result ℕ RuleFault)
    (result : Result (Unit {0}) code.Fault) where
  pub by-rule : Leaves s t m → Concludes r stated s.kernel t.kernel
      → made_by (maker w) (λ k. object_at k (article_of s m).stack) ≡ (stated >>= λ q. Ok (theorem q))
      → (GivesTheorem t.kernel r stated → TakesRow result (on_stack (concluding (arity (maker w)) w stated)) t m u n)
      → TakesRow result (on_stack (making w)) s m u n
  by-rule kept concludes made turns =
      let taken = on_stack (concluding (arity (maker w)) w stated) in
      let old : State = machine_state s m in
      let x = turns (gives r stated s.kernel t.kernel concludes) in
      let same : machine_state t m ≡ old = λ i. record { article = kept.machine.article i; run = kept.run i } in
      let row : making w old.article.stack ≡ concluding (arity (maker w)) w stated old.article.stack =
      ap (placed w old.article.stack) made ∙ through w old.article.stack stated in
      let rows : taken old ≡ on_stack (making w) old =
      ap (λ r. (r >>= λ stack. Ok (record old.article { stack = stack }))
      >>= λ article. Ok (record old { article = article })) (sym row) in
      record {
        moves = subst (λ z. StepsTo u.kernel result z old (machine_state u n)) rows
            (subst (λ z. StepsTo u.kernel result (taken z) z (machine_state u n)) same x.moves);
        grown = grows-on (leaves-grow s t m kept) x.grown;
        of = x.of;
      }

-- after the kernel made the object
pub turned : {E : Type 0} {x : Unit {0}} (s t u : Session) (m n : Machine) (w : Cmd) (c : code_object.Object)
    → Leaves s t m → made_by (maker w) (λ k. object_at k (article_of s m).stack)
    ≡ Ok (object_of t.kernel (lists_of t m) c)
    → ReplacesTop {E = E} (Ok x) (arity (maker w)) c
    (Make w (origins_of (top (arity (maker w)) (article_of t m).stack))) t m u n
    → TakesRow (Ok tt) (on_stack (making w)) s m u n
turned s t u m n w c kept made there =
    let stack = (article_of s m).stack in
    let o = object_of t.kernel (lists_of t m) c in
    record {
      moves = stacked (making w) (machine_state s m) (replaced (arity (maker w)) (made_entry w stack o) stack)
          (ap (placed w stack) made)
          ∙ sym (λ i. Ok (record {
            article =
                (there.ok ∙ (λ i. let a = kept.machine.article i in
                record a { stack = replaced (arity (maker w)) (made_entry w a.stack o) a.stack })) i;
            run = (there.run ∙ kept.run) i;
          }));
      grown = grows-on (leaves-grow s t m kept) (made-grow t u there.kernel there.trace);
      of = there.of;
    }
