-- The rows that change the run keep it lawful.
use Rattle.std.specs.Prelude.{◌≡◌, Bool, true, false, cond, List, [], ◌∷◌, ◌++◌}
use Rattle.std.specs.Prelude.{map, take, find, Option, Some, None, Result, Ok}
use Rattle.std.specs.List.{All}
use Rattle.std.proofs.Common.{refl, sym, subst}
use Rattle.std.proofs.lemmas.Option.{same_Some}
use Rattle.std.proofs.lemmas.List.{map-append}
use Rattle.std.proofs.lemmas.List.Elements.{All-nil, All-cons, All-head, All-tail, All-append}
use Rattle.ot_logic.specs.Lists.{IsMember}
use Rattle.ot_logic.specs.Names.{Name}
use Rattle.ot_logic.specs.Naming.{names}
use Rattle.ot_logic.specs.Trees.{Tm, Sequent}
use Rattle.ot_logic.specs.Hol.{same_sequent}
use Rattle.ot_logic.specs.Faults.{Fault}
use Rattle.ot_logic.specs.declared.command.Cmd.TheVariants as words
use Rattle.ot_kernel.specs.Axioms.{axiom_rule}
use Rattle.ot_trace.specs.Origins.{Origins, Make}
use Rattle.ot_machine.specs.Objects.{theorem}
use Rattle.ot_machine.specs.States.{Entry, Given, Made, ArticleState, RunState, State}
use Rattle.ot_machine.specs.Places.{object_at, term_on, terms_on}
use Rattle.ot_machine.specs.Makers.{axiom_made}
use Rattle.ot_machine.specs.Rows.{given_as, or_assumed}
use Rattle.ot_machine.specs.Values.{value}
use Rattle.ot_machine.specs.Lawful.{Basis, AreOn, GivenFits, basis_of, run_basis}
use Rattle.ot_machine.specs.Lawful.{IsAxiom, IsLawfulRun, IsLawfulArticle, IsLarger}
use Rattle.ot_machine.proofs.Growing.{same-basis, rests-more, are-more, fits-more}
use Rattle.ot_machine.proofs.Growing.{entries-more, givens-more, exports-more}
use Rattle.ot_machine.proofs.StackRows.{AllFit}
use Rattle.ot_machine.proofs.Apart.{apart-push, not-found}
use Rattle.ot_logic.proofs.Members.{IsMember-last, IsMember-left}

-- what is found is one of the list
pub all-found : {X : Type 0} (Q : X → Type 0) (test : X → Bool) (xs : List X) (x : X) → All Q xs
    → find test xs ≡ Some x → Q x
all-found Q test [] x all p = absurd (cc)
all-found Q test (y ∷ xs) x all p = by (test y) p (all-found Q test xs x (All-tail Q y xs all))
  where
    by : (b : Bool) → cond b (Some y) (find test xs) ≡ Some x → (find test xs ≡ Some x → Q x) → Q x
    by true q go = subst Q (same_Some _ _ q) (All-head Q y xs all)
    by false q go = go q

abbrev pub answer : State → Result State (Fault Name)
answer s = Ok s

abbrev pub axiom_given : Sequent Name → Origins Name → Given
axiom_given q os = record { sequent = q; origin = Make words.Axiom os }

pub made-axiom : (stack : List Entry) (p : Tm Name) (hyps : List (Tm Name)) (q : Sequent Name)
    → term_on 0 stack ≡ Ok p → terms_on 1 stack ≡ Ok hyps → axiom_rule hyps p ≡ Ok q
    → axiom_made (object_at 0 stack) (object_at 1 stack) ≡ Ok (theorem q)
made-axiom stack p hyps q e f g = rw (e, f, g) refl

module _ (P : Name → Type 0) where
  -- the basis of a run that grew
  pub larger-axioms : (gs hs : List Given) (ms : List Made) → IsLarger (basis_of P gs ms) (basis_of P (gs ++ hs) ms)
  larger-axioms gs hs ms = record {
    axioms = λ o i. subst (IsMember o) (sym (map-append (λ (g : Given). g.origin) gs hs)) (IsMember-left o _ _ i);
    definitions = λ o i. i;
    names = λ n i. i;
  }

  pub larger-definitions : (gs : List Given) (ms ns : List Made)
      → IsLarger (basis_of P gs ms) (basis_of P gs (ms ++ ns))
  larger-definitions gs ms ns = record {
    axioms = λ o i. i;
    definitions = λ o i. subst (IsMember o) (sym (map-append (λ (m : Made). m.origin) ms ns)) (IsMember-left o _ _ i);
    names = λ n i. i;
  }

  pub article-more : (r q : RunState) (a : ArticleState) → IsLarger (run_basis P r) (run_basis P q)
      → IsLawfulArticle P r a → IsLawfulArticle P q a
  article-more r q a h l = record {
    stack = entries-more _ _ h _ l.stack;
    dictionary = λ k e p. fits-more _ _ h _ _ (l.dictionary k e p);
    exports = exports-more _ _ h _ l.exports;
    stated = l.stated;
    apart = l.apart;
  }

  pub with-stack : (r : RunState) (a : ArticleState) (stack : List Entry) → IsLawfulArticle P r a
      → AllFit (run_basis P r) stack → IsLawfulArticle P r (record a { stack = stack })
  with-stack r a stack l f =
      record { stack = f; dictionary = l.dictionary; exports = l.exports; stated = l.stated; apart = l.apart }

  -- ---- a new assumption
  abbrev pub assumed : RunState → Given → RunState
  assumed run g = record run { assumptions = run.assumptions ++ g ∷ [] }

  pub assumed-lawful : (run : RunState) (g : Given) → IsLawfulRun P run → IsAxiom g.origin
      → GivenFits (run_basis P (assumed run g)) g → given_as g.sequent run.assumptions ≡ None
      → IsLawfulRun P (assumed run g)
  assumed-lawful run g h is fits none =
      let larger = larger-axioms run.assumptions (g ∷ []) run.definitions in
      let b = run_basis P (assumed run g) in
      record {
        assumptions =
            All-append (GivenFits b) run.assumptions (g ∷ []) (givens-more _ _ larger run.assumptions h.assumptions)
            (All-cons (GivenFits b) g [] fits (All-nil (GivenFits b)));
        axioms = All-append (λ (g : Given). IsAxiom g.origin) run.assumptions (g ∷ []) h.axioms
            (All-cons (λ (g : Given). IsAxiom g.origin) g [] is (All-nil (λ (g : Given). IsAxiom g.origin)));
        apart = apart-push (λ (g : Given). g.sequent) run.assumptions g h.apart
            (not-found (λ (r : Given). same_sequent names r.sequent g.sequent) run.assumptions none);
        definitions = λ i m p. let d = h.definitions i m p in record {
          accepted = d.accepted;
          rests = rests-more (basis_of P run.assumptions (take i run.definitions))
              (basis_of P (run.assumptions ++ g ∷ []) (take i run.definitions))
              (larger-axioms run.assumptions (g ∷ []) (take i run.definitions)) m.origin d.rests;
        };
      }

  found-fits : (b : Basis) (q : Sequent Name) (gs : List Given) (g : Given) → All (GivenFits b) gs
      → given_as q gs ≡ Some g → GivenFits b g
  found-fits b q gs g all p = all-found (GivenFits b) (λ (r : Given). same_sequent names r.sequent q) gs g all p

  -- what is used for a sequent fits, and the run behind it is lawful
  pub record IsTakenBy (run : RunState) (t : Given × RunState) : Type 0 where
    pub lawful : IsLawfulRun P t.1
    pub larger : IsLarger (run_basis P run) (run_basis P t.1)
    pub fits : GivenFits (run_basis P t.1) t.0

  -- an origin that is an axiom of this list, with operands that rest on less
  axiom-fits : (run : RunState) (q : Sequent Name) (os : Origins Name) → value (Make words.Axiom os) ≡ Ok (theorem q)
      → AreOn (run_basis P run) os
      → GivenFits (run_basis P (assumed run (record { sequent = q; origin = Make words.Axiom os })))
      (record { sequent = q; origin = Make words.Axiom os })
  axiom-fits run q os v on =
      let g : Given = record { sequent = q; origin = Make words.Axiom os } in
      let larger = larger-axioms run.assumptions (g ∷ []) run.definitions in
      record {
        value_is = v;
        rests = (
          are-more _ _ larger os on,
          subst (IsMember g.origin)
              (sym (map-append (λ (g : Given). g.origin) run.assumptions (g ∷ [])))
              (IsMember-last g.origin (map (λ (g : Given). g.origin) run.assumptions)),
        );
      }

  -- the assumption that is there, or a new one
  pub assumed-fits : (run : RunState) (q : Sequent Name) (os : Origins Name) → IsLawfulRun P run
      → value (Make words.Axiom os) ≡ Ok (theorem q) → AreOn (run_basis P run) os
      → IsTakenBy run (or_assumed (given_as q run.assumptions) (axiom_given q os) run)
  assumed-fits run q os h v on = by (given_as q run.assumptions) refl
    where
      by : (r : Option Given) → given_as q run.assumptions ≡ r → IsTakenBy run (or_assumed r (axiom_given q os) run)
      by (Some a) e =
          record {
            lawful = h;
            larger = same-basis (run_basis P run);
            fits = found-fits _ q run.assumptions a h.assumptions e;
          }
      by None e =
          let f = axiom-fits run q os v on in
          record {
            lawful = assumed-lawful run (axiom_given q os) h (os, refl) f e;
            larger = larger-axioms run.assumptions (axiom_given q os ∷ []) run.definitions;
            fits = f;
          }
