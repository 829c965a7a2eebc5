-- The run of an article keeps a state lawful, as far as it goes.
use Rattle.std.specs.Prelude.{◌≡◌, [], take, None, Result, Ok, Err}
use Rattle.std.specs.Ordering.{int_cmp}
use Rattle.std.specs.FinMap.{get, empty, get-empty}
use Rattle.std.proofs.Common.{refl, sym, ap, ◌∙◌}
use Rattle.std.proofs.lemmas.Option.{none-some}
use Rattle.std.proofs.lemmas.List.Elements.{All-nil}
use Rattle.ot_logic.specs.Names.{Name}
use Rattle.ot_logic.specs.Faults.{Fault}
use Rattle.ot_logic.specs.Answers.{◌>>=◌}
use Rattle.ot_scan.specs.Words.{word}
use Rattle.ot_scan.specs.Lines.{Lines, Finished, Broken, Next}
use Rattle.ot_machine.specs.States.{Entry, Given, State, Context, fresh_run}
use Rattle.ot_machine.specs.Step.{named, command_of, step}
use Rattle.ot_machine.specs.Run.{line_step, go_on, run}
use Rattle.ot_machine.specs.Rows.{definitions_of}
use Rattle.ot_machine.specs.Lawful.{StatesSequent, run_basis, EntryFits, GivenFits, IsAxiom, IsLawfulExport}
use Rattle.ot_machine.specs.Lawful.{IsLawfulRun, IsLawful, AreLawfulGivens, IsNaming, Keeps}
use Rattle.ot_machine.specs.NamesIn.{HasVersion5}
use Rattle.ot_scan.specs.Words.{WordValue, Numeral, Quoted, Order}
use Rattle.ot_machine.specs.Commanded.{CanBeSaid}
use Rattle.ot_machine.specs.LawfulLaws.{left, CanBeNamed, AreNamed, FreshIsLawful}
use Rattle.ot_machine.specs.LawfulLaws.{LinesAreLawful, LawfulStays, ResultsAreTheorems}
use Rattle.ot_machine.proofs.Commanded.{leads-keeps}
use Rattle.ot_machine.proofs.Fewer.{none-fewer}
use Rattle.ot_machine.proofs.DefinitionFewer.{definition-fewer}
use Rattle.ot_machine.proofs.Growing.{same-basis, larger-then, givens-more, exports-more}
use Rattle.ot_machine.proofs.StepLawful.{step-lawful}
use Rattle.ot_logic.proofs.Results.{bind-ok}

module _ (P : Name → Type 0) (has : HasVersion5 P) where
  kept-same : (s : State) → IsLawful P s → Keeps P s s
  kept-same s h = (h, same-basis (run_basis P s.run))

  kept-on : (s t u : State) → Keeps P s t → Keeps P t u → Keeps P s u
  kept-on s t u k l = (l.0, larger-then _ _ _ k.1 l.1)

  pub run-lawful : (c : Context) (lines : Lines) (s : State) → IsNaming P c → AreNamed P lines
      → AreLawfulGivens P s.run c.theorems → IsLawful P s → Keeps P s (left (run c lines s))
  run-lawful c Finished s naming held givens h = kept-same s h
  run-lawful c (Broken number fault) s naming held givens h = kept-same s h
  run-lawful c (Next number text lines) s naming held givens h =
      by (line_step c s text) refl (λ t g l. run-lawful c lines t naming held.1 g l)
    where
      by : (r : Result State (Fault Name)) → line_step c s text ≡ r
          → ((t : State) → AreLawfulGivens P t.run c.theorems → IsLawful P t → Keeps P t (left (run c lines t)))
          → Keeps P s (left (go_on number s r (run c lines)))
      by (Ok t) e go =
          let w = bind-ok (word text) (step c s) t e in
          let k = step-lawful P has c s t w.0 naming (λ n q. held.0 n (ap (λ r. r >>= command_of) w.1 ∙ q)) givens h
          w.2 in
          kept-on s t _ k (go t (givens-more _ _ k.1 c.theorems givens) k.0)
      by (Err f) e go = kept-same s h

  -- words of lines, one after another
  abbrev SoFar : Context → State → State → Type 0
  SoFar c s t = Keeps P s t × AreLawfulGivens P t.run c.theorems

  so-far : (c : Context) (s : State) → IsNaming P c → CanBeNamed P → (t u : State) (w : WordValue) → CanBeSaid w
      → SoFar c s t → step c t w ≡ Ok u → SoFar c s u
  so-far c s naming names t u w said h e =
      let k = step-lawful P has c t u w naming (λ n q. named-by w n said q) h.1 h.0.0 e in
      (kept-on s t u h.0 k, givens-more _ _ k.1 c.theorems h.1)
    where
      named-by : (w : WordValue) (n : Name) → CanBeSaid w → command_of w ≡ Ok (named n) → P n
      named-by (Quoted text) n said q = names text n said q
      named-by (Numeral z) n said q = absurd (cc)
      named-by (Order v) n said q = absurd (cc)

  pub lines-lawful : LinesAreLawful P
  lines-lawful c s t naming names givens h l =
      (leads-keeps (SoFar c s) c (so-far c s naming names) s t l (kept-same s h, givens)).0

-- a run before its first article, and an article before its first command
module _ (P : Name → Type 0) where
  fresh-run : IsLawfulRun P fresh_run
  fresh-run = record {
    assumptions = All-nil (GivenFits (run_basis P fresh_run));
    axioms = All-nil (λ (g : Given). IsAxiom g.origin);
    apart = λ i j x y p q same. absurd (cc);
    definitions = λ i m p. absurd (cc);
  }

  pub fresh-lawful : FreshIsLawful P
  fresh-lawful = (
    fresh-run,
    λ run h. record {
      run = h;
      article = record {
        stack = All-nil (EntryFits (run_basis P run));
        dictionary = λ k e p. let none : get (empty {X = Entry} {R = int_cmp}) k ≡ None = get-empty int_cmp k in
            absurd (none-some e (sym none ∙ p));
        exports = All-nil (IsLawfulExport (run_basis P run));
        stated = All-nil StatesSequent;
        apart = λ i j x y p q same. absurd (cc);
      };
    },
  )

  pub lawful-stays : LawfulStays P
  lawful-stays r q h = (givens-more _ _ h, exports-more _ _ h)

  pub results-are : ResultsAreTheorems P
  results-are run h i m p j q e =
      let d = h.definitions i m p in
      let first = definition-fewer [] (definitions_of (take i run.definitions))
      (none-fewer (definitions_of (take i run.definitions))) m.definition m.origin d.accepted in
      rw (first, e) refl
