-- A run leads to its state: what was reached comes after words that lines can say.
use Rattle.std.specs.Prelude.{Result, Ok, Err, IsOk, Option}
use Rattle.std.proofs.Common.{◌≡◌, ℕ, zero, suc, List, [], ◌++◌, ap, sym, subst, refl}
use Rattle.ot_io.specs.Reading.{HasRead}
use Rattle.ot_logic.specs.Names.{Name}
use Rattle.ot_logic.specs.Faults as stated
use Rattle.ot_scan.specs.Lines.{Lines, Finished, Broken, Next, lines_of}
use Rattle.ot_scan.proofs.AllFit.{AllFit, lines_of-fit}
use Rattle.ot_kernel.specs.State as kernel
use Rattle.ot_machine.specs.declared.fault.ArticleFault.{ArticleFault}
use Rattle.ot_machine.specs.declared.fault.ArticleFault.TheVariants as article
use Rattle.ot_machine.specs.States.{State, Context}
use Rattle.ot_machine.specs.Run.{Outcome, Ended, Stopped, line_step, go_on, run, front, IsReached}
use Rattle.ot_machine.specs.Commanded.{LeadsTo}
use Rattle.ot_machine.specs.Answers.{Runs}
use Rattle.ot_machine.proofs.Commanded.{leads-line}

module _ (c : Context) (start : State) where
  leads-none : LeadsTo c start start
  leads-none = record { words = []; said = tt; passed = refl }

  at-line : (n : ℕ) (s : State) (r : Result State (stated.Fault Name)) (next : State → Outcome) (end : Outcome)
      (P : Type 0) → ((mid : State) → r ≡ Ok mid → next mid ≡ end → P)
      → ((f : stated.Fault Name) → Stopped n f s ≡ end → P) → go_on n s r next ≡ end → P
  at-line n s (Ok mid) next end P ok err e = ok mid refl e
  at-line n s (Err f) next end P ok err e = err f e

  pub run-leads : (ls : Lines) (s t : State) → AllFit ls → LeadsTo c start s → run c ls s ≡ Ended t
      → LeadsTo c start t
  run-leads Finished s t fit l e =
      let same : s ≡ t = cc in
      subst (LeadsTo c start) same l
  run-leads (Broken n f) s t fit l e = cc
  run-leads (Next n text ls) s t fit l e =
      at-line n s (line_step c s text) (run c ls) (Ended t) (LeadsTo c start t)
      (λ mid is k. run-leads ls mid t fit.1 (leads-line c start s mid text fit.0 l is) k) (λ f k. cc) e

  pub stop-leads : (ls : Lines) (s t : State) (line : ℕ) (f : stated.Fault Name) → AllFit ls → LeadsTo c start s
      → run c ls s ≡ Stopped line f t → LeadsTo c start t
  stop-leads Finished s t line f fit l e = cc
  stop-leads (Broken n g) s t line f fit l e =
      let same : s ≡ t = cc in
      subst (LeadsTo c start) same l
  stop-leads (Next n text ls) s t line f fit l e =
      at-line n s (line_step c s text) (run c ls) (Stopped line f t) (LeadsTo c start t)
      (λ mid is k. stop-leads ls mid t line f fit.1 (leads-line c start s mid text fit.0 l is) k)
      (λ g k.
      let same : s ≡ t = cc in
      subst (LeadsTo c start) same l) e

  front-fits : (k : ℕ) (ls : Lines) → AllFit ls → AllFit (front k ls)
  front-fits zero ls fit = tt
  front-fits (suc k) Finished fit = tt
  front-fits (suc k) (Broken n f) fit = tt
  front-fits (suc k) (Next n text ls) fit = (fit.0, front-fits k ls fit.1)

  reached-leads : (ls : Lines) (t : State) → AllFit ls → IsReached c ls start t → LeadsTo c start t
  reached-leads ls t fit r = run-leads (front r.0 ls) start t (front-fits r.0 ls fit) leads-none r.1

  -- so the clause on runs has the clause on words
  pub runs-lead : (k : kernel.State) (result : Result (Unit {0}) ArticleFault) (max : ℕ) (bytes : List ℕ) (t : State)
      → Runs k result c (lines_of max bytes) start t → LeadsTo c start t
  runs-lead k (Ok u) max bytes t r = run-leads _ start t (lines_of-fit max bytes) leads-none r
  runs-lead k (Err (article.At line fault)) max bytes t r =
      stop-leads _ start t line r.0 (lines_of-fit max bytes) leads-none r.2
  runs-lead k (Err article.ReadFault) max bytes t r = reached-leads _ t (lines_of-fit max bytes) r
  runs-lead k (Err (article.Memory memory)) max bytes t r = reached-leads _ t (lines_of-fit max bytes) r

  pub read-leads : (k : kernel.State) (result : Result (Unit {0}) ArticleFault) (max : ℕ) (t : State)
      (all left : Option (List ℕ))
      → HasRead all left (IsOk result) (λ bytes rest. Runs k result c (lines_of max bytes) start t) → LeadsTo c start t
  read-leads k result max t all left h =
      runs-lead k result max (h.reads.read ++ []) t (h.reads.holds [] (λ e. refl))
