-- A run so far, over the bytes that were read of a source.
use Rattle.std.specs.Prelude.{Result, Ok, Err, IsOk, Option, Some, None}
use Rattle.std.proofs.Common.{◌≡◌, ℕ, List, [], Bool, false, ap, ◌∙◌, refl}
use Rattle.ot_io.specs.Reading.{Reads, HasRead}
use Rattle.ot_io.proofs.Reading.{Reads-then, Reads-none}
use Rattle.ot_logic.specs.Faults as stated
use Rattle.ot_logic.specs.RanOut.{ran_out}
use Rattle.ot_scan.specs.Lines.{Scan, Lines, lines_of, lines_to_come, TakesLine, TakesFrom}
use Rattle.ot_scan.specs.declared.lines.Line.{Line}
use Rattle.ot_scan.specs.declared.fault.ScanFault.{ScanFault}
use Rattle.ot_scan.specs.declared.fault.ScanFault.TheVariants as scan
use Rattle.ot_kernel.specs.State as kernel
use Rattle.ot_machine.specs.declared.fault.Fault.{Fault}
use Rattle.ot_machine.specs.declared.fault.Fault.TheVariants as code
use Rattle.ot_machine.specs.declared.fault.ArticleFault.{ArticleFault}
use Rattle.ot_machine.specs.declared.fault.ArticleFault.TheVariants as article
use Rattle.ot_machine.specs.Conversions.{article_fault, refusal}
use Rattle.ot_machine.specs.States.{State, Context}
use Rattle.ot_machine.specs.Run.{Ended, line_step, run}
use Rattle.ot_machine.specs.Answers.{Refuses, Runs}
use Rattle.ot_machine.proofs.Reached.{After, after_more, after_run, runs_stopped}

module _ (c : Context) (max : ℕ) (start : State) where
  -- of the bytes that were read, and any that may follow, some of the first lines passed
  abbrev pub Follows : State → Scan → Option (List ℕ) → Option (List ℕ) → Type 0
  Follows now scan all left =
      Reads false scan.ended all left (λ bytes rest. After c (lines_of max bytes) start now (lines_to_come scan rest))

  -- the answer is the stated one for them
  abbrev pub Ran : kernel.State → Result (Unit {0}) ArticleFault → State → (all left : Option (List ℕ)) → Type 0
  Ran k result now all left =
      HasRead all left (IsOk result) (λ bytes rest. Runs k result c (lines_of max bytes) start now)

  -- before the first line
  pub follows-none : (left : Option (List ℕ)) (scan : Scan)
      → scan ≡ record { max = max; held = []; before = 0; number = 0; ended = false } → Follows start scan left left
  follows-none left scan is =
      rw is (Reads-none false left _ (λ x may. record { count = 0; rest_is = refl; now_is = refl }))

  -- at the end of the lines the run has ended
  pub follows-end : (k : kernel.State) (now : State) (old new : Scan) (all left left' : Option (List ℕ))
      → Follows now old all left → TakesFrom (Ok None) old new left left' → Ran k (Ok (tt {0})) now all left'
  follows-end k now old new all left left' f t = record {
    ended = new.ended;
    to_end = λ _. t.end.1;
    reads = Reads-then false old.ended new.ended all left left'
        (λ x y. After c (lines_of max x) start now (lines_to_come old y))
        (λ y z. TakesLine (Ok None) (lines_to_come old y) (lines_to_come new z))
        (λ x z. run c (lines_of max x) start ≡ Ended now)
        (λ x y z a l. after_run c (lines_of max x) start now (lines_to_come old y) a ∙ ap (λ z. run c z now) l.0) f
        t.line;
  }

  -- a line more that passes
  pub follows-line : (now next : State) (old new : Scan) (line : Line) (all left left' : Option (List ℕ))
      → Follows now old all left → TakesFrom (Ok (Some line)) old new left left' → line_step c now line.text.now
      ≡ Ok next → Follows next new all left'
  follows-line now next old new line all left left' f t p =
      Reads-then false old.ended new.ended all left left' _ _ _ (λ x y z a l. after_more c _ _ _ _ _ _ _ _ a l p) f
      t.line

  -- a line that is refused
  pub follows-refused : (k : kernel.State) (e : Fault) (now next : State) (old new : Scan) (line : Line)
      (all left left' : Option (List ℕ)) → Follows now old all left → TakesFrom (Ok (Some line)) old new left left'
      → (next ≡ now) × Refuses k e (line_step c now line.text.now) → Ran k (Err (refusal line.number e)) next all left'
  follows-refused k e now next old new line all left left' f t m = record {
    ended = new.ended;
    to_end = λ ok. cc;
    reads = Reads-then false old.ended new.ended all left left' _ _ _
        (λ x y z a l. runs_stopped c k line.number e _ _ _ _ _ _ _ a l m) f t.line;
  }

  -- lines that a limit or the source stops
  runs-broken : (k : kernel.State) (e : ScanFault) (all : Lines) (now : State) (old new : Lines)
      → After c all start now old → TakesLine (Err e) old new → Runs k (Err (article_fault e)) c all start now
  runs-broken k (scan.LineTooLong n) all now old new a t =
      (stated.LineTooLong, refl, after_run c _ _ _ _ a ∙ ap (λ z. run c z now) t.0)
  runs-broken k (scan.ArticleTooLong n) all now old new a t =
      (stated.ArticleTooLong, refl, after_run c _ _ _ _ a ∙ ap (λ z. run c z now) t.0)
  runs-broken k scan.ReadFault all now old new a t = (a.count, a.now_is)

  pub follows-stopped : (k : kernel.State) (e : ScanFault) (now : State) (old new : Scan)
      (all left left' : Option (List ℕ)) → Follows now old all left → TakesFrom (Err e) old new left left'
      → Ran k (Err (article_fault e)) now all left'
  follows-stopped k e now old new all left left' f t = record {
    ended = new.ended;
    to_end = λ ok. cc;
    reads = Reads-then false old.ended new.ended all left left' _ _ _ (λ x y z a l. runs-broken k e _ now _ _ a l) f
        t.line;
  }

-- a fault with a line is never running out of memory
pub refused-apart : (number line : ℕ) (f : Fault) → refusal number f ≡ article.At line (code.Memory ran_out) → ⊥
refused-apart number line (code.Memory memory) e = cc
refused-apart number line f e = cc

pub stopped-apart : (line : ℕ) (f : ScanFault) → article_fault f ≡ article.At line (code.Memory ran_out) → ⊥
stopped-apart line (scan.LineTooLong number) e = cc
stopped-apart line (scan.ArticleTooLong number) e = cc
stopped-apart line scan.ReadFault e = cc
