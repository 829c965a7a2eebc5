-- A run so far.
use Rattle.std.specs.Prelude.{Result, Ok, Err, Some}
use Rattle.std.proofs.Common.{◌≡◌, ℕ, zero, suc, List, sym, ap, ◌∙◌, refl}
use Rattle.ot_logic.specs.Names.{Name}
use Rattle.ot_logic.specs.Faults as stated
use Rattle.ot_scan.specs.Lines.{Lines, Finished, Broken, Next}
use Rattle.ot_kernel.specs.State as kernel
use Rattle.ot_machine.specs.declared.fault.Fault.{Fault}
use Rattle.ot_machine.specs.declared.fault.Fault.TheVariants as faults
use Rattle.ot_machine.specs.Faults.{fault_of}
use Rattle.ot_machine.specs.Conversions.{refusal}
use Rattle.ot_machine.specs.States.{State, Context}
use Rattle.ot_machine.specs.Run.{Ended, Stopped, line_step, go_on, run, front, behind, IsReached}
use Rattle.ot_machine.specs.Answers.{Refuses, Runs}

module _ (c : Context) where
  -- some of the first lines passed, and led here, with these lines left
  pub record After (all : Lines) (start now : State) (rest : Lines) : Type 0 where
    pub count : ℕ
    pub rest_is : behind count all ≡ rest
    pub now_is : run c (front count all) start ≡ Ended now

  -- the run goes on as the run of what is left
  run_behind : (k : ℕ) (all : Lines) (start now : State) → run c (front k all) start ≡ Ended now
      → run c all start ≡ run c (behind k all) now
  run_behind zero all start now e = ap (run c all) cc
  run_behind (suc k) Finished start now e = cc
  run_behind (suc k) (Broken n f) start now e = ap (run c (Broken n f)) cc
  run_behind (suc k) (Next n t ls) start now e = at_step (line_step c start t) (λ mid. run_behind k ls mid now) e
    where
      at_step : (r : Result State (stated.Fault Name))
          → ((mid : State) → run c (front k ls) mid ≡ Ended now → run c ls mid ≡ run c (behind k ls) now)
          → go_on n start r (run c (front k ls)) ≡ Ended now → go_on n start r (run c ls) ≡ run c (behind k ls) now
      at_step (Ok mid) ih e = ih mid e
      at_step (Err f) ih e = cc

  -- one line more that passes
  more : (k : ℕ) (all : Lines) (start now next : State) (n : ℕ) (t : List ℕ) (ls : Lines) → behind k all ≡ Next n t ls
      → run c (front k all) start ≡ Ended now → line_step c now t ≡ Ok next → (behind (suc k) all ≡ ls)
      × (run c (front (suc k) all) start ≡ Ended next)
  more zero Finished start now next n t ls b e p = cc
  more zero (Broken m f) start now next n t ls b e p = cc
  more zero (Next m u rest) start now next n t ls b e p =
      let same : start ≡ now = cc in
      let text : u ≡ t = cc in
      let left : rest ≡ ls = cc in (
        left,
        ap (λ r. go_on m start r (run c Finished)) (ap (line_step c start) text ∙ ap (λ z. line_step c z t) same
            ∙ p),
      )
  more (suc k) Finished start now next n t ls b e p = cc
  more (suc k) (Broken m f) start now next n t ls b e p = cc
  more (suc k) (Next m u rest) start now next n t ls b e p =
      at_step (line_step c start u) (λ mid h. more k rest mid now next n t ls b h p) e
    where
      at_step : (r : Result State (stated.Fault Name))
          → ((mid : State) → run c (front k rest) mid ≡ Ended now → (behind (suc k) rest ≡ ls)
          × (run c (front (suc k) rest) mid ≡ Ended next)) → go_on m start r (run c (front k rest)) ≡ Ended now
          → (behind (suc k) rest ≡ ls) × (go_on m start r (run c (front (suc k) rest)) ≡ Ended next)
      at_step (Ok mid) ih e = ih mid e
      at_step (Err f) ih e = cc

  pub after_more : (all : Lines) (start now next : State) (n : ℕ) (t : List ℕ) (rest ls : Lines)
      → After all start now rest → rest ≡ Next n t ls → line_step c now t ≡ Ok next → After all start next ls
  after_more all start now next n t rest ls a b p =
      let m = more a.count all start now next n t ls (a.rest_is ∙ b) a.now_is p in
      record { count = suc a.count; rest_is = m.0; now_is = m.1 }

  pub after_run : (all : Lines) (start now : State) (rest : Lines) → After all start now rest
      → run c all start ≡ run c rest now
  after_run all start now rest a = run_behind a.count all start now a.now_is ∙ ap (λ z. run c z now) a.rest_is

  runs_refusal : (k : kernel.State) (line : ℕ) (e : Fault) (all : Lines) (start now : State)
      → ((f : stated.Fault Name) → fault_of (kernel.name_at k) e ≡ Some f → run c all start ≡ Stopped line f now)
      → IsReached c all start now → Runs k (Err (refusal line e)) c all start now
  runs_refusal k line (faults.Memory memory) all start now stopped reached = reached
  runs_refusal k line e all start now stopped reached = (_, refl, stopped _ refl)

  -- a line that is refused ends the run, and one that wants memory leaves it where it was
  pub runs_stopped : (k : kernel.State) (line : ℕ) (e : Fault) (all : Lines) (start now new : State) (t : List ℕ)
      (rest ls : Lines) → After all start now rest → rest ≡ Next line t ls
      → (new ≡ now) × Refuses k e (line_step c now t) → Runs k (Err (refusal line e)) c all start new
  runs_stopped k line e all start now new t rest ls a b m =
      runs_refusal k line e all start new
      (λ f p. after_run all start now rest a ∙ ap (λ z. run c z now) b
      ∙ ap (λ r. go_on line now r (run c ls)) (m.1.1 f p) ∙ ap (Stopped line f) (sym m.0))
      (a.count, a.now_is ∙ ap Ended (sym m.0))
