-- The verdict on a sample.
use Rattle.std.proofs.Common.{◌≡◌, ◌≤◌, ℕ, List, subst, arith}
use Rattle.std.specs.Global.{Global}
use Rattle.std.specs.Prelude.{true, Vec, Option, Some, None, Result, Ok, Err, IfOk, IfSome, OnOk}
use Rattle.ot_io.specs.Causes.{CountRose}
use Rattle.ot_link.specs.Stops.{Stop}
use Rattle.ot_link.specs.Blocks.{Ran, article_end}
use Rattle.ot_sample.specs.Sample.{sample}
use Rattle.ot_print.specs.Laws.{TextsNameOne}
use Rattle.ot_program.specs.World.{World}
use Rattle.ot_program.specs.Tasks.{RunSample}
use Rattle.ot_program.specs.Runs.{outcome}
use Rattle.ot_program.specs.Command.{run_lists, IsProved, End, Finished, Stopped, Failed, IsAnswer}
use Rattle.ot_program.specs.RunInput.{article_fits, article_text, IsRewritten}
use Rattle.ot_program.specs.Samples.{sample_path, sample_line}
use Rattle.ot_program.specs.Endings.{HasTaskCause, HasTaskEnd, HasOwnCause}
use Rattle.ot_program.specs.Verdicts.{EndsAs, IsVerdictOf}
use Rattle.ot_program.specs.declared.report.Verdict.{Verdict}
use Rattle.ot_program.specs.declared.status.Status.TheVariants.{Accepted}
use Rattle.ot_program.proofs.TaskEnds.{task_ended}

-- a sample whose run ended
pub sample_ended : {E : Type 0} (n : ℕ) (r : Ran) (a : Result Verdict E) → IfOk a (EndsAs (RunSample n) r)
    → OnOk a (article_fits r ≡ true → IsRewritten r)
    → IsProved (run_lists r) → TextsNameOne → IfOk a (IsVerdictOf (RunSample n) (Some (Finished r)))
sample_ended n r (Err e) ends rewritten proved one = tt
sample_ended n r (Ok v) ends rewritten proved one = record {
  ends = ends;
  proved = proved;
  promised = rewritten;
  one_text = one;
}

-- its written article, as a text that is within the limit
pub written_text : (r : Ran) (o : Option (Vec ℕ Global)) (text : Vec ℕ Global) → o ≡ Some text
    → IfSome o (λ t. (article_fits r ≡ true) × (t.items ≡ article_text r))
    → (article_fits r ≡ true) × (text.items ≡ article_text r)
written_text r o text is some =
    subst (λ (x : Option (Vec ℕ Global)). IfSome x (λ t. (article_fits r ≡ true) × (t.items ≡ article_text r))) is
    some

pub sample_within : (n : ℕ) (r : Ran) (v : Verdict) → article_fits r ≡ true → v.status ≡ Accepted
    → v.text.items ≡ sample_line n r
    → EndsAs (RunSample n) r v
sample_within n r v fit status text = rw fit (record { status_is = status; text_is = text })

-- it doesn't fail, since its source doesn't
no_rise : ¬ CountRose 0 0
no_rise h = let e : 1 ≤ 0 = h in absurd (omega arith)

never : {X : Type 0} → CountRose 0 0 → X
never h = absurd (no_rise h)

sample_cause : (n : ℕ) (May : World → Type 0) (o : Option (End Ran Stop))
    → IfSome o (HasOwnCause sample_path (CountRose 0 0) ⊥)
    → IfSome o (HasTaskCause (RunSample n) May ⊥ (λ file. ⊥) ⊥)
sample_cause n May None cause = tt
sample_cause n May (Some (Finished r)) cause = tt
sample_cause n May (Some (Stopped s)) cause = cause
sample_cause n May (Some (Failed path)) cause = never cause.1

-- the run of its article ends as its bytes say
pub sample_end : (n : ℕ) (May : World → Type 0) (o : Option (End Ran Stop))
    → IfSome o (IsAnswer (article_end sample_path (outcome (sample n))))
    → IfSome o (HasOwnCause sample_path (CountRose 0 0) ⊥)
    → IfSome o (λ e. HasTaskEnd (RunSample n) ⊥ (λ file. ⊥) ⊥ e May)
sample_end n May o ends cause =
    task_ended (RunSample n) ⊥ (λ file. ⊥) ⊥ May o (λ world may. ends) (sample_cause n May o cause)
