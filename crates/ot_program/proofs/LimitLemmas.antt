-- A text that was printed within the limit, or is too large for it.
use Rattle.std.proofs.Common.{◌≡◌, ℕ, ◌<◌, ◌≤◌, List, [], ◌++◌, length, ap, ◌∙◌, arith}
use Rattle.ot_logic.specs.Limits.{summary_limit, written_limit}
use Rattle.std.specs.Prelude.{Result, Ok, Err, IfOk}
use Rattle.std.proofs.lemmas.Bool.{le-leb, lt-leb}
use Rattle.ot_text.specs.Pages.{Appended}
use Rattle.ot_link.specs.Blocks.{Ran}
use Rattle.ot_program.specs.RunInput.{log_text}
use Rattle.ot_program.specs.Texts.{large_log_line}
use Rattle.ot_program.specs.Verdicts.{IsSaid, IsPrinted}
use Rattle.ot_program.specs.declared.report.Verdict.{Verdict}
use Rattle.ot_program.specs.declared.status.Status.TheVariants.{Accepted, Refused}

pub text_printed : (text line : List ℕ) (max : ℕ) (old : List ℕ) (v : Verdict) → max ≡ summary_limit → old ≡ []
    → v.status ≡ Accepted → Appended text max old v.text.items → IsPrinted summary_limit text line v
text_printed text line max old v limit empty status printed =
    let within : length text ≤ summary_limit = rw (← limit) printed.within in
    rw (le-leb (length text) summary_limit within)
    (record { status_is = status; text_is = printed.bytes ∙ ap (λ xs. xs ++ text) empty })

-- a proof log that was written so
pub log_written : (path : List ℕ) (r : Ran) (max : ℕ) (old : List ℕ) (v : Verdict) → max ≡ written_limit → old ≡ []
    → v.status ≡ Accepted → (v.text.items ≡ old ++ log_text r) × (length (log_text r) ≤ max)
    → IsPrinted written_limit (log_text r) (large_log_line path) v
log_written path r max old v limit empty status written =
    let within : length (log_text r) ≤ written_limit = rw (← limit) written.1 in
    rw (le-leb (length (log_text r)) written_limit within)
    (record { status_is = status; text_is = written.0 ∙ ap (λ xs. xs ++ log_text r) empty })

pub text_too_large : {E : Type 0} (text line : List ℕ) (max : ℕ) (r : Result Verdict E) → max ≡ summary_limit
    → max < length text → IfOk r (λ v. IsSaid v Refused line) → IfOk r (IsPrinted summary_limit text line)
text_too_large text line max (Err e) limit past said = tt
text_too_large text line max (Ok v) limit past said =
    let large : summary_limit < length text = omega arith in
    rw (lt-leb (length text) summary_limit large) said
