use Rattle.ot_io.specs.declared.whole.FileFault.TheVariants as faults
use Rattle.ot_io.proofs.Readings.{Files-none, Files-map}
use Rattle.ot_io.proofs.Fronts.{file-refused}
use Rattle.ot_program.proofs.ReadingLemmas.{text_fits, text_too_long, text_missing}
use Rattle.ot_program.proofs.reading.opened_bytes.Goals as goal

pub returns-in-Ok-clause-read : goal.returns-in-Ok-clause-read
returns-in-Ok-clause-read g c =
    Files-map _ _ _ (λ folder h. (text_fits c.args.text.now folder c.in-Ok.bytes.items h.0 h.1, tt))
    c.in-Ok.ensures.reads

pub returns-in-Err-TooLarge-clause-read : goal.returns-in-Err-TooLarge-clause-read
returns-in-Err-TooLarge-clause-read g c =
    Files-map _ _ _ (λ folder h. (tt, text_too_long c.args.text.now folder h.0 h.1 h.2))
    (file-refused _ _ _ _ faults.TooLarge c.in-Err-TooLarge.field-0-is c.in-Err-TooLarge.ensures.reads)

pub returns-in-Err-Missing-clause-read : goal.returns-in-Err-Missing-clause-read
returns-in-Err-Missing-clause-read g c =
    Files-map _ _ _ (λ folder none. (tt, text_missing c.args.text.now folder none)) (file-refused _ _ _ _ faults.Missing c.in-Err-Missing.field-0-is c.in-Err-Missing.ensures.reads)

pub returns-in-Err-Failed-clause-read : goal.returns-in-Err-Failed-clause-read
returns-in-Err-Failed-clause-read g c = Files-none (g.F.Source.folder c.args.files.now) _ (λ folder. (tt, tt))

pub returns-in-Err-Memory-clause-read : goal.returns-in-Err-Memory-clause-read
returns-in-Err-Memory-clause-read g c = Files-none (g.F.Source.folder c.args.files.now) _ (λ folder. (tt, tt))
