use Rattle.std.proofs.Common.{rules}
use Rattle.ot_io.specs.declared.whole.FileFault.TheVariants as faults
use Rattle.ot_io.proofs.Readings.{Files-none, Files-map}
use Rattle.ot_io.proofs.Fronts.{file-refused}
use Rattle.ot_repo.proofs.FileTexts.{text-small, text-large}
use Rattle.ot_repo.proofs.reading.file_text.Goals as goal

pub returns-in-Ok-clause-text : goal.returns-in-Ok-clause-text
returns-in-Ok-clause-text g c =
    Files-map _ _ _ (λ folder h. text-small folder c.args.max_bytes c.args.path.now c.in-Ok.text.items h.0 h.1)
    c.in-Ok.ensures.reads

pub returns-in-Err-TooLarge-clause-text : goal.returns-in-Err-TooLarge-clause-text
returns-in-Err-TooLarge-clause-text g c =
    Files-map _ _ _ (λ folder h. text-large folder c.args.max_bytes c.args.path.now h.0 h.1 h.2)
    (file-refused _ _ _ _ faults.TooLarge c.in-Err-TooLarge.field-0-is c.in-Err-TooLarge.ensures.reads)

pub returns-in_ok-path-in-Err-Missing-clause-text : goal.returns-in_ok-path-in-Err-Missing-clause-text
returns-in_ok-path-in-Err-Missing-clause-text g c =
    Files-map _ _ _ (λ folder h. search rules) (file-refused _ _ _ _ faults.Missing c.in-Err-Missing.field-0-is c.in-Err-Missing.ensures.reads)

pub returns-in_ok-path-in-Err-Failed-clause-text : goal.returns-in_ok-path-in-Err-Failed-clause-text
returns-in_ok-path-in-Err-Failed-clause-text g c = Files-none _ _ (λ folder. tt)

pub returns-in-Err-Memory-clause-text : goal.returns-in-Err-Memory-clause-text
returns-in-Err-Memory-clause-text g c = Files-none _ _ (λ folder. tt)
