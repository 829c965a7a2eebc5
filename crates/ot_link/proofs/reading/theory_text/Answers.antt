use Rattle.std.proofs.Common.{◌∙◌, Err, sym, ap}
use Rattle.ot_io.specs.declared.whole.FileFault.TheVariants as faults
use Rattle.ot_io.proofs.Readings.{Files-none, Files-map}
use Rattle.ot_io.proofs.Fronts.{file-refused}
use Rattle.ot_link.specs.Stops.{TooLarge, Missing}
use Rattle.ot_link.specs.Planned.{within}
use Rattle.ot_link.specs.Answers.{setting_of}
use Rattle.ot_link.proofs.FileParts.{file-missing, text-read, text-large}
use Rattle.ot_link.proofs.reading.theory_text.Goals as goal

pub returns-in-Ok-clause-comes : goal.returns-in-Ok-clause-comes
returns-in-Ok-clause-comes g c =
    Files-map _ _ _
    (λ folder h k. text-read (setting_of folder c.args.setting) c.args.path.now c.in-Ok.text.items h.0 h.1)
    c.in-Ok.ensures.reads

pub returns-in_ok-path-in-Err-TooLarge-clause-comes : goal.returns-in_ok-path-in-Err-TooLarge-clause-comes
returns-in_ok-path-in-Err-TooLarge-clause-comes g c =
    Files-map _ _ _
    (λ folder h k. text-large (setting_of folder c.args.setting) c.args.path.now h.0 h.1 h.2
    ∙ ap (λ q. Err (TooLarge q)) (sym c.in_ok-path-in-Err-TooLarge.ensures.ok))
    (file-refused _ _ _ _ faults.TooLarge c.in-Err-TooLarge.field-0-is c.in-Err-TooLarge.ensures.reads)

pub returns-in_ok-path-in-Err-Missing-clause-comes : goal.returns-in_ok-path-in-Err-Missing-clause-comes
returns-in_ok-path-in-Err-Missing-clause-comes g c =
    let limit = c.args.setting.limits.now.theory_bytes in
    let path = c.args.path.now in
    Files-map _ _ _
    (λ folder none k. file-missing (setting_of folder c.args.setting) path (within limit path) none
    ∙ ap (λ q. Err (Missing q)) (sym c.in_ok-path-in-Err-Missing.ensures.ok))
    (file-refused _ _ _ _ faults.Missing c.in-Err-Missing.field-0-is c.in-Err-Missing.ensures.reads)

pub returns-in-Err-Memory-clause-comes : goal.returns-in-Err-Memory-clause-comes
returns-in-Err-Memory-clause-comes g c = Files-none _ _ (λ folder k. tt)
