use Rattle.std.proofs.Common.{subst}
use Rattle.ot_parse.specs.Plain.{sequent_of}
use Rattle.ot_parse.specs.Refused.{IsRefusal}
use Rattle.ot_read.specs.Lines.{line_read}
use Rattle.ot_read.proofs.Joining.{at-column}
use Rattle.ot_read.proofs.lines.line_at.Goals as goal

pub returns-in-Ok-clause-ok : goal.returns-in-Ok-clause-ok
returns-in-Ok-clause-ok c =
    ((c.as_the_forms_say.ensures.lines c.args.notation.now c.sound.ensures c.args.text.now).stands
    (sequent_of c.in-Ok.sequent)).1 c.in-Ok.ensures.ok

pub returns-in-Err-At-clause-refused : goal.returns-in-Err-At-clause-refused
returns-in-Err-At-clause-refused c =
    let r = subst (IsRefusal c.args.notation.now c.args.text.now) c.in-Err-At.field-0-is
    c.in-Err-At.ensures.refused in
    at-column c.args.number c.in-Err-At.column c.in-Err-At.fault (line_read c.args.notation.now c.args.text.now)
    (((c.as_the_forms_say.ensures.lines c.args.notation.now c.sound.ensures c.args.text.now).refused _
    c.in-Err-At.fault).1 r.1) r.0
