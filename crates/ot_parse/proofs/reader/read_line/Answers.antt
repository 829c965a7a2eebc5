use Rattle.ot_parse.specs.Values.{meant_of}
use Rattle.ot_parse.specs.ReadLines.{kept_of, IsWholeLine}
use Rattle.ot_parse.proofs.Handing.{handed}
use Rattle.ot_parse.proofs.WholeLines.{line-read, line-means, hyps-halt, concl-halt}
use Rattle.ot_parse.proofs.reader.read_line.Goals as goal

pub returns-in_err-hyps : goal.returns-in_err-hyps
returns-in_err-hyps c =
    handed c.from_residual.result c.in_err-hyps.field-0.0 (IsWholeLine c.args.notation.now c.args.line.now)
    c.from_residual.ensures.1
    (hyps-halt c.args.notation.now c.sound.ensures c.args.line.now c.in_err-hyps.field-0.0 c.in_err-hyps.ensures.read)

pub returns-in_err-concl : goal.returns-in_err-concl
returns-in_err-concl c =
    handed c.from_residual-in_err-concl.result c.in_err-concl.field-0.0
    (IsWholeLine c.args.notation.now c.args.line.now) c.from_residual-in_err-concl.ensures.1
    (concl-halt c.args.notation.now c.sound.ensures c.args.line.now (kept_of c.in_ok-hyps.hyps) c.in_ok-hyps.rest.now
    c.in_err-concl.field-0.0 c.in_ok-hyps.ensures.read c.in_err-concl.ensures)

pub returns : goal.returns
returns c =
    line-means c.args.notation.now c.args.line.now (kept_of c.in_ok-hyps.hyps) (meant_of c.in_ok-concl.concl)
    c.sequent.result
    (line-read c.args.notation.now c.sound.ensures c.args.line.now (kept_of c.in_ok-hyps.hyps) c.in_ok-hyps.rest.now
    (meant_of c.in_ok-concl.concl) c.in_ok-hyps.ensures.read c.in_ok-concl.ensures) c.sequent.ensures
