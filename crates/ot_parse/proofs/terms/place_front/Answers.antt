use Rattle.ot_forms.specs.Reading.{part_at}
use Rattle.ot_parse.specs.Meant.{place_at, bound_of}
use Rattle.ot_parse.specs.TermFrames.{around}
use Rattle.ot_parse.specs.TermCode.{frames_of}
use Rattle.ot_parse.proofs.Halts.{handed-on, halt-mapped}
use Rattle.ot_parse.proofs.TermOpens.{bound-leaf}
use Rattle.ot_parse.proofs.terms.place_front.Goals as goal

pub returns-in_err-name : goal.returns-in_err-name
returns-in_err-name c =
    rw (handed-on _ _ c.from_residual.ensures.1)
    (halt-mapped c.in_err-name.field-0.0 (part_at c.args.text.now)
    (bound_of (around (frames_of c.args.frames.now)) (place_at c.args.total c.args.text.now)) c.in_err-name.ensures)

pub returns : goal.returns
returns c =
    bound-leaf (around (frames_of c.args.frames.now)) (place_at c.args.total c.args.text.now) c.place_of.result
    c.args.text.now c.in_ok-name.name.now c.in_ok-name.rest.now c.in_ok-bound.bound c.place_of.ensures
    c.in_ok-name.ensures c.in_ok-bound.ensures
