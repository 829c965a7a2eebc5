use Rattle.std.proofs.Common.{◌∙◌, sym, suc, length, [], arith}
use Rattle.ot_parse.specs.TermFrames.{around, closed_free_at}
use Rattle.ot_parse.specs.TermCode.{frames_of}
use Rattle.ot_parse.proofs.Halts.{handed-on}
use Rattle.ot_parse.proofs.TermOpens.{no-word, no-word-space, free-inside, head-in, bare-shorter}
use Rattle.ot_forms.specs.Reading.{mapped}
use Rattle.ot_parse.specs.Meant.{raw}
use Rattle.ot_parse.proofs.Passing.{term-leaf}
use Rattle.ot_parse.proofs.terms.named.Goals as goal

pub returns-in_err-name-clause-read : goal.returns-in_err-name-clause-read
returns-in_err-name-clause-read c = λ h d.
    rw (handed-on _ _ c.from_residual.ensures.1)
    (no-word c.args.total c.args.notation.now (around (frames_of c.args.frames.now)) c.args.room
    c.args.at c.args.text.now c.in_err-name.field-0.0 c.in_err-name.ensures)

pub returns-in_err-rest-clause-read : goal.returns-in_err-rest-clause-read
returns-in_err-rest-clause-read c = λ h d.
    rw (handed-on _ _ c.from_residual-in_err-rest.ensures.1)
    (no-word-space c.args.total c.args.notation.now (around (frames_of c.args.frames.now)) c.args.room c.args.at
    c.args.text.now c.in_ok-name.name c.in_ok-name.end.now c.in_err-rest.field-0.0 c.in_ok-name.ensures
    c.in_err-rest.ensures)

pub returns-then-is_free-clause-read : goal.returns-then-is_free-clause-read
returns-then-is_free-clause-read c = λ h d.
    free-inside c.args.total c.args.notation.now (around (frames_of c.args.frames.now)) c.args.room c.sound.ensures
    c.args.at c.args.text.now c.in_ok-name.name c.in_ok-name.end.now c.in_ok-rest.rest.now c.free_front.result
    c.in_ok-name.ensures c.in_ok-rest.ensures (sym c.is_free.ensures ∙ c.if-is_free.true)
    (c.free_front.ensures c.args.at (around (frames_of c.args.frames.now)))

pub returns-clause-read : goal.returns-clause-read
returns-clause-read c = λ h d.
    head-in c.args.total c.args.notation.now (around (frames_of c.args.frames.now)) c.args.room c.sound.ensures
    c.args.at c.place_of-place.result c.args.text.now c.in_ok-name.name c.in_ok-name.end.now c.in_ok-rest.rest.now
    c.in_ok-bound.bound
    h d c.place_of-place.ensures c.in_ok-name.ensures c.in_ok-rest.ensures (sym c.is_free.ensures
    ∙ c.if-is_free.false) (rw c.first_of.ensures at c.in_ok-bound.ensures)

pub returns-then-is_free-clause-shorter : goal.returns-then-is_free-clause-shorter
returns-then-is_free-clause-shorter c =
    term-leaf (suc (length c.args.text.now)) []
    (mapped (raw c.args.notation.now [] 0)
    (closed_free_at c.args.notation.now c.args.room c.in_ok-name.name c.in_ok-rest.rest.now))
    c.free_front.result (c.free_front.ensures 0 [])

pub returns-clause-shorter : goal.returns-clause-shorter
returns-clause-shorter c =
    let a = bare-shorter c.args.text.now c.in_ok-name.name c.in_ok-name.end.now c.in_ok-name.ensures in
    omega (arith, a)
