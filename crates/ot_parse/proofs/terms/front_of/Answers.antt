use Rattle.std.proofs.Common.{◌-◌, arith, length, []}
use Rattle.ot_parse.specs.TermFrames.{around, closed_constant_at}
use Rattle.ot_parse.specs.TermCode.{frames_of}
use Rattle.ot_parse.proofs.TermOpens.{nothing-front, full-front, brace-full}
use Rattle.ot_parse.proofs.TermOpens.{inside-front, constant-front, place-front}
use Rattle.ot_forms.specs.Reading.{mapped, part_at}
use Rattle.ot_parse.specs.Meant.{place_at, raw, bound_of}
use Rattle.ot_parse.proofs.Passing.{term-leaf}
use Rattle.ot_parse.proofs.terms.front_of.Goals as goal

pub returns-in-None-clause-read : goal.returns-in-None-clause-read
returns-in-None-clause-read c = λ h.
    nothing-front c.args.total c.args.notation.now (around (frames_of c.args.frames.now))
    c.args.room c.args.text.now c.in-None.ensures.cases

pub returns-then-room-eq0-clause-read : goal.returns-then-room-eq0-clause-read
returns-then-room-eq0-clause-read c = λ h. rw c.in-Some.ensures.cases.0
    (full-front c.args.total c.args.notation.now (around (frames_of c.args.frames.now)) c.args.room c.in-Some.byte.now
    c.in-Some.after.now c.if-room-eq0.true c.if-byte-eq40.true)

pub returns-then-byte-eq40-clause-read : goal.returns-then-byte-eq40-clause-read
returns-then-byte-eq40-clause-read c = λ h.
    let e = c.in-Some.ensures.cases.0 in let w = c.in-Some.ensures.cases.1 in let p = c.place_of-at.ensures in
    rw e (inside-front c.args.total c.args.notation.now (around (frames_of c.args.frames.now)) c.args.room
    c.place_of-at.result c.in-Some.byte.now c.in-Some.after.now c.inside.result c.if-room-eq0.false
    c.if-byte-eq40.true (rw e at p)
    (c.inside.ensures.read (omega (arith, w, h)) (omega (arith, w, p))))

pub returns-then-room-eq0-2-clause-read : goal.returns-then-room-eq0-2-clause-read
returns-then-room-eq0-2-clause-read c = λ h. rw c.in-Some.ensures.cases.0
    (brace-full c.args.total c.args.notation.now (around (frames_of c.args.frames.now)) c.args.room c.in-Some.byte.now
    c.in-Some.after.now c.if-room-eq0-2.true c.if-byte-eq123.true)

pub returns-then-byte-eq123-clause-read : goal.returns-then-byte-eq123-clause-read
returns-then-byte-eq123-clause-read c = λ h. rw c.in-Some.ensures.cases.0
    (constant-front c.args.total c.args.notation.now (around (frames_of c.args.frames.now)) c.args.room
    c.in-Some.byte.now c.in-Some.after.now c.constant_front.result c.if-room-eq0-2.false c.if-byte-eq123.true
    (λ k. c.constant_front.ensures k (around (frames_of c.args.frames.now))))

pub returns-else-byte-eq123-clause-read : goal.returns-else-byte-eq123-clause-read
returns-else-byte-eq123-clause-read c = λ h.
    let e = c.in-Some.ensures.cases.0 in
    rw e (place-front c.args.total c.args.notation.now (around (frames_of c.args.frames.now)) c.args.room
    c.in-Some.byte.now c.in-Some.after.now c.place_front.result c.if-byte-eq40.false c.if-byte-eq123.false
    (rw e at c.place_front.ensures))

pub returns-then-byte-eq40-clause-shorter : goal.returns-then-byte-eq40-clause-shorter
returns-then-byte-eq40-clause-shorter c = rw c.in-Some.ensures.cases.0 c.inside.ensures.shorter

pub returns-then-byte-eq123-clause-shorter : goal.returns-then-byte-eq123-clause-shorter
returns-then-byte-eq123-clause-shorter c =
    term-leaf (length c.args.text.now) []
    (mapped (raw c.args.notation.now [] 0)
    (closed_constant_at c.args.notation.now (c.args.room - 1) c.in-Some.after.now))
    c.constant_front.result (c.constant_front.ensures 0 [])

pub returns-else-byte-eq123-clause-shorter : goal.returns-else-byte-eq123-clause-shorter
returns-else-byte-eq123-clause-shorter c =
    let l = around (frames_of c.args.frames.now) in
    term-leaf (length c.args.text.now) l
    (mapped (bound_of l (place_at c.args.total c.args.text.now)) (part_at c.args.text.now)) c.place_front.result
    c.place_front.ensures
