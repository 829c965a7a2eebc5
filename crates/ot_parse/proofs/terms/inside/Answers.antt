use Rattle.std.proofs.Common.{◌∙◌, sym, arith, suc, length, []}
use Rattle.ot_parse.specs.TermFrames.{around, closed_variable_at}
use Rattle.ot_parse.specs.TermCode.{frames_of}
use Rattle.ot_parse.proofs.TermOpens.{nothing-inside, binding-inside, variable-inside, first-in, named-inside}
use Rattle.ot_forms.specs.Reading.{mapped}
use Rattle.ot_parse.specs.Meant.{raw}
use Rattle.ot_parse.proofs.Passing.{term-leaf, term-opens}
use Rattle.ot_parse.proofs.terms.inside.Goals as goal

pub returns-in-None-clause-read : goal.returns-in-None-clause-read
returns-in-None-clause-read c = λ h d.
    nothing-inside c.args.total c.args.notation.now (around (frames_of c.args.frames.now))
    c.args.room c.args.at c.args.text.now c.in-None.ensures.cases

pub returns-then-byte-eq92-clause-read : goal.returns-then-byte-eq92-clause-read
returns-then-byte-eq92-clause-read c = λ h d.
    let e = c.in-Some.ensures.cases.0 in let w = c.in-Some.ensures.cases.1 in
    rw e (binding-inside c.args.total c.args.notation.now (around (frames_of c.args.frames.now)) c.args.room c.args.at
    c.in-Some.byte.now c.in-Some.after.now c.binding_front.result c.if-byte-eq92.true
    (c.binding_front.ensures.read c.args.at (around (frames_of c.args.frames.now)) (omega (arith, w, h))
    (omega (arith, w, d))))

pub returns-then-byte-eq34-clause-read : goal.returns-then-byte-eq34-clause-read
returns-then-byte-eq34-clause-read c = λ h d.
    let e = c.in-Some.ensures.cases.0 in
    rw e (variable-inside c.args.total c.args.notation.now (around (frames_of c.args.frames.now)) c.args.room
    c.args.at c.in-Some.byte.now c.in-Some.after.now c.variable_front.result c.if-byte-eq34.true
    (rw e at (c.variable_front.ensures c.args.at (around (frames_of c.args.frames.now)))))

pub returns-then-opens_term-clause-read : goal.returns-then-opens_term-clause-read
returns-then-opens_term-clause-read c = λ h d.
    let e = c.in-Some.ensures.cases.0 in
    rw e (first-in c.args.total c.args.notation.now (around (frames_of c.args.frames.now)) c.args.room c.sound.ensures
    c.args.at c.place_of.result c.in-Some.byte.now c.in-Some.after.now (rw e at h) (rw e at d)
    (rw e at c.place_of.ensures)
    c.if-byte-eq92.false c.if-byte-eq34.false (sym c.opens_term.ensures ∙ c.if-opens_term.true))

pub returns-else-opens_term-clause-read : goal.returns-else-opens_term-clause-read
returns-else-opens_term-clause-read c = λ h d.
    let e = c.in-Some.ensures.cases.0 in
    rw e (named-inside c.args.total c.args.notation.now (around (frames_of c.args.frames.now)) c.args.room
    c.sound.ensures c.args.at c.in-Some.byte.now c.in-Some.after.now c.named.result
    c.if-byte-eq92.false c.if-byte-eq34.false (sym c.opens_term.ensures ∙ c.if-opens_term.false)
    (rw e at (c.named.ensures.read h d)))

pub returns-then-byte-eq92-clause-shorter : goal.returns-then-byte-eq92-clause-shorter
returns-then-byte-eq92-clause-shorter c =
    let w = c.in-Some.ensures.cases.1 in
    term-opens (suc (length c.in-Some.after.now)) (suc (length c.args.text.now)) c.binding_front.result
    (omega (arith, w)) c.binding_front.ensures.shorter

pub returns-then-byte-eq34-clause-shorter : goal.returns-then-byte-eq34-clause-shorter
returns-then-byte-eq34-clause-shorter c =
    term-leaf (suc (length c.args.text.now)) []
    (mapped (raw c.args.notation.now [] 0) (closed_variable_at c.args.notation.now c.args.room c.args.text.now))
    c.variable_front.result (c.variable_front.ensures 0 [])
