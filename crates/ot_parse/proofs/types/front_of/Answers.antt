use Rattle.ot_parse.proofs.TypeFronts.{nothing-front, quote-front, word-front, full-front, inside-front}
use Rattle.std.proofs.Common.{length}
use Rattle.ot_logic.specs.Trees.{TyVar, TyOp, NoTys}
use Rattle.ot_forms.specs.Reading.{mapped, variable_at, operator_at}
use Rattle.ot_parse.proofs.Passing.{type-leaf}
use Rattle.ot_parse.proofs.types.front_of.Goals as goal

pub returns-in-None-clause-read : goal.returns-in-None-clause-read
returns-in-None-clause-read c = nothing-front c.args.notation.now c.args.room c.args.text.now c.in-None.ensures.cases

pub returns-then-byte-eq39-clause-read : goal.returns-then-byte-eq39-clause-read
returns-then-byte-eq39-clause-read c =
    rw c.in-Some.ensures.cases.0 (quote-front c.args.notation.now c.args.room c.in-Some.byte.now c.in-Some.after.now
    c.variable_front.result c.if-byte-eq39.true c.variable_front.ensures)

pub returns-then-byte-ne40-clause-read : goal.returns-then-byte-ne40-clause-read
returns-then-byte-ne40-clause-read c =
    let e = c.in-Some.ensures.cases.0 in
    rw e (word-front c.args.notation.now c.args.room c.in-Some.byte.now c.in-Some.after.now c.operator_front.result
    c.if-byte-eq39.false c.if-byte-ne40.true (rw e at c.operator_front.ensures))

pub returns-then-room-eq0-clause-read : goal.returns-then-room-eq0-clause-read
returns-then-room-eq0-clause-read c =
    rw c.in-Some.ensures.cases.0 (full-front c.args.notation.now c.args.room c.in-Some.byte.now c.in-Some.after.now
    c.if-room-eq0.true c.if-byte-ne40.false)

pub returns-else-room-eq0-clause-read : goal.returns-else-room-eq0-clause-read
returns-else-room-eq0-clause-read c =
    rw c.in-Some.ensures.cases.0 (inside-front c.args.notation.now c.args.room c.in-Some.byte.now c.in-Some.after.now
    c.inside.result c.if-room-eq0.false c.if-byte-ne40.false c.inside.ensures.read)

pub returns-then-byte-eq39-clause-shorter : goal.returns-then-byte-eq39-clause-shorter
returns-then-byte-eq39-clause-shorter c =
    type-leaf (length c.args.text.now) (mapped TyVar (variable_at c.in-Some.after.now)) c.variable_front.result
    c.variable_front.ensures

pub returns-then-byte-ne40-clause-shorter : goal.returns-then-byte-ne40-clause-shorter
returns-then-byte-ne40-clause-shorter c =
    type-leaf (length c.args.text.now) (mapped (λ n. TyOp n NoTys) (operator_at c.args.notation.now c.args.text.now))
    c.operator_front.result c.operator_front.ensures

pub returns-else-room-eq0-clause-shorter : goal.returns-else-room-eq0-clause-shorter
returns-else-room-eq0-clause-shorter c = rw c.in-Some.ensures.cases.0 c.inside.ensures.shorter
