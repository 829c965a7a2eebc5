use Rattle.std.proofs.Common.{◌≡◌, length, arith, subst}
use Rattle.ot_logic.specs.declared.command.Cmd.TheVariants as words
use Rattle.ot_trace.specs.Origins.{Define}
use Rattle.ot_log_values.specs.Steps.{origins_of}
use Rattle.ot_log.specs.Keeping.{IsDefinable}
use Rattle.ot_log.specs.Ready.{HavePlaces}
use Rattle.ot_log.proofs.Accepted.{defining-word}
use Rattle.ot_log.proofs.Outcomes.{five-are}
use Rattle.ot_log.proofs.writer.Writer.put_definition.Goals as goal

pub put_type_operator-requires-clause-definable : goal.put_type_operator-requires-clause-definable
put_type_operator-requires-clause-definable c =
    let s = c.args.session.now in
    let n : length c.args.operands.now ≡ 5 = omega (arith, c.in-len5.len_at_least, c.in-len5.len_below) in
    let are = five-are c.args.operands.now _ _ _ _ _ n c.n-item-then-operands-lt6.is c.abs-item.is c.rep-item.is
    c.list-item-then-operands-lt6.is c.a-item-then-operands-lt6.is in
    subst (λ l. IsDefinable (Define words.DefineTypeOp (origins_of s l))) are
    (subst (λ w. IsDefinable (Define w (origins_of s c.args.operands.now))) c.in-DefineTypeOp.is c.requires.definable)

pub unreachable-requires-in_default : goal.unreachable-requires-in_default
unreachable-requires-in_default c =
    defining-word c.args.session.now c.args.word c.args.operands.now c.requires.definable
    c.in_default.not-DefineConst c.in_default.not-DefineConstList c.in_default.not-DefineTypeOp

pub put_type_operator-requires-clause-there : goal.put_type_operator-requires-clause-there
put_type_operator-requires-clause-there c =
    let s = c.args.session.now in
    let n : length c.args.operands.now ≡ 5 = omega (arith, c.in-len5.len_at_least, c.in-len5.len_below) in
    let are = five-are c.args.operands.now _ _ _ _ _ n c.n-item-then-operands-lt6.is c.abs-item.is c.rep-item.is
    c.list-item-then-operands-lt6.is c.a-item-then-operands-lt6.is in
    subst (HavePlaces s c.args.self.now.places.items) are c.requires.there
