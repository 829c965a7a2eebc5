use Rattle.std.proofs.Common.{sym, ◌∙◌}
use Rattle.ot_args.proofs.Counts.{low_first, parsed}
use Rattle.ot_args.proofs.count.count_of.Goals as goal

pub returns-then-not-begins_above_zero : goal.returns-then-not-begins_above_zero
returns-then-not-begins_above_zero c =
    sym (low_first c.args.word.now (sym c.begins_above_zero.ensures ∙ c.if-not-begins_above_zero.true))

pub returns-in-Ok : goal.returns-in-Ok
returns-in-Ok c =
    c.then_some.ensures
    ∙ parsed c.args.word.now c.parse.result _ c.in-Ok.is c.parse.ensures.value.0
    (sym c.if-not-begins_above_zero.false ∙ c.begins_above_zero.ensures)

pub returns-in-Err : goal.returns-in-Err
returns-in-Err c = parsed c.args.word.now c.parse.result _ c.in-Err.is c.parse.ensures.value.0
    (sym c.if-not-begins_above_zero.false ∙ c.begins_above_zero.ensures)
