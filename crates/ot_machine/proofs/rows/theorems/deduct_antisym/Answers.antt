use Rattle.std.proofs.Common.{refl}
use Rattle.ot_logic.specs.declared.command.Cmd.TheVariants as words
use Rattle.ot_machine.proofs.Kept.{leaves}
use Rattle.ot_machine.proofs.RuleRows.{gives-inside, by-rule}
use Rattle.ot_machine.proofs.rows.theorems.deduct_antisym.Goals as goal
use Rattle.ot_logic.proofs.Results.{bind-to}

pub conclude_two-requires-clause-of : goal.conclude_two-requires-clause-of
conclude_two-requires-clause-of c =
    (leaves _ _ _ c.requires c.deduct_antisym-answer.ensures.keeps c.deduct_antisym-answer.ensures.same).machine.of

pub conclude_two-requires-clause-inside : goal.conclude_two-requires-clause-inside
conclude_two-requires-clause-inside c =
    gives-inside c.deduct_antisym-answer.result _ _ _ c.deduct_antisym-answer.ensures.concludes

pub returns : goal.returns
returns c =
    by-rule _ _ _ _ _ words.DeductAntisym _ c.deduct_antisym-answer.result _
    (leaves _ _ _ c.requires c.deduct_antisym-answer.ensures.keeps c.deduct_antisym-answer.ensures.same)
    c.deduct_antisym-answer.ensures.concludes
    (bind-to _ _ _ _ c.in_ok-top.ensures.found (bind-to _ _ _ _ c.in_ok-lower.ensures.found refl))
    (c.conclude_two.ensures _)
