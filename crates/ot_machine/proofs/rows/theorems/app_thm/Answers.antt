use Rattle.std.proofs.Common.{refl}
use Rattle.ot_logic.specs.declared.command.Cmd.TheVariants as words
use Rattle.ot_machine.proofs.Kept.{leaves}
use Rattle.ot_machine.proofs.RuleRows.{gives-inside, by-rule}
use Rattle.ot_machine.proofs.rows.theorems.app_thm.Goals as goal
use Rattle.ot_logic.proofs.Results.{bind-to}

pub conclude_two-requires-clause-of : goal.conclude_two-requires-clause-of
conclude_two-requires-clause-of c =
    (leaves _ _ _ c.requires c.app_thm-answer.ensures.keeps c.app_thm-answer.ensures.same).machine.of

pub conclude_two-requires-clause-inside : goal.conclude_two-requires-clause-inside
conclude_two-requires-clause-inside c = gives-inside c.app_thm-answer.result _ _ _ c.app_thm-answer.ensures.concludes

pub returns : goal.returns
returns c =
    by-rule _ _ _ _ _ words.AppThm _ c.app_thm-answer.result _
    (leaves _ _ _ c.requires c.app_thm-answer.ensures.keeps c.app_thm-answer.ensures.same)
    c.app_thm-answer.ensures.concludes
    (bind-to _ _ _ _ c.in_ok-top.ensures.found (bind-to _ _ _ _ c.in_ok-lower.ensures.found refl))
    (c.conclude_two.ensures _)
