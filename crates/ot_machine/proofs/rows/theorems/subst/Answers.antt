use Rattle.std.proofs.Common.{refl}
use Rattle.ot_logic.specs.declared.command.Cmd.TheVariants as words
use Rattle.ot_machine.proofs.Kept.{leaves}
use Rattle.ot_machine.proofs.RuleRows.{gives-inside, by-rule}
use Rattle.ot_machine.proofs.rows.theorems.subst.Goals as goal
use Rattle.ot_logic.proofs.Results.{bind-to}

pub conclude_two-requires-clause-of : goal.conclude_two-requires-clause-of
conclude_two-requires-clause-of c =
    (leaves _ _ _ c.requires c.subst-answer.ensures.keeps c.subst-answer.ensures.same).machine.of

pub conclude_two-requires-clause-inside : goal.conclude_two-requires-clause-inside
conclude_two-requires-clause-inside c = gives-inside c.subst-answer.result _ _ _ c.subst-answer.ensures.concludes

pub returns : goal.returns
returns c =
    by-rule _ _ _ _ _ words.Subst _ c.subst-answer.result _
    (leaves _ _ _ c.requires c.subst-answer.ensures.keeps c.subst-answer.ensures.same)
    c.subst-answer.ensures.concludes
    (bind-to _ _ _ _ c.in_ok-premise.ensures.found
    (bind-to _ _ _ _ c.in_ok-list.ensures.found (bind-to _ _ _ _ c.in_ok-maps.ensures.read refl)))
    (c.conclude_two.ensures _)
