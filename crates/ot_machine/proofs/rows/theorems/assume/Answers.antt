use Rattle.std.proofs.Common.{refl}
use Rattle.ot_logic.specs.declared.command.Cmd.TheVariants as words
use Rattle.ot_machine.proofs.Kept.{leaves}
use Rattle.ot_machine.proofs.RuleRows.{gives-inside, by-rule}
use Rattle.ot_machine.proofs.rows.theorems.assume.Goals as goal
use Rattle.ot_logic.proofs.Results.{bind-to}

pub conclude_one-requires-clause-of : goal.conclude_one-requires-clause-of
conclude_one-requires-clause-of c =
    (leaves _ _ _ c.requires c.assume-answer.ensures.keeps c.assume-answer.ensures.same).machine.of

pub conclude_one-requires-clause-inside : goal.conclude_one-requires-clause-inside
conclude_one-requires-clause-inside c = gives-inside c.assume-answer.result _ _ _ c.assume-answer.ensures.concludes

pub returns : goal.returns
returns c =
    by-rule _ _ _ _ _ words.Assume _ c.assume-answer.result _
    (leaves _ _ _ c.requires c.assume-answer.ensures.keeps c.assume-answer.ensures.same)
    c.assume-answer.ensures.concludes
    (bind-to _ _ _ _ c.in_ok-term.ensures.found refl) (c.conclude_one.ensures _)
