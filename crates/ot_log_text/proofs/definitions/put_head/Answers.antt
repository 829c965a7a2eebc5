use Rattle.std.proofs.Common.{sym, ap, ◌∙◌}
use Rattle.ot_log_nodes.specs.Items.{name_at}
use Rattle.ot_log_rules.specs.Statements.{sequent_at}
use Rattle.ot_log_rules.specs.Definitions.{definition_at, names_at}
use Rattle.ot_text.specs.Sections.{head_text}
use Rattle.ot_text.proofs.Putting.{then, same-text}
use Rattle.ot_text.proofs.Separating.{type-pieces}
use Rattle.ot_log_text.proofs.definitions.put_head.Goals as goal

pub returns-in-TypeOperator : goal.returns-in-TypeOperator
returns-in-TypeOperator c =
    let ts = c.args.nodes.now in
    let d = c.in-TypeOperator in
    same-text (type-pieces (name_at ts d.name) (name_at ts d.abs) (name_at ts d.rep) (names_at ts d.vars.items)
    (sequent_at ts d.premise) ∙ ap (λ t. head_text (definition_at ts t)) (sym d.is))
    (then (then
    (then (then (then
    (then (then (then c.put-in-TypeOperator.ensures c.put_name-in-TypeOperator.ensures)
    c.put-in-TypeOperator-2.ensures) (rw c.as_slice-in-TypeOperator.ensures.value at c.put_names.ensures))
    c.put-in-TypeOperator-3.ensures) c.put_name-in-TypeOperator-2.ensures) c.put-in-TypeOperator-4.ensures)
    c.put_name-in-TypeOperator-3.ensures) c.put_premise-in-TypeOperator.ensures)
