use Rattle.std.proofs.Common.{ap, ◌∙◌, ◌++◌, sym, subst, ◌<◌, length}
use Rattle.ot_logic.specs.Names.{spelled}
use Rattle.ot_log_nodes.specs.Items.{name_at}
use Rattle.ot_text.specs.Texts.{name_text}
use Rattle.ot_log_text.proofs.Pieces.{spelled-name}
use Rattle.ot_log_order.proofs.Pushing.{on-ok, opens-as}
use Rattle.ot_log_order.proofs.Parts.{some-name}
use Rattle.ot_log_order.proofs.pieces.push_name.Goals as goal

pub returns : goal.returns
returns c =
    let ts = c.args.nodes.now in
    let name = c.name_of-name.result.now in
    let components = c.components-components in
    let spelled-is = spelled-name name components.result.now components.ensures.value components.ensures.some
    ∙ ap name_text c.name_of-name.ensures in
    let text = c.as_slice.ensures.value
    ∙ c.in_ok-spell.ensures.ok
    ∙ ap (λ z. z ++ spelled name) c.new-text.ensures.items
    ∙ spelled-is in
    on-ok c.push_bytes.result (opens-as text)
    (c.push_bytes.ensures.opens ts (subst (λ x. 0 < length x) (sym text) (some-name (name_at ts c.args.name))))
