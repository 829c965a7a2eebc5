use Rattle.std.proofs.Common.{subst, sym, ap, ◌∙◌}
use Rattle.ot_logic.specs.Naming.{names}
use Rattle.ot_logic.specs.Trees.{Free}
use Rattle.ot_logic.specs.Hol.{same_tm}
use Rattle.ot_log_nodes.specs.Table.{term_tree, HasTermParts}
use Rattle.ot_log_nodes.specs.Changing.{variable_at}
use Rattle.ot_log_nodes.proofs.MapLemmas.{same-variables}
use Rattle.ot_log_rules.proofs.conditions.is_variable.Goals as goal

pub returns-in-Free : goal.returns-in-Free
returns-in-Free c =
    let ts = c.args.nodes.now in
    let parts = subst (HasTermParts ts) c.in-Free.is c.term_node.ensures.parts in
    let tree = c.term_node.ensures.tree ∙ ap (term_tree ts) c.in-Free.is in
    c.eq.ensures
    ∙ sym (same-variables ts c.term_node.ensures.once c.in-Free.other c.args.variable.now parts
    c.requires.variable) ∙ sym (ap (λ t. same_tm names t (Free (variable_at ts c.args.variable.now))) tree)
