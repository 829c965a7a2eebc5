use Rattle.std.proofs.Common.{Some, ap, ◌∙◌}
use Rattle.std.proofs.lemmas.Result.{IfOk-weaker}
use Rattle.ot_logic.proofs.TableLemmas.{Extends-trans}
use Rattle.ot_log_nodes.specs.Items.{TermItem}
use Rattle.ot_log_nodes.proofs.ItemLemmas.{has-type}
use Rattle.ot_log_nodes.proofs.ShapeLemmas.{has-equals}
use Rattle.ot_log_page.proofs.Adding.{equals-tree}
use Rattle.ot_log_page.proofs.expand.equals_at.Goals as goal

pub constant-requires-clause-name : goal.constant-requires-clause-name
constant-requires-clause-name c = has-equals c.fun-2.new.self
    (Extends-trans c.primitives.ensures.first
    (Extends-trans (Extends-trans c.in_ok-boolean.ensures.extends c.in_ok-predicate.ensures.extends)
    c.in_ok-relation.ensures.extends))

pub constant-requires-clause-ty : goal.constant-requires-clause-ty
constant-requires-clause-ty c = has-type c.fun-2.new.self c.in_ok-relation.relation _ c.in_ok-relation.ensures.ok

pub returns-clause-ok : goal.returns-clause-ok
returns-clause-ok c =
    let kn = Extends-trans (Extends-trans c.in_ok-boolean.ensures.extends c.in_ok-predicate.ensures.extends)
    c.in_ok-relation.ensures.extends in
    let tree =
    equals-tree c.args.nodes.now c.boolean.new.self c.fun.new.self c.fun-2.new.self c.args.ty c.in_ok-boolean.boolean
    c.in_ok-predicate.predicate c.in_ok-relation.relation
    c.in_ok-boolean.ensures.extends c.in_ok-predicate.ensures.extends c.in_ok-relation.ensures.extends
    (Extends-trans c.primitives.ensures.first kn) c.requires
    c.in_ok-boolean.ensures.ok c.in_ok-predicate.ensures.ok c.in_ok-relation.ensures.ok in
    IfOk-weaker c.constant.result _ _ (λ r h. h ∙ ap (λ t. Some (TermItem t)) tree) c.constant.ensures.ok
