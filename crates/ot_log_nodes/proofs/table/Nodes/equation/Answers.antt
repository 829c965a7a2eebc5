use Rattle.std.proofs.Common.{Some, ap, ◌∙◌}
use Rattle.std.proofs.lemmas.Result.{IfOk-weaker}
use Rattle.ot_logic.proofs.TableLemmas.{Extends-trans}
use Rattle.ot_log_nodes.specs.Items.{TermItem}
use Rattle.ot_log_nodes.proofs.ItemLemmas.{has-type, has-term, still-type, still-term}
use Rattle.ot_log_nodes.proofs.ShapeLemmas.{has-equals, equation-tree}
use Rattle.ot_log_nodes.proofs.table.Nodes.equation.Goals as goal

pub fun-requires-clause-from : goal.fun-requires-clause-from
fun-requires-clause-from c = still-type c.args.self.now c.boolean.new.self c.in_ok-boolean.ensures.extends c.args.ty
    c.requires.ty

pub fun-requires-clause-to : goal.fun-requires-clause-to
fun-requires-clause-to c = has-type c.boolean.new.self c.in_ok-boolean.boolean _ c.in_ok-boolean.ensures.ok

pub fun-requires-2-clause-from : goal.fun-requires-2-clause-from
fun-requires-2-clause-from c = still-type c.args.self.now c.fun.new.self
    (Extends-trans c.in_ok-boolean.ensures.extends c.in_ok-predicate.ensures.extends) c.args.ty c.requires.ty

pub fun-requires-2-clause-to : goal.fun-requires-2-clause-to
fun-requires-2-clause-to c = has-type c.fun.new.self c.in_ok-predicate.predicate _ c.in_ok-predicate.ensures.ok

pub constant-requires-clause-name : goal.constant-requires-clause-name
constant-requires-clause-name c =
    has-equals c.fun-2.new.self
    (Extends-trans c.primitives.ensures.first
    (Extends-trans (Extends-trans c.in_ok-boolean.ensures.extends c.in_ok-predicate.ensures.extends)
    c.in_ok-relation.ensures.extends))

pub constant-requires-clause-ty : goal.constant-requires-clause-ty
constant-requires-clause-ty c = has-type c.fun-2.new.self c.in_ok-relation.relation _ c.in_ok-relation.ensures.ok

pub app-requires-clause-f : goal.app-requires-clause-f
app-requires-clause-f c = has-term c.constant.new.self c.in_ok-equals.equals _ c.in_ok-equals.ensures.ok

pub app-requires-clause-x : goal.app-requires-clause-x
app-requires-clause-x c =
    still-term c.args.self.now c.constant.new.self
    (Extends-trans
    (Extends-trans (Extends-trans c.in_ok-boolean.ensures.extends c.in_ok-predicate.ensures.extends)
    c.in_ok-relation.ensures.extends) c.in_ok-equals.ensures.extends) c.args.a c.requires.a

pub app-requires-2-clause-f : goal.app-requires-2-clause-f
app-requires-2-clause-f c = has-term c.app.new.self c.in_ok-half.half _ c.in_ok-half.ensures.ok

pub app-requires-2-clause-x : goal.app-requires-2-clause-x
app-requires-2-clause-x c =
    still-term c.args.self.now c.app.new.self
    (Extends-trans
    (Extends-trans
    (Extends-trans (Extends-trans c.in_ok-boolean.ensures.extends c.in_ok-predicate.ensures.extends)
    c.in_ok-relation.ensures.extends) c.in_ok-equals.ensures.extends) c.in_ok-half.ensures.extends) c.args.b
    c.requires.b

pub returns-clause-ok : goal.returns-clause-ok
returns-clause-ok c =
    let kn = Extends-trans (Extends-trans c.in_ok-boolean.ensures.extends c.in_ok-predicate.ensures.extends)
    c.in_ok-relation.ensures.extends in
    let tree =
    equation-tree c.args.self.now c.boolean.new.self c.fun.new.self c.fun-2.new.self c.constant.new.self
    c.app.new.self c.in_ok-boolean.ensures.extends c.in_ok-predicate.ensures.extends
    c.in_ok-relation.ensures.extends c.in_ok-equals.ensures.extends c.in_ok-half.ensures.extends
    c.args.ty c.args.a c.args.b c.in_ok-boolean.boolean c.in_ok-predicate.predicate c.in_ok-relation.relation
    c.in_ok-equals.equals c.in_ok-half.half (Extends-trans c.primitives.ensures.first kn) c.requires.ty
    c.requires.a c.requires.b
    c.in_ok-boolean.ensures.ok c.in_ok-predicate.ensures.ok c.in_ok-relation.ensures.ok c.in_ok-equals.ensures.ok
    c.in_ok-half.ensures.ok in
    IfOk-weaker c.app-2.result _ _ (λ r h. h ∙ ap (λ t. Some (TermItem t)) tree) c.app-2.ensures.ok

pub returns-clause-extends : goal.returns-clause-extends
returns-clause-extends c =
    let kn = Extends-trans (Extends-trans c.in_ok-boolean.ensures.extends c.in_ok-predicate.ensures.extends)
    c.in_ok-relation.ensures.extends in
    Extends-trans (Extends-trans (Extends-trans kn c.in_ok-equals.ensures.extends) c.in_ok-half.ensures.extends)
    c.app-2.ensures.extends
