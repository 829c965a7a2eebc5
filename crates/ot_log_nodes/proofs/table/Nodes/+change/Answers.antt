use Rattle.std.proofs.Common.{◌∙◌, Some, sym, ap, subst}
use Rattle.std.proofs.lemmas.Result.{IfOk-weaker}
use Rattle.ot_log_nodes.specs.Items.{TermItem, IsTerm, term_at}
use Rattle.ot_log_nodes.specs.Changing.{changed, changing}
use Rattle.ot_log_nodes.specs.Table.{term_tree, HasTermParts}
use Rattle.ot_log_nodes.proofs.ItemLemmas.{has-type, has-term, term-stays, still-term}
use Rattle.ot_log_nodes.proofs.MapLemmas.{still-change, changing-stays, changed-insert, done-now}
use Rattle.ot_log_nodes.proofs.ChangeLemmas.{changed-application, changed-abstraction, changed-constant, changed-place}
use Rattle.ot_log_nodes.proofs.table.Nodes.+change.Goals as goal
use Rattle.ot_logic.proofs.Results.{on_ok}

pub change_at-returns-in-Some-clause-ok : goal.change_at-returns-in-Some-clause-ok
change_at-returns-in-Some-clause-ok t c =
    (c.requires.done.terms.known (record { depth = c.args.depth; id = c.args.id }) c.in-Some.known.now
    (sym c.in-Some.ensures.value)).1

pub change_at-returns-clause-done : goal.change_at-returns-clause-done
change_at-returns-clause-done t c =
    let ts = c.args.self.now in
    let us = c.change_node.new.self in
    let w = changing us c.args.change.now in
    let e = c.in_ok-changed.ensures.extends in
    let h = c.in_ok-changed.ensures.done in
    let same = changing-stays ts us e c.args.change.now c.requires.change in
    let here = term-stays ts us e c.args.id c.requires.id in
    let is : IsTerm us c.in_ok-changed.changed (changed w c.args.depth (term_at us c.args.id)) =
    c.in_ok-changed.ensures.ok ∙ (λ i. Some (TermItem (changed (sym same i) c.args.depth (sym here i)))) in
    record {
      types = h.types;
      terms =
          changed-insert us w c.change_node.new.done.terms.entries c.insert.new.self.entries
          (record { depth = c.kept_at-at.result; id = c.args.id }) c.in_ok-changed.changed h.terms
          (still-term ts us e c.args.id c.requires.id) (c.kept_at-at.ensures us is) c.in_ok-insert.ensures.updates.0;
    }

pub change_node-app-requires-clause-f : goal.change_node-app-requires-clause-f
change_node-app-requires-clause-f t c = has-term c.change_at-in-App.new.self c.in_ok-f-in-App.f _
    (c.in_ok-x-in-App.ensures.extends.keeps c.in_ok-f-in-App.f _ c.in_ok-f-in-App.ensures.ok)

pub change_node-app-requires-clause-x : goal.change_node-app-requires-clause-x
change_node-app-requires-clause-x t c =
    has-term c.change_at-in-App.new.self c.in_ok-x-in-App.x _ c.in_ok-x-in-App.ensures.ok

pub change_node-abs-requires-clause-ty : goal.change_node-abs-requires-clause-ty
change_node-abs-requires-clause-ty t c = has-type c.change_at-in-Abs.new.self c.in_ok-ty-in-Abs.ty _
    (c.in_ok-body-in-Abs.ensures.extends.keeps c.in_ok-ty-in-Abs.ty _ c.in_ok-ty-in-Abs.ensures.ok)

pub change_node-abs-requires-clause-body : goal.change_node-abs-requires-clause-body
change_node-abs-requires-clause-body t c =
    has-term c.change_at-in-Abs.new.self c.in_ok-body-in-Abs.body _ c.in_ok-body-in-Abs.ensures.ok

pub change_node-returns-in_ok-ty-in-Const-clause-ok : goal.change_node-returns-in_ok-ty-in-Const-clause-ok
change_node-returns-in_ok-ty-in-Const-clause-ok t c =
    let ts = c.args.self.now in
    let us = c.retype.new.self in
    let tree = c.term_node.ensures.tree ∙ ap (term_tree ts) c.in-Const.is in
    let parts = subst (HasTermParts ts) c.in-Const.is c.term_node.ensures.parts in
    let made = changed-constant ts us us c.args.change.now c.requires.change c.args.depth c.args.id c.in-Const.name
    c.in-Const.ty c.in_ok-ty-in-Const.ty tree parts.0 c.in_ok-ty-in-Const.ensures.extends
    c.in_ok-ty-in-Const.ensures.ok in
    IfOk-weaker c.constant.result _ _ (λ r h. h ∙ ap (λ u. Some (TermItem u)) made) c.constant.ensures.ok

pub change_node-returns-in_ok-ty-in-Const-clause-done : goal.change_node-returns-in_ok-ty-in-Const-clause-done
change_node-returns-in_ok-ty-in-Const-clause-done t c =
    on_ok c.constant.result (done-now c.retype.new.self c.constant.new.self c.constant.ensures.extends
    c.args.change.now c.retype.new.done c.in_ok-ty-in-Const.ensures.change c.in_ok-ty-in-Const.ensures.done)

pub change_node-returns-in_ok-ty-in-Const-clause-change : goal.change_node-returns-in_ok-ty-in-Const-clause-change
change_node-returns-in_ok-ty-in-Const-clause-change t c =
    on_ok c.constant.result (still-change c.retype.new.self c.constant.new.self c.constant.ensures.extends
    c.args.change.now c.in_ok-ty-in-Const.ensures.change)

pub change_node-returns-in-Bound-clause-ok : goal.change_node-returns-in-Bound-clause-ok
change_node-returns-in-Bound-clause-ok t c =
    let ts = c.args.self.now in
    subst (λ i. IsTerm ts i (changed (changing ts c.args.change.now) c.args.depth (term_at ts c.args.id)))
    (sym c.opened.ensures)
    (changed-place ts c.args.change.now c.args.depth c.in-Bound.place c.args.id c.requires.change c.requires.id
    (c.term_node.ensures.tree ∙ ap (term_tree ts) c.in-Bound.is))

pub change_node-returns-in_ok-x-in-App-clause-ok : goal.change_node-returns-in_ok-x-in-App-clause-ok
change_node-returns-in_ok-x-in-App-clause-ok t c =
    let ts = c.args.self.now in
    let tree = c.term_node.ensures.tree ∙ ap (term_tree ts) c.in-App.is in
    let parts = subst (HasTermParts ts) c.in-App.is c.term_node.ensures.parts in
    let made = changed-application ts c.change_at.new.self c.change_at-in-App.new.self c.args.change.now
    c.requires.change c.args.depth c.args.id c.in-App.f c.in-App.x c.in_ok-f-in-App.f c.in_ok-x-in-App.x
    tree parts.1 c.in_ok-f-in-App.ensures.extends c.in_ok-x-in-App.ensures.extends c.in_ok-f-in-App.ensures.ok
    c.in_ok-x-in-App.ensures.ok in
    IfOk-weaker c.app.result _ _ (λ r h. h ∙ ap (λ u. Some (TermItem u)) made) c.app.ensures.ok

pub change_node-returns-in_ok-x-in-App-clause-done : goal.change_node-returns-in_ok-x-in-App-clause-done
change_node-returns-in_ok-x-in-App-clause-done t c =
    on_ok c.app.result (done-now c.change_at-in-App.new.self c.app.new.self c.app.ensures.extends c.args.change.now
    c.change_at-in-App.new.done c.in_ok-x-in-App.ensures.change c.in_ok-x-in-App.ensures.done)

pub change_node-returns-in_ok-x-in-App-clause-change : goal.change_node-returns-in_ok-x-in-App-clause-change
change_node-returns-in_ok-x-in-App-clause-change t c =
    on_ok c.app.result (still-change c.change_at-in-App.new.self c.app.new.self c.app.ensures.extends
    c.args.change.now c.in_ok-x-in-App.ensures.change)

pub change_node-returns-in_ok-body-in-Abs-clause-ok : goal.change_node-returns-in_ok-body-in-Abs-clause-ok
change_node-returns-in_ok-body-in-Abs-clause-ok t c =
    let ts = c.args.self.now in
    let us = c.retype-in-Abs.new.self in
    let ws = c.change_at-in-Abs.new.self in
    let tree = c.term_node.ensures.tree ∙ ap (term_tree ts) c.in-Abs.is in
    let parts = subst (HasTermParts ts) c.in-Abs.is c.term_node.ensures.parts in
    let is = subst
    (λ k. IsTerm ws c.in_ok-body-in-Abs.body
    (changed (changing us c.args.change.now) k (term_at us c.in-Abs.body))) c.inner.ensures
    c.in_ok-body-in-Abs.ensures.ok in
    let made = changed-abstraction ts us ws c.args.change.now c.requires.change c.args.depth c.args.id c.in-Abs.ty
    c.in-Abs.body c.in_ok-ty-in-Abs.ty c.in_ok-body-in-Abs.body
    tree parts.1 c.in_ok-ty-in-Abs.ensures.extends c.in_ok-body-in-Abs.ensures.extends c.in_ok-ty-in-Abs.ensures.ok
    is in
    IfOk-weaker c.abs.result _ _ (λ r h. h ∙ ap (λ u. Some (TermItem u)) made) c.abs.ensures.ok

pub change_node-returns-in_ok-body-in-Abs-clause-done : goal.change_node-returns-in_ok-body-in-Abs-clause-done
change_node-returns-in_ok-body-in-Abs-clause-done t c =
    on_ok c.abs.result (done-now c.change_at-in-Abs.new.self c.abs.new.self c.abs.ensures.extends c.args.change.now
    c.change_at-in-Abs.new.done c.in_ok-body-in-Abs.ensures.change c.in_ok-body-in-Abs.ensures.done)

pub change_node-returns-in_ok-body-in-Abs-clause-change : goal.change_node-returns-in_ok-body-in-Abs-clause-change
change_node-returns-in_ok-body-in-Abs-clause-change t c =
    on_ok c.abs.result (still-change c.change_at-in-Abs.new.self c.abs.new.self c.abs.ensures.extends
    c.args.change.now c.in_ok-body-in-Abs.ensures.change)
