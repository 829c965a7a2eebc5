use Rattle.std.specs.List.{All}
use Rattle.std.proofs.Common.{subst, sym, ap, map, ◌∙◌, arith}
use Rattle.std.proofs.lemmas.List.{take_all}
use Rattle.std.proofs.lemmas.List.Elements.{All-push}
use Rattle.ot_logic.proofs.TableLemmas.{Extends-trans}
use Rattle.ot_log_nodes.specs.Items.{HasTerm}
use Rattle.ot_log_nodes.specs.Changing.{changed, changing}
use Rattle.ot_log_nodes.proofs.ItemLemmas.{has-term, still-term}
use Rattle.ot_log_rules.specs.Statements.{terms_at}
use Rattle.ot_log_rules.proofs.Growing.{changed-next}
use Rattle.ot_log_rules.proofs.Staying.{still-terms}
use Rattle.ot_log_rules.proofs.put.change_each.Goals as goal

pub change-requires-clause-id : goal.change-requires-clause-id
change-requires-clause-id c = still-term c.args.nodes.now c.loop-id.nodes c.loop-id.invariant.extends c.id-item.result
    (subst (HasTerm c.args.nodes.now) (sym c.id-item.is)
    (c.requires.ids c.loop-id.id-index c.id-item.result c.loop-id-test.true))

pub loop-id-preserved : goal.loop-id-preserved
loop-id-preserved c =
    let ts = c.args.nodes.now in
    let us = c.loop-id.nodes in
    let vs = c.change.new.self in
    let e = c.loop-id.invariant.extends in
    let f = c.in_ok-changed.ensures.extends in
    let here = subst (HasTerm ts) (sym c.id-item.is)
    (c.requires.ids c.loop-id.id-index c.id-item.result c.loop-id-test.true) in
    record {
      extends = Extends-trans e f;
      change = c.in_ok-changed.ensures.change;
      done = c.in_ok-changed.ensures.done;
      has = subst (All (HasTerm vs)) (sym c.in_ok-push.ensures.items)
          (All-push (HasTerm vs) c.loop-id.all.items c.in_ok-changed.changed
          (still-terms us vs f c.loop-id.all.items c.loop-id.invariant.has)
          (has-term vs c.in_ok-changed.changed _ c.in_ok-changed.ensures.ok));
      all = changed-next ts us vs e f c.args.change.now c.requires.change c.args.ids.now c.loop-id.id-index
          c.id-item.result c.in_ok-changed.changed c.loop-id.all.items c.push.new.self.items c.loop-id-test.true
          c.id-item.is here c.loop-id.invariant.has c.loop-id.invariant.all c.in_ok-changed.ensures.ok
          c.in_ok-push.ensures.items;
    }

pub returns-clause-ok : goal.returns-clause-ok
returns-clause-ok c =
    let ts = c.args.nodes.now in
    c.loop-id.invariant.all ∙ ap (λ l. map (changed (changing ts c.args.change.now) 0) (terms_at ts l))
    (take_all c.loop-id.id-index c.args.ids.now (omega arith))
