use Rattle.std.specs.List.{All}
use Rattle.std.proofs.Common.{subst, sym}
use Rattle.std.proofs.lemmas.List.Elements.{All-push}
use Rattle.ot_logic.proofs.TableLemmas.{Extends-trans}
use Rattle.ot_log_nodes.specs.Items.{HasName, HasType}
use Rattle.ot_log_nodes.proofs.ItemLemmas.{has-type, still-types}
use Rattle.ot_log_rules.proofs.Growing.{vars-next}
use Rattle.ot_log_rules.proofs.defining.type_vars.Goals as goal

pub loop-var-preserved : goal.loop-var-preserved
loop-var-preserved c =
    let ts = c.args.nodes.now in
    let us = c.loop-var.nodes in
    let vs = c.type_var.new.self in
    let f = c.in_ok-arg.ensures.extends in
    let here = subst (HasName ts) (sym c.var-item.is)
    (c.requires c.loop-var.var-index c.var-item.result c.loop-var-test.true) in
    record {
      extends = Extends-trans c.loop-var.invariant.extends f;
      has = subst (All (HasType vs)) (sym c.in_ok-push.ensures.items)
          (All-push (HasType vs) c.loop-var.args.items c.in_ok-arg.arg
          (still-types us vs f c.loop-var.args.items c.loop-var.invariant.has)
          (has-type vs c.in_ok-arg.arg _ c.in_ok-arg.ensures.ok));
      args = vars-next ts us vs c.loop-var.invariant.extends f c.args.vars.now c.loop-var.var-index c.var-item.result
          c.in_ok-arg.arg c.loop-var.args.items c.push.new.self.items c.loop-var-test.true c.var-item.is here
          c.loop-var.invariant.has c.loop-var.invariant.args c.in_ok-arg.ensures.ok c.in_ok-push.ensures.items;
    }
