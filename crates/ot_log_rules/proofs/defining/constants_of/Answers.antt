use Rattle.std.specs.List.{All}
use Rattle.std.proofs.Common.{ℕ, subst, sym}
use Rattle.std.proofs.lemmas.List.Elements.{All-push}
use Rattle.ot_logic.proofs.TableLemmas.{Extends-trans}
use Rattle.ot_log_nodes.specs.Items.{HasName, HasTerm}
use Rattle.ot_log_nodes.specs.Changing.{HasVariable}
use Rattle.ot_log_nodes.specs.declared.node.VariableNode.{VariableNode}
use Rattle.ot_log_nodes.proofs.ItemLemmas.{has-term, still-name, still-type}
use Rattle.ot_log_nodes.proofs.MapLemmas.{still-variable, still-terms_of}
use Rattle.ot_log_rules.proofs.Growing.{constants-next}
use Rattle.ot_log_rules.proofs.defining.constants_of.Goals as goal

pub constant-requires-clause-name : goal.constant-requires-clause-name
constant-requires-clause-name c =
    let here = subst (λ (p : ℕ × VariableNode). HasName c.args.nodes.now p.0 × HasVariable c.args.nodes.now p.1)
    (sym c.pair-item.is) (c.requires c.loop-pair.pair-index c.pair-item.result c.loop-pair-test.true) in
    still-name c.args.nodes.now c.loop-pair.nodes c.loop-pair.invariant.extends c.pair-item.result.0 here.0

pub constant-requires-clause-ty : goal.constant-requires-clause-ty
constant-requires-clause-ty c =
    let here = subst (λ (p : ℕ × VariableNode). HasName c.args.nodes.now p.0 × HasVariable c.args.nodes.now p.1)
    (sym c.pair-item.is) (c.requires c.loop-pair.pair-index c.pair-item.result c.loop-pair-test.true) in
    still-type c.args.nodes.now c.loop-pair.nodes c.loop-pair.invariant.extends c.pair-item.result.1.ty here.1.1

pub loop-pair-preserved : goal.loop-pair-preserved
loop-pair-preserved c =
    let ts = c.args.nodes.now in
    let us = c.loop-pair.nodes in
    let vs = c.constant.new.self in
    let e = c.loop-pair.invariant.extends in
    let f = c.in_ok-constant.ensures.extends in
    let here = subst (λ (p : ℕ × VariableNode). HasName ts p.0 × HasVariable ts p.1) (sym c.pair-item.is)
    (c.requires c.loop-pair.pair-index c.pair-item.result c.loop-pair-test.true) in
    let P : VariableNode × ℕ → Type 0 = λ p. HasVariable vs p.0 × HasTerm vs p.1 in
    record {
      extends = Extends-trans e f;
      has = subst (All P) (sym c.in_ok-push.ensures.items)
          (All-push P c.loop-pair.terms.items (c.pair-item.result.1, c.in_ok-constant.constant)
          (still-terms_of us vs f c.loop-pair.terms.items c.loop-pair.invariant.has) (
            still-variable ts vs (Extends-trans e f) c.pair-item.result.1 here.1,
            has-term vs c.in_ok-constant.constant
                _ c.in_ok-constant.ensures.ok,
          ));
      terms = constants-next ts us vs e f c.args.pairs.now c.loop-pair.pair-index c.pair-item.result
          c.in_ok-constant.constant c.loop-pair.terms.items c.push.new.self.items c.loop-pair-test.true c.pair-item.is
          here.0 here.1 c.loop-pair.invariant.has c.loop-pair.invariant.terms c.in_ok-constant.ensures.ok
          c.in_ok-push.ensures.items;
    }
