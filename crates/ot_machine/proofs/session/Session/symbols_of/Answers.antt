use Rattle.std.proofs.Common.{◌<◌, ap, ◌∙◌, length, arith}
use Rattle.ot_trace.specs.Origins.{operand, constant_origin}
use Rattle.ot_trace.specs.Trace.{origin_at}
use Rattle.ot_machine.proofs.Traced.{traces-on, number-later}
use Rattle.ot_machine.proofs.RenamedLists.{numbers-later, item-inside, one-more, more-inside}
use Rattle.ot_machine.proofs.session.Session.symbols_of.Goals as goal

pub operand-name-requires : goal.operand-name-requires
operand-name-requires c =
    let here = item-inside (λ i. i < length c.args.self.now.trace) c.args.pairs.now c.loop-pair.pair-index
    c.pair-item.result c.requires.inside c.loop-pair-test.true c.pair-item.is in
    omega (arith, here, c.loop-pair.invariant.kept.grown.longer)

pub loop-pair-preserved : goal.loop-pair-preserved
loop-pair-preserved c =
    let s = c.args.self.now in
    let t = c.loop-pair.self in
    let u = c.made_of.new.self in
    let before = c.loop-pair.invariant.kept in
    let one = c.in_ok-symbol.ensures.kept in
    let symbols = c.loop-pair.symbols.items in
    let pair = c.pair-item.result in
    let here = item-inside (λ i. i < length s.trace) c.args.pairs.now c.loop-pair.pair-index pair c.requires.inside
    c.loop-pair-test.true c.pair-item.is in
    let name = c.operand-name.ensures.operand ∙ ap (operand 0) (number-later s t before pair here) in
    record {
      kept = traces-on s t u before one;
      inside = more-inside (length t.trace) (length u.trace) symbols _ c.in_ok-symbol.symbol one.grown.longer
          c.loop-pair.invariant.inside c.in_ok-symbol.ensures.inside c.in_ok-push.ensures.items;
      made =
          one-more (origin_at u.trace) (λ i. constant_origin (operand 0 (origin_at s.trace i))) symbols _
          c.in_ok-symbol.symbol c.args.pairs.now c.loop-pair.pair-index pair c.loop-pair-test.true c.pair-item.is
          c.in_ok-push.ensures.items
          (numbers-later t u before.is_run one symbols c.loop-pair.invariant.inside ∙ c.loop-pair.invariant.made)
          (c.in_ok-symbol.ensures.number ∙ ap constant_origin name);
    }
