use Rattle.std.proofs.Common.{subst, arith}
use Rattle.std.proofs.lemmas.List.{take_all}
use Rattle.ot_pretty.specs.Found.{FindsSymbols, type_symbols}
use Rattle.ot_pretty.proofs.Finding.{finds-nothing, types-step}
use Rattle.ot_pretty.proofs.search.Search.add_types.Goals as goal

pub loop-id-init : goal.loop-id-init
loop-id-init c = λ s n m h. finds-nothing s n m c.args.self.now

pub loop-id-preserved : goal.loop-id-preserved
loop-id-preserved c =
    types-step c.args.self.now c.loop-id.self c.add_type.new.self c.args.ids.now c.loop-id.id-index c.id-item.result
    c.loop-id-test.true c.id-item.is c.loop-id.invariant c.in_ok-add_type.ensures

pub returns : goal.returns
returns c = λ s n m h. subst (λ is. FindsSymbols s n m c.args.self.now c.loop-id.self (type_symbols s is))
    (take_all c.loop-id.id-index c.args.ids.now (omega arith)) (c.loop-id.invariant s n m h)
