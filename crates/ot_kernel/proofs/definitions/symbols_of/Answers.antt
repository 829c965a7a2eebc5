use Rattle.std.proofs.Common.{◌++◌, ap, ◌∙◌}
use Rattle.ot_kernel.proofs.Occurring.{symbols-more}
use Rattle.ot_kernel.proofs.definitions.symbols_of.Goals as goal

pub loop-id-preserved : goal.loop-id-preserved
loop-id-preserved c =
    symbols-more c.args.terms.now.terms c.args.ids.now c.loop-id.id-index c.id-item.result c.loop-id.symbols.items
    c.in_ok-more.more.items c.extend_from_slice.new.self.items c.loop-id-test.true c.id-item.is
    c.loop-id.invariant c.in_ok-more.ensures.symbols
    (c.in_ok-extend_from_slice.ensures.items ∙ ap (λ l. c.loop-id.symbols.items ++ l) c.as_slice.ensures.value)
