use Rattle.std.proofs.Common.{◌∙◌, arith}
use Rattle.ot_logic.proofs.Copying.{copy-more}
use Rattle.ot_logic.proofs.name.Name.copy.Goals as goal

pub loop-component-preserved : goal.loop-component-preserved
loop-component-preserved c =
    copy-more (λ d. d.items) c.deref-component-items.result.now c.loop-component.components.items
    c.push.new.self.items c.loop-component.component-index c.in_ok-from_slice.field-0 c.component-item.result
    c.loop-component.invariant (omega arith) c.component-item.is
    (c.in_ok-from_slice.ensures.items ∙ c.as_slice.ensures.value) c.in_ok-push.ensures.items
