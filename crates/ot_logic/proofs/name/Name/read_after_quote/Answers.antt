use Rattle.ot_logic.proofs.Reading.{behind-start, at_end, at_byte, at_dot}
use Rattle.ot_logic.proofs.name.Name.read_after_quote.Goals as goal

pub parts-init : goal.parts-init
parts-init c = rw (c.new-components.ensures.items, c.new-component.ensures.items) (behind-start _)

pub returns-in-End : goal.returns-in-End
returns-in-End c = at_end _ _ _ _ _ _ c.parts.invariant c.in-End.ensures.reading c.in_ok-push-in-End.ensures.items

pub parts-preserved-in-Byte : goal.parts-preserved-in-Byte
parts-preserved-in-Byte c =
    at_byte _ _ _ _ _ _ _ c.parts.invariant c.in-Byte.ensures.reading c.in_ok-push-in-Byte.ensures.items

pub parts-preserved : goal.parts-preserved
parts-preserved c = at_dot _ _ _ _ _ _ _ _ c.parts.invariant c.in-Dot.ensures.reading
    c.in_ok-push-in-Dot.ensures.items c.new-component-in-Dot.ensures.items
