use Rattle.ot_class.proofs.Growing.{stays-lists}
use Rattle.ot_class.proofs.table.Classes.list_without.Goals as goal

pub invariant_of-self : goal.invariant_of-self
invariant_of-self c =
    (stays-lists _ _ _ _ c.self.invariant _ c.self.view_is c.without.new.self c.without.ensures.extends
    c.without.ensures.once).sound

pub invariant_of-self-2 : goal.invariant_of-self-2
invariant_of-self-2 c =
    (stays-lists _ _ _ _ c.self.invariant _ c.self.view_is c.without.new.self c.without.ensures.extends
    c.without.ensures.once).sound
