use Rattle.std.proofs.Common.{◌∙◌}
use Rattle.ot_kernel.proofs.Later.{unchanged, has_type-number}
use Rattle.ot_kernel.proofs.kernel.Kernel.has_type.Goals as goal

pub returns : goal.returns
returns c = c.eq.ensures ∙ has_type-number (unchanged _ _ _ _ c.self.view_is c.self.invariant) _ _ _ c.requires.t
    c.requires.ty c.type_of.ensures.below c.type_of.ensures.typed
