use Rattle.std.proofs.Common.{subst}
use Rattle.ot_class.specs.Class.{AreOnce}
use Rattle.ot_class.proofs.table.Classes.place_of.Goals as goal

pub returns-clause-once : goal.returns-clause-once
returns-clause-once c = subst AreOnce c.self.view_is
    (record { shapes = c.self.invariant.nodes.injective; lists = c.self.invariant.lists; maps = c.self.invariant.maps })
