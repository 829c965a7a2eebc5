use Rattle.std.proofs.Common.{◌≡◌, ◌∙◌, position}
use Rattle.indexmap.specs.IndexMap.{keys, index_of}
use Rattle.ot_near.proofs.Placing.{position-sought, position_within}
use Rattle.ot_near.proofs.table.NearMap.find.Given as given
use Rattle.ot_near.proofs.table.NearMap.find.Goals as goal

found : (g : given.Over) (c : goal.After-drop-sought g) → c.get_index_of.result
    ≡ index_of g.K.PartialEq.eq c.args.self.now c.args.node
found g c =
    c.get_index_of.ensures.index
    ∙ position-sought g.K.PartialEq.eq g.K.Refers.greatest c.self.inside.entries.entries c.as_slice.result.now
    c.sought-sought.result c.sought-sought.ensures.sought
    ∙ (λ i. position (g.K.PartialEq.eq (c.sought-sought.ensures.node i)) (keys (c.self.view_is i)))

pub returns-clause-index : goal.returns-clause-index
returns-clause-index g c = found g c

pub returns-clause-within : goal.returns-clause-within
returns-clause-within g c =
    position_within (g.K.PartialEq.eq c.args.node) c.args.self.now.entries c.args.node c.get_index_of.result (found g c)
