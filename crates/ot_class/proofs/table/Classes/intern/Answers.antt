use Rattle.ot_class.proofs.Growing.{Put, put}
use Rattle.ot_class.proofs.table.Classes.intern.Goals as goal

-- what the insert leaves
left : (c : goal.In_ok-index) → Put c.args.self.now c.self.inside.lists c.self.inside.maps c.self.inside.joins.entries
    c.args.node c.insert_full.new.self.entries c.in_ok-index.index
left c = put c.self.inside.lists c.self.inside.maps c.self.inside.joins.entries c.self.inside.shapes c.self.invariant
    c.args.self.now c.self.view_is c.args.node c.requires c.insert_full.new.self.entries
    c.in_ok-index.ensures.entries c.in_ok-index.index c.in_ok-index.ensures.index

pub invariant_of-self-2 : goal.invariant_of-self-2
invariant_of-self-2 c = (left c).sound

pub returns-clause-ok : goal.returns-clause-ok
returns-clause-ok c = (left c).found

pub returns-clause-grows : goal.returns-clause-grows
returns-clause-grows c = (left c).grows

pub returns-clause-once : goal.returns-clause-once
returns-clause-once c = (left c).once
