use Rattle.ot_lists.proofs.MapLemmas.{Put, put}
use Rattle.ot_lists.proofs.map.Maps.intern.Goals as goal

-- what the insert leaves
left : (c : goal.In_ok-index) → Put c.args.self.now c.args.node c.insert_full.new.self.entries c.in_ok-index.index
left c = put c.self.inside.nodes c.args.self.now c.self.view_is c.self.invariant c.args.node c.requires.below
    c.requires.longest c.insert_full.new.self.entries c.in_ok-index.ensures.entries c.in_ok-index.index
    c.in_ok-index.ensures.index

pub invariant_of-self-2 : goal.invariant_of-self-2
invariant_of-self-2 c = (left c).sound

pub returns-clause-ok : goal.returns-clause-ok
returns-clause-ok c = (left c).found

pub returns-clause-extends : goal.returns-clause-extends
returns-clause-extends c = (left c).extends

pub returns-clause-once : goal.returns-clause-once
returns-clause-once c = (left c).sound.injective
