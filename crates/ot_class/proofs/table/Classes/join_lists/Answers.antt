use Rattle.ot_class.proofs.Growing.{Stays, stays-grown}
use Rattle.ot_class.proofs.table.Classes.join_lists.Goals as goal
use Rattle.ot_class.proofs.table.Classes.join_lists.Goals.{After-join}

-- the lists were joined, or could not be
left : (c : After-join) → Stays c.args.self.now c.join.new.lists c.join.new.maps c.self.inside.joins.entries
    c.self.inside.shapes.entries
left c = stays-grown _ _ _ _ c.self.invariant _ c.self.view_is c.join.new.lists c.join.new.maps
    c.join.ensures.lists_extend c.join.ensures.maps_extend c.join.ensures.lists_stay_once
    c.join.ensures.maps_stay_once

pub invariant_of-self : goal.invariant_of-self
invariant_of-self c = (left ((goal.at.invariant_of-self c).After-join)).sound

pub invariant_of-self-2 : goal.invariant_of-self-2
invariant_of-self-2 c = (left ((goal.at.invariant_of-self-2 c).After-join)).sound

pub returns-in_err-joined-clause-shapes : goal.returns-in_err-joined-clause-shapes
returns-in_err-joined-clause-shapes c = (left ((goal.at.returns-in_err-joined-clause-shapes c).After-join)).shapes

pub returns-in_err-joined-clause-grows : goal.returns-in_err-joined-clause-grows
returns-in_err-joined-clause-grows c = (left ((goal.at.returns-in_err-joined-clause-grows c).After-join)).grows

pub returns-in_err-joined-clause-once : goal.returns-in_err-joined-clause-once
returns-in_err-joined-clause-once c = (left ((goal.at.returns-in_err-joined-clause-once c).After-join)).once

pub returns-clause-shapes : goal.returns-clause-shapes
returns-clause-shapes c = (left ((goal.at.returns-clause-shapes c).After-join)).shapes

pub returns-clause-grows : goal.returns-clause-grows
returns-clause-grows c = (left ((goal.at.returns-clause-grows c).After-join)).grows

pub returns-clause-once : goal.returns-clause-once
returns-clause-once c = (left ((goal.at.returns-clause-once c).After-join)).once
