use Rattle.ot_type.proofs.SubtypeLemmas.{above}
use Rattle.ot_pretty.specs.Found.{Reaches}
use Rattle.ot_pretty.proofs.search.Search.look_at_terms.Given as goal

abbrev pub invariant-loop-id : goal.invariant-loop-id
invariant-loop-id l = Reaches l.kernel l.initial.self l.self

-- each number that is taken is the greatest, and those that come in are lower
abbrev pub decreases-loop-id : goal.decreases-loop-id
decreases-loop-id l = above l.self.terms.keys
