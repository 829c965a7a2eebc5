use Rattle.std.proofs.Common.{length}
use Rattle.ot_type.proofs.SubtypeLemmas.{above}
use Rattle.ot_term.specs.TermTable.{term_at}
use Rattle.ot_term.specs.Gather.{IsSubterm}
use Rattle.ot_term.proofs.Walking.{IsSearch}
use Rattle.ot_term.proofs.table.Terms.subterms.Given as goal

abbrev pub invariant-loop-next : goal.invariant-loop-next
invariant-loop-next l = IsSearch (term_at l.self.terms) IsSubterm (length l.self.terms)
    (λ u. IsSubterm u (term_at l.self.terms l.fn.id)) l.found.items l.pending.keys

-- each number that is taken is the greatest, and those that come in are lower
abbrev pub decreases-loop-next : goal.decreases-loop-next
decreases-loop-next l = above l.pending.keys
