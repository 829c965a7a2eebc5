use Rattle.ot_pretty.proofs.Finding.{AddsTermsSo}
use Rattle.ot_pretty.proofs.search.Search.add_terms.Given as goal

abbrev pub invariant-loop-id : goal.invariant-loop-id
invariant-loop-id l = AddsTermsSo l.initial.self l.self l.ids l.id-index
