use Rattle.ot_pretty.proofs.Finding.{AddsTypesSo}
use Rattle.ot_pretty.proofs.search.Search.add_types.Given as goal

abbrev pub invariant-loop-id : goal.invariant-loop-id
invariant-loop-id l = AddsTypesSo l.initial.self l.self l.ids l.id-index
