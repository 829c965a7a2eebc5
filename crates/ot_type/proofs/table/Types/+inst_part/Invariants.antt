use Rattle.std.proofs.Common.{◌+◌, ◌*◌, take}
use Rattle.ot_type.proofs.InstLemmas.{IsGoingOn}
use Rattle.ot_type.proofs.SubtypeLemmas.{above}
use Rattle.ot_type.proofs.table.Types.+inst_part.Given as goal

abbrev pub decreases-inst_part : goal.decreases-inst_part
decreases-inst_part l = 2 * l.id + 1

abbrev pub decreases-inst_parts : goal.decreases-inst_parts
decreases-inst_parts l = 2 * above l.ids.now

abbrev pub invariant-inst_parts-loop-id : goal.invariant-inst_parts-loop-id
invariant-inst_parts-loop-id l = IsGoingOn l.s l.fn.self l.self l.done.entries (take l.id-index l.ids) l.found.items
