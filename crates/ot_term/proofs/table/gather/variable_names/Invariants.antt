use Rattle.std.specs.List.{flat_map}
use Rattle.std.proofs.Common.{◌≡◌, take}
use Rattle.ot_type.specs.TypeTable.{type_at}
use Rattle.ot_term.specs.Symbols.{variable_name}
use Rattle.ot_term.proofs.table.gather.variable_names.Given as goal

abbrev pub invariant-loop-id : goal.invariant-loop-id
invariant-loop-id l = l.names.items ≡ flat_map (λ i. variable_name (type_at l.types i)) (take l.id-index l.ids)
