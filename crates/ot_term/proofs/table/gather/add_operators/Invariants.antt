use Rattle.std.specs.List.{flat_map}
use Rattle.std.proofs.Common.{◌≡◌, ◌++◌, take}
use Rattle.ot_type.specs.TypeTable.{type_at}
use Rattle.ot_term.specs.Symbols.{operator_of}
use Rattle.ot_term.proofs.table.gather.add_operators.Given as goal

abbrev pub invariant-loop-id : goal.invariant-loop-id
invariant-loop-id l = l.symbols.items ≡ l.initial.symbols.items ++ flat_map (λ i. operator_of (type_at l.types i))
    (take l.id-index l.ids)
