use Rattle.std.specs.List.{flat_map}
use Rattle.std.proofs.Common.{◌≡◌, ◌++◌, take}
use Rattle.ot_term.specs.TermTable.{term_at}
use Rattle.ot_term.specs.Symbols.{constant_of}
use Rattle.ot_term.proofs.table.Terms.add_constants.Given as goal

abbrev pub invariant-loop-id : goal.invariant-loop-id
invariant-loop-id l = l.symbols.items ≡ l.initial.symbols.items
    ++ flat_map (λ i. constant_of (term_at l.self.terms i)) (take l.id-index l.ids)
