use Rattle.std.specs.List.{All}
use Rattle.std.proofs.Common.{map, subst, sym, ap, ◌∙◌}
use Rattle.ot_logic.specs.Naming.{names}
use Rattle.ot_logic.specs.Hol.{symbols_of}
use Rattle.ot_log_format.specs.Steps.{all_defined, all_used}
use Rattle.ot_log_rules.specs.Statements.{sequent_at}
use Rattle.ot_log_rules.specs.Symbols.{IsSymbolMark, symbol_of, are_fresh}
use Rattle.ot_log_rules.proofs.Freshness.{names-are, names-marked}
use Rattle.ot_log_rules.proofs.conditions.are_constants_fresh.Goals as goal

pub are_symbols_fresh-requires-clause-symbols : goal.are_symbols_fresh-requires-clause-symbols
are_symbols_fresh-requires-clause-symbols c =
    subst (All (IsSymbolMark c.args.nodes.now)) (sym (c.as_slice.ensures.value ∙ c.in_ok-symbols.ensures))
    (names-marked c.args.nodes.now c.args.constants.now c.requires.constants)

pub returns : goal.returns
returns c = λ dl sig.
    let ts = c.args.nodes.now in
    let q = sequent_at ts c.args.premise.now in
    let is = ap (map (symbol_of ts)) (c.as_slice.ensures.value ∙ c.in_ok-symbols.ensures)
    ∙ names-are ts c.args.constants.now in
    c.in_ok-fresh.ensures dl sig ∙ ap (are_fresh (all_defined names dl) (all_used names dl) (symbols_of names q)) is
