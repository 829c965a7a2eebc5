use Rattle.std.proofs.Common.{map}
use Rattle.std.proofs.lemmas.Result.{IfOk-weaker}
use Rattle.ot_kernel.specs.State.{theorem_at}
use Rattle.ot_parse.specs.Symbols.{symbol_of}
use Rattle.ot_pretty.proofs.Roots.{run-adds, run-inside, run-symbols}
use Rattle.ot_pretty.proofs.symbols.run_symbols.Goals as goal

pub named_symbols-requires : goal.named_symbols-requires
named_symbols-requires c =
    let s = c.args.kernel.now in
    let exports = map (theorem_at s) c.args.theorems.now in
    run-inside s c.as_slice.result.now _
    (run-adds s c.new-roots.result.items c.add_theorems.new.roots.items c.add_theorems-2.new.roots.items
    c.add_definitions.new.roots.items c.as_slice.result.now c.assumptions.result.now exports
    c.new-roots.ensures.items c.as_slice.ensures.value
    c.assumptions.ensures.sequents c.in_ok-add_theorems.ensures c.in_ok-add_theorems-2.ensures
    c.in_ok-add_definitions.ensures)

pub returns-clause-symbols : goal.returns-clause-symbols
returns-clause-symbols c =
    let s = c.args.kernel.now in
    let exports = map (theorem_at s) c.args.theorems.now in
    let adds =
    run-adds s c.new-roots.result.items c.add_theorems.new.roots.items c.add_theorems-2.new.roots.items
    c.add_definitions.new.roots.items c.as_slice.result.now c.assumptions.result.now exports
    c.new-roots.ensures.items c.as_slice.ensures.value
    c.assumptions.ensures.sequents c.in_ok-add_theorems.ensures c.in_ok-add_theorems-2.ensures
    c.in_ok-add_definitions.ensures in
    IfOk-weaker c.named_symbols.result _ _
    (λ v h. run-symbols s c.as_slice.result.now _ (map symbol_of v.items) adds h) c.named_symbols.ensures.symbols
