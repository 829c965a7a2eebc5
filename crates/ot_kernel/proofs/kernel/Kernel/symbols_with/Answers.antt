use Rattle.std.proofs.Common.{[], ◌∷◌, ◌++◌, List, ℕ, map, ap, subst, ◌∙◌}
use Rattle.std.specs.Prelude.{IfOk}
use Rattle.ot_logic.specs.Hol.{symbols_all}
use Rattle.ot_logic.specs.Lists.{IsSameSet}
use Rattle.ot_logic.specs.Names.{Name}
use Rattle.ot_logic.specs.Naming.{names}
use Rattle.ot_logic.specs.Renamed.{map_symbol}
use Rattle.ot_logic.specs.Trees.{Symbol}
use Rattle.ot_term.specs.Symbols.{symbol_of}
use Rattle.ot_kernel.specs.State.{name_at, terms_at, theorem_at}
use Rattle.ot_kernel.proofs.Occurring.{symbols-after}
use Rattle.ot_kernel.proofs.kernel.Kernel.symbols_with.Goals as goal

pub returns-clause-symbols : goal.returns-clause-symbols
returns-clause-symbols c =
    let s = c.args.self.now in
    let items = c.as_slice.ensures.value ∙ c.in_ok-extend_from_slice.ensures.items
    ∙ ap (λ (l : List ℕ). l ++ c.args.ids.now)
    (c.in_ok-push.ensures.items ∙ ap (λ (l : List ℕ). l ++ c.concl.result ∷ []) c.in_ok-all.ensures.items) in
    let all = ap (λ (l : List ℕ). symbols_all names (terms_at s l)) items ∙ symbols-after s (theorem_at s c.args.th)
    c.hyps.result.now c.concl.result c.args.ids.now c.hyps.ensures.hyps c.concl.ensures.concl in
    subst (λ (l : List (Symbol Name)). IfOk c.symbols_in.result
    (λ v. IsSameSet (map (map_symbol (name_at s)) (map symbol_of v.items)) l)) all c.symbols_in.ensures.symbols
