use Rattle.std.proofs.Common.{◌++◌, List, map, fold, subst, sym, ap, ◌∙◌}
use Rattle.indexmap.specs.IndexSet.{insert_key}
use Rattle.indexmap.proofs.MapLemmas.{OnOk-map}
use Rattle.ot_logic.specs.Hol.{symbols_tm}
use Rattle.ot_logic.specs.Lists.{IsSameSet}
use Rattle.ot_logic.specs.Naming.{numbers}
use Rattle.ot_term.specs.declared.term.Symbol.{Symbol}
use Rattle.ot_term.specs.Symbols.{symbol_of}
use Rattle.ot_term.proofs.Distinct.{symbol_eq}
use Rattle.ot_define.specs.Answers.{tm_at}
use Rattle.ot_define.proofs.Keys.{added}
use Rattle.ot_define.proofs.premise.add_symbols.Goals as goal

pub returns : goal.returns
returns c =
    let old = c.args.symbols.now.keys in
    let more = symbols_tm numbers (tm_at c.args.terms.now.terms c.args.t) in
    let all = added old c.in_ok-more.more.items more c.in_ok-more.ensures.symbols in
    OnOk-map c.add_all.result _ _
    (λ e. subst (λ (ks : List Symbol). IsSameSet (map symbol_of ks) (map symbol_of old ++ more))
    (sym (e ∙ ap (fold (insert_key symbol_eq) old) c.as_slice.ensures.value)) all) c.add_all.ensures.ok
