use Rattle.std.specs.List.{All}
use Rattle.std.proofs.Common.{◌<◌, length, map, sym, subst}
use Rattle.std.proofs.lemmas.Result.{IfOk-weaker}
use Rattle.ot_logic.specs.Lists.{AreDistinct, IsSameSet}
use Rattle.ot_logic.proofs.Members.{All-from_members}
use Rattle.ot_term.specs.declared.term.Symbol as code
use Rattle.ot_pretty.specs.Found.{term_symbols}
use Rattle.ot_pretty.specs.Run.{named_symbol}
use Rattle.ot_pretty.proofs.Finding.{starts, reached-all}
use Rattle.ot_pretty.proofs.search.found_symbols.Goals as goal

pub look_at_terms-requires : goal.look_at_terms-requires
look_at_terms-requires c =
    let s = c.args.kernel.now in
    (starts s _ c.add_terms.new.self c.args.ids.now c.new.ensures.empty c.new-2.ensures.empty c.new-3.ensures.empty
    c.requires (c.in_ok-add_terms.ensures s (length s.terms) 0 c.requires)).0

pub returns-clause-symbols : goal.returns-clause-symbols
returns-clause-symbols c =
    let s = c.args.kernel.now in
    let first = starts s _ c.add_terms.new.self c.args.ids.now c.new.ensures.empty c.new-2.ensures.empty
    c.new-3.ensures.empty c.requires (c.in_ok-add_terms.ensures s (length s.terms) 0 c.requires) in
    let all =
    reached-all s c.add_terms.new.self c.look_at_terms.new.self c.look_at_types.new.self c.args.ids.now first
    c.in_ok-look_at_terms.ensures.reaches c.in_ok-look_at_types.ensures.reaches
    c.in_ok-look_at_types.ensures.no_terms
    c.in_ok-look_at_types.ensures.none in
    IfOk-weaker c.listed.result _ _
    (λ v e. subst (λ xs. IsSameSet (map (named_symbol s) xs) (term_symbols s c.args.ids.now)) (sym e) all)
    c.listed.ensures

pub returns-clause-inside : goal.returns-clause-inside
returns-clause-inside c =
    let IsIn = λ (x : code.Symbol). x.name < length c.args.kernel.now.names in
    IfOk-weaker c.listed.result _ _
    (λ v e. subst (All IsIn) (sym e) (All-from_members IsIn _ c.in_ok-look_at_types.ensures.reaches.search.inside))
    c.listed.ensures

pub returns-clause-once : goal.returns-clause-once
returns-clause-once c = IfOk-weaker c.listed.result _ _
    (λ v e. subst AreDistinct (sym e) c.in_ok-look_at_types.ensures.reaches.search.once) c.listed.ensures
