use Rattle.std.proofs.Common.{◌≡◌, [], ◌++◌, map, subst, sym, ◌∙◌}
use Rattle.std.specs.List.{flat_map}
use Rattle.std.proofs.lemmas.Result.{IfOk-weaker}
use Rattle.ot_logic.specs.Hol.{symbols_tm}
use Rattle.ot_logic.specs.NamedTerms.{nameless}
use Rattle.ot_logic.specs.Lists.{IsSameSet, AreDistinct}
use Rattle.ot_logic.specs.Naming.{numbers}
use Rattle.ot_logic.proofs.Members.{All-from_members}
use Rattle.ot_type.specs.TypeTable.{type_at}
use Rattle.ot_term.specs.TermTable.{term_at}
use Rattle.ot_term.specs.Symbols.{symbol_of, constant_of, operator_of}
use Rattle.ot_term.proofs.GatherLemmas.{symbols_found, same_set-map}
use Rattle.ot_term.proofs.Distinct.{symbol_eq, symbol-is, distinct_members, distinct_once}
use Rattle.ot_laws.proofs.Sets.{same_set-then}
use Rattle.ot_term.proofs.table.Terms.symbols.Goals as goal

pub types_in-requires : goal.types_in-requires
types_in-requires c = rw c.as_slice.ensures.value (All-from_members _ _ (λ i m. (c.in_ok-terms.ensures.each i m).0))

pub add_constants-requires : goal.add_constants-requires
add_constants-requires c =
    rw c.as_slice-2.ensures.value (All-from_members _ _ (λ i m. (c.in_ok-terms.ensures.each i m).0))

pub add_operators-requires : goal.add_operators-requires
add_operators-requires c = rw (c.types.ensures.types, c.as_slice-3.ensures.value)
    (All-from_members _ _ (λ x m. (c.in_ok-types.ensures.each x m).0))

-- the symbols before repetitions are dropped
all_symbols : (c : goal.After-drop-terms-2) → c.as_slice-4.result.now
    ≡ flat_map (λ i. constant_of (term_at c.args.self.now.terms i)) c.in_ok-terms.terms.items
    ++ flat_map (λ i. operator_of (type_at c.args.self.now.types i)) c.in_ok-types.types.items
all_symbols c =
    c.as_slice-4.ensures.value ∙ c.in_ok-add_operators.ensures
    ∙ rw (
      c.types.ensures.types,
      c.as_slice-3.ensures.value,
      c.in_ok-add_constants.ensures,
      c.as_slice-2.ensures.value,
      c.new-symbols.ensures.items,
    )

pub returns-clause-symbols : goal.returns-clause-symbols
returns-clause-symbols c =
    let root = term_at c.args.self.now.terms c.args.id in
    let types = rw c.as_slice.ensures.value at c.in_ok-types.ensures in
    let found = symbols_found c.args.self.now root c.in_ok-terms.terms.items c.in_ok-types.types.items
    c.in_ok-terms.ensures types in
    let members = distinct_members symbol_eq symbol-is [] c.as_slice-4.result.now in
    let all =
    same_set-then (same_set-map symbol_of members)
    (subst (λ l. IsSameSet (map symbol_of l) (symbols_tm numbers (nameless numbers root))) (sym (all_symbols c))
    found) in
    IfOk-weaker c.distinct.result _ _
    (λ symbols is. subst (λ l. IsSameSet (map symbol_of l) (symbols_tm numbers (nameless numbers root)))
    (sym is) all) c.distinct.ensures

pub returns-clause-once : goal.returns-clause-once
returns-clause-once c =
    IfOk-weaker c.distinct.result _ _
    (λ symbols is. subst AreDistinct (sym is) (distinct_once symbol_eq symbol-is [] c.as_slice-4.result.now tt))
    c.distinct.ensures
