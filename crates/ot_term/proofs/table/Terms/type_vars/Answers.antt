use Rattle.std.specs.List.{flat_map}
use Rattle.std.proofs.Common.{◌≡◌, sym, subst, ◌∙◌}
use Rattle.std.proofs.lemmas.Result.{IfOk-weaker}
use Rattle.ot_logic.specs.Hol.{vars_tm}
use Rattle.ot_logic.specs.NamedTerms.{nameless}
use Rattle.ot_logic.specs.Lists.{IsSameSet, AreDistinct}
use Rattle.ot_logic.specs.Naming.{numbers}
use Rattle.ot_logic.proofs.Members.{All-from_members}
use Rattle.ot_type.specs.TypeTable.{type_at}
use Rattle.ot_term.specs.Symbols.{variable_name}
use Rattle.ot_term.specs.TermTable.{term_at}
use Rattle.ot_term.proofs.GatherLemmas.{vars_found, names_once}
use Rattle.ot_term.proofs.table.Terms.type_vars.Goals as goal

pub types_in-requires : goal.types_in-requires
types_in-requires c = rw c.as_slice.ensures.value (All-from_members _ _ (λ i m. (c.in_ok-terms.ensures.each i m).0))

pub variable_names-requires : goal.variable_names-requires
variable_names-requires c = rw (c.types.ensures.types, c.as_slice-2.ensures.value)
    (All-from_members _ _ (λ x m. (c.in_ok-types.ensures.each x m).0))

-- the names among the types that were found
same_names : (c : goal.After-drop-terms-2)
    → flat_map (λ i. variable_name (type_at c.types.result.now i)) c.as_slice-2.result.now
    ≡ flat_map (λ i. variable_name (type_at c.args.self.now.types i)) c.in_ok-types.types.items
same_names c = rw (c.types.ensures.types, c.as_slice-2.ensures.value)

pub returns-clause-names : goal.returns-clause-names
returns-clause-names c =
    let terms = c.in_ok-terms.ensures in
    let types = rw c.as_slice.ensures.value at c.in_ok-types.ensures in
    let found = vars_found c.args.self.now (term_at c.args.self.now.terms c.args.id) c.in_ok-terms.terms.items
    c.in_ok-types.types.items terms types in
    IfOk-weaker c.variable_names.result _ _
    (λ names is. subst
    (λ l. IsSameSet l (vars_tm numbers (nameless numbers (term_at c.args.self.now.terms c.args.id))))
    (sym (is ∙ same_names c)) found) c.variable_names.ensures

pub returns-clause-once : goal.returns-clause-once
returns-clause-once c =
    let types = c.in_ok-types.ensures in
    let once = names_once c.args.self.now.types c.types.ensures.table.types.injective c.in_ok-types.types.items
    (λ x m. (types.each x m).0) types.falling in
    IfOk-weaker c.variable_names.result _ _ (λ names is. subst AreDistinct (sym (is ∙ same_names c)) once)
    c.variable_names.ensures
