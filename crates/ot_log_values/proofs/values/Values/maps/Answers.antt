use Rattle.std.specs.Prelude.{ℕ, nat_eq, List}
use Rattle.std.proofs.Common.{sym, ap, subst, ◌∙◌}
use Rattle.ot_log_nodes.specs.declared.node.VariableNode.{VariableNode}
use Rattle.ot_log_nodes.proofs.MapLemmas.{variable_eq}
use Rattle.ot_log_values.specs.Lists.{AreMapsOf}
use Rattle.ot_machine.specs.Substitutions.{type_pair, term_pair, maps_of}
use Rattle.ot_log_values.specs.Reading.{all_first, HasTypePair, type_pair_at}
use Rattle.ot_log_values.specs.Staying.{type_pair-still}
use Rattle.ot_log_values.proofs.Later.{each-later}
use Rattle.ot_log_values.proofs.Mapping.{maps-read}
use Rattle.ot_machine.specs.Places.{as_each}
use Rattle.ot_log_values.specs.Steps.{of_list}
use Rattle.ot_log_values.proofs.Taking.{maps-two, is-pair, first-is, second-is}
use Rattle.ot_log_values.proofs.values.Values.maps.Goals as goal

pub returns-clause-made : goal.returns-clause-made
returns-clause-made c =
    let s = c.args.session.now in
    let us = c.each_of.new.nodes in
    let ws = c.each_of-2.new.nodes in
    let list = c.args.list in
    let types = c.in_ok-types.types.items in
    let terms = c.in_ok-terms.terms.items in
    let pairs = each-later s us ws c.in_ok-terms.ensures.extends HasTypePair type_pair_at type_pair type_pair-still
    c.in_ok-first.first types
    c.in_ok-types.ensures.made in
    let read = maps-read s ws c.primitives.ensures.once list c.in_ok-first.first
    c.in_ok-first.second types terms c.in_ok-first.ensures.made
    pairs c.in_ok-terms.ensures.made in
    let first = c.in_ok-first_types.ensures ∙ ap (all_first nat_eq) c.deref.ensures.value in
    let second = c.in_ok-first_terms.ensures ∙ ap (all_first variable_eq) c.deref-2.ensures.value in
    subst (λ (xs : List (ℕ × ℕ)). AreMapsOf s ws list xs c.in_ok-first_terms.first_terms.items) (sym first)
    (subst (λ (ys : List (VariableNode × ℕ)). AreMapsOf s ws list (all_first nat_eq types) ys) (sym second) read)

pub two_elements-requires-clause-pair : goal.two_elements-requires-clause-pair
two_elements-requires-clause-pair c =
    is-pair c.args.session.now (of_list (as_each type_pair)) (of_list (as_each term_pair)) (of_list maps_of) maps-two
    c.args.list c.requires.value

pub each_of-requires-clause-value : goal.each_of-requires-clause-value
each_of-requires-clause-value c =
    first-is c.args.session.now (of_list (as_each type_pair)) (of_list (as_each term_pair)) (of_list maps_of) maps-two
    c.args.list c.requires.value
    c.in_ok-first.first c.in_ok-first.second c.in_ok-first.ensures.made

pub each_of-requires-2-clause-value : goal.each_of-requires-2-clause-value
each_of-requires-2-clause-value c =
    second-is c.args.session.now (of_list (as_each type_pair)) (of_list (as_each term_pair)) (of_list maps_of) maps-two
    c.args.list c.requires.value
    c.in_ok-first.first c.in_ok-first.second c.in_ok-first.ensures.made
