use Rattle.std.specs.List.{list_all}
use Rattle.std.proofs.Common.{ℕ, List, subst, sym, ap, ◌∙◌}
use Rattle.std.proofs.lemmas.Bool.Decides.{Decides-eqb}
use Rattle.ot_logic.specs.Naming.{names}
use Rattle.ot_logic.specs.Rules.{has_type}
use Rattle.ot_log_nodes.specs.Changing.{term_map, HasTypes, HasTerms}
use Rattle.ot_log_nodes.specs.declared.node.VariableNode.{VariableNode}
use Rattle.ot_log_nodes.proofs.MapLemmas.{variable_eq, still-types_of, still-terms_of}
use Rattle.ot_log_nodes.proofs.TypingLemmas.{typings-grown}
use Rattle.ot_log_rules.specs.Putting.{firsts, IsPut}
use Rattle.ot_log_rules.proofs.Asked.{same-variable-is}
use Rattle.ot_log_rules.proofs.Substituting.{types-firsts, terms-firsts}
use Rattle.ot_log_rules.proofs.PutIn.{subst-refused, subst-made}
use Rattle.ot_log_rules.proofs.Staying.{still-statement}
use Rattle.ot_log_rules.proofs.put.subst.Goals as goal

pub first_pairs-requires : goal.first_pairs-requires
first_pairs-requires c = Decides-eqb

pub first_pairs-requires-2 : goal.first_pairs-requires-2
first_pairs-requires-2 c = same-variable-is

pub are_typed-requires-clause-terms : goal.are_typed-requires-clause-terms
are_typed-requires-clause-terms c =
    subst (HasTerms c.args.nodes.now) (sym c.in_ok-terms.ensures)
    (terms-firsts c.args.nodes.now c.primitives.ensures.once c.args.terms.now c.requires.terms)

pub returns-then-not-typed-clause-gives : goal.returns-then-not-typed-clause-gives
returns-then-not-typed-clause-gives c =
    let ts = c.args.nodes.now in
    subst-refused ts c.primitives.ensures.once c.args.types.now c.args.terms.now c.requires.types c.requires.terms
    c.args.a.now c.in_ok-typed.typed
    (c.in_ok-typed.ensures.ok ∙ ap (λ m. list_all (λ p. has_type names p.1 p.0.ty) (term_map ts m))
    c.in_ok-terms.ensures) c.if-not-typed.true

pub put-requires-clause-types : goal.put-requires-clause-types
put-requires-clause-types c =
    let ts = c.args.nodes.now in
    still-types_of ts c.are_typed.new.nodes c.in_ok-typed.ensures.extends c.in_ok-types.types.entries
    (subst (HasTypes ts) (sym c.in_ok-types.ensures)
    (types-firsts ts c.primitives.ensures.once c.args.types.now c.requires.types))

pub put-requires-clause-terms : goal.put-requires-clause-terms
put-requires-clause-terms c =
    let ts = c.args.nodes.now in
    still-terms_of ts c.are_typed.new.nodes c.in_ok-typed.ensures.extends c.in_ok-terms.terms.entries
    (subst (HasTerms ts) (sym c.in_ok-terms.ensures)
    (terms-firsts ts c.primitives.ensures.once c.args.terms.now c.requires.terms))

pub put-requires-clause-a : goal.put-requires-clause-a
put-requires-clause-a c = still-statement c.args.nodes.now c.are_typed.new.nodes c.in_ok-typed.ensures.extends
    c.args.a.now c.requires.a

pub returns-clause-gives : goal.returns-clause-gives
returns-clause-gives c =
    let ts = c.args.nodes.now in
    let us = c.are_typed.new.nodes in
    let vs = c.put.new.nodes in
    let put =
    subst (λ (s : List (ℕ × ℕ)). IsPut us vs s (firsts variable_eq c.args.terms.now) c.args.a.now
    c.in_ok-made.made) c.in_ok-types.ensures
    (subst (λ (m : List (VariableNode × ℕ)). IsPut us vs c.in_ok-types.types.entries m c.args.a.now
    c.in_ok-made.made) c.in_ok-terms.ensures c.in_ok-made.ensures.ok) in
    subst-made ts c.primitives.ensures.once c.args.types.now c.args.terms.now c.requires.types c.requires.terms
    c.args.a.now us vs c.in_ok-typed.ensures.extends c.requires.a c.in_ok-typed.typed c.in_ok-made.made
    (c.in_ok-typed.ensures.ok ∙ ap (λ m. list_all (λ p. has_type names p.1 p.0.ty) (term_map ts m))
    c.in_ok-terms.ensures) c.if-not-typed.false put

pub returns-in_err-made-clause-known : goal.returns-in_err-made-clause-known
returns-in_err-made-clause-known c = typings-grown c.are_typed.new.nodes c.put.new.nodes c.put.ensures.extends
    c.are_typed.new.typings.known.entries c.are_typed.ensures.known

pub returns-clause-known : goal.returns-clause-known
returns-clause-known c = typings-grown c.are_typed.new.nodes c.put.new.nodes c.put.ensures.extends
    c.are_typed.new.typings.known.entries c.are_typed.ensures.known
