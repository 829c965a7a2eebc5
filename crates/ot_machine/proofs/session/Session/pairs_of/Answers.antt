use Rattle.std.proofs.Common.{rules, ◌<◌, ℕ, [], ◌∷◌, length, map, sym, ap, subst, ◌∙◌}
use Rattle.std.specs.List.{All}
use Rattle.std.proofs.lemmas.List.{map-append}
use Rattle.std.proofs.lemmas.List.Elements.{All-push}
use Rattle.ot_logic.specs.Names.{Name}
use Rattle.ot_logic.specs.Trees.{Variable}
use Rattle.ot_term.specs.declared.term.VarKey.{VarKey}
use Rattle.ot_kernel.specs.State.{State, name_at, variable_at}
use Rattle.ot_machine.specs.Places.{as_each}
use Rattle.ot_machine.specs.DefinitionLists.{definition_pair}
use Rattle.ot_machine.specs.Meaning.{list_at, lists_of}
use Rattle.ot_machine.proofs.Elements.{joined, read-more, read-other}
use Rattle.ot_machine.proofs.Refusals.{refused}
use Rattle.ot_machine.proofs.session.Session.pairs_of.Goals as goal

pub returns-in_err-pair-clause-read : goal.returns-in_err-pair-clause-read
returns-in_err-pair-clause-read c =
    let k = c.args.self.now.kernel in
    let next = c.in-Some.ensures in
    refused k _ _ c.in_err-pair.field-0.0 _ (search rules) (
      c.in_err-pair.ensures.read.0,
      λ f p.
          sym c.pairs.invariant.so_far
          ∙ read-other definition_pair _ _ _ _ f (c.in_err-pair.ensures.read.1 f p) next.list_is,
    )

abbrev IsVariableIn : State → ℕ × VarKey → Type 0
IsVariableIn k p = (p.1.name < length k.names) × (p.1.ty < length k.types)

abbrev pair_at : State → ℕ × VarKey → Name × Variable Name
pair_at k p = (name_at k p.0, variable_at k p.1)

pub pairs-preserved : goal.pairs-preserved
pairs-preserved c =
    let k = c.args.self.now.kernel in
    let cs = lists_of c.args.self.now c.args.machine.now in
    let next = c.in-Some.ensures in
    let items = ap (map (pair_at k)) c.in_ok-push.ensures.items
    ∙ map-append (pair_at k) c.pairs.pairs.items (c.in_ok-pair.pair ∷ []) in
    record {
      inside = next.tail;
      names = subst (All (λ p. p.0 < length k.names)) (sym c.in_ok-push.ensures.items)
          (All-push (λ p. p.0 < length k.names) c.pairs.pairs.items c.in_ok-pair.pair c.pairs.invariant.names
          c.in_ok-pair.ensures.name);
      variables =
          subst (All (IsVariableIn k)) (sym c.in_ok-push.ensures.items)
          (All-push (IsVariableIn k) c.pairs.pairs.items c.in_ok-pair.pair c.pairs.invariant.variables
          c.in_ok-pair.ensures.variable);
      so_far = ap (λ xs. joined definition_pair xs (as_each definition_pair (list_at cs c.in-Some.tail))) items
          ∙ sym (read-more definition_pair _ _ _ _ _ c.in_ok-pair.ensures.read next.list_is)
          ∙ c.pairs.invariant.so_far;
    }
