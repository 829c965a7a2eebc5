use Rattle.std.specs.List.{All, list_all}
use Rattle.std.proofs.Common.{◌∙◌, [], ◌∷◌, ◌++◌, map, sym, ap, subst}
use Rattle.ot_logic.specs.Naming.{names}
use Rattle.ot_log_format.specs.Steps.{is_sequent_within}
use Rattle.ot_log_rules.specs.Accepting.{accepted_at}
use Rattle.ot_log_rules.specs.Limits.{AreWellTyped}
use Rattle.ot_log_rules.specs.Statements.{sequent_at, HasStatement}
use Rattle.ot_log_rules.specs.declared.definition.Accepted.{Accepted}
use Rattle.ot_log_rules.proofs.Freshness.{signature-same}
use Rattle.ot_verify.proofs.Logging.{held_of, log-kept, with-typings}
use Rattle.ot_verify.proofs.Keeping.{whole-same, accepted-typed, accepted-there, definition-kept, definition-added}
use Rattle.ot_verify.proofs.log.Log.accept.Goals as goal

pub are_statements_within-requires-clause-typed : goal.are_statements_within-requires-clause-typed
are_statements_within-requires-clause-typed c =
    let a : Accepted = record { definition = c.args.definition; theorems = c.args.theorems } in
    subst (All (λ q. AreWellTyped (sequent_at c.self.inside.nodes q))) (sym c.deref.ensures.value)
    (accepted-typed c.self.inside c.self.invariant c.args.self.now c.self.view_is a c.requires.definition
    c.requires.theorems)

pub invariant_of-self : goal.invariant_of-self
invariant_of-self c =
    with-typings c.self.inside c.are_statements_within.new.nodes c.are_statements_within.new.typings.known.entries
    (log-kept c.self.inside c.are_statements_within.new.nodes c.are_statements_within.ensures.extends
    c.self.invariant)
    c.are_statements_within.ensures.known

pub invariant_of-self-then-not-within : goal.invariant_of-self-then-not-within
invariant_of-self-then-not-within c =
    with-typings c.self.inside c.are_statements_within.new.nodes c.are_statements_within.new.typings.known.entries
    (log-kept c.self.inside c.are_statements_within.new.nodes c.are_statements_within.ensures.extends
    c.self.invariant)
    c.are_statements_within.ensures.known

pub copies-requires : goal.copies-requires
copies-requires c =
    let a : Accepted = record { definition = c.args.definition; theorems = c.args.theorems } in
    let us = c.are_statements_within.new.nodes in
    subst (All (HasStatement us)) (sym c.deref-2.ensures.value)
    (accepted-there c.self.inside c.self.invariant c.args.self.now c.self.view_is a
    c.requires.definition c.requires.theorems us c.are_statements_within.ensures.extends).has

pub invariant_of-self-in_err-copies : goal.invariant_of-self-in_err-copies
invariant_of-self-in_err-copies c =
    with-typings c.self.inside c.are_statements_within.new.nodes c.are_statements_within.new.typings.known.entries
    (log-kept c.self.inside c.are_statements_within.new.nodes c.are_statements_within.ensures.extends
    c.self.invariant)
    c.are_statements_within.ensures.known

pub invariant_of-self-in_err-reserve : goal.invariant_of-self-in_err-reserve
invariant_of-self-in_err-reserve c =
    let l = c.self.inside in
    let us = c.are_statements_within.new.nodes in
    let k = log-kept l us c.are_statements_within.ensures.extends c.self.invariant in
    whole-same l us (record (held_of l) { sequents = c.reserve.new.self.items })
    c.are_statements_within.new.typings.known.entries l.signature l.assumptions l.results
    (λ i. record (held_of l) { sequents = c.reserve.ensures.items i }) k
    c.are_statements_within.ensures.known k.signature k.assumptions k.results

pub invariant_of-self-in_err-reserve-2 : goal.invariant_of-self-in_err-reserve-2
invariant_of-self-in_err-reserve-2 c =
    let l = c.self.inside in
    let us = c.are_statements_within.new.nodes in
    let k = log-kept l us c.are_statements_within.ensures.extends c.self.invariant in
    whole-same l us
    (record (held_of l) { sequents = c.reserve.new.self.items; definitions = c.reserve-2.new.self.items })
    c.are_statements_within.new.typings.known.entries l.signature l.assumptions l.results
    (λ i. record (held_of l) { sequents = c.reserve.ensures.items i; definitions = c.reserve-2.ensures.items i })
    k c.are_statements_within.ensures.known k.signature k.assumptions k.results

pub accept-requires-clause-definition : goal.accept-requires-clause-definition
accept-requires-clause-definition c =
    let a : Accepted = record { definition = c.args.definition; theorems = c.args.theorems } in
    (accepted-there c.self.inside c.self.invariant c.args.self.now c.self.view_is a c.requires.definition
    c.requires.theorems c.are_statements_within.new.nodes c.are_statements_within.ensures.extends).definition

pub accept-requires-clause-made : goal.accept-requires-clause-made
accept-requires-clause-made c =
    let a : Accepted = record { definition = c.args.definition; theorems = c.args.theorems } in
    let us = c.are_statements_within.new.nodes in
    subst (All (HasStatement us)) (sym c.deref-3.ensures.value)
    (accepted-there c.self.inside c.self.invariant c.args.self.now c.self.view_is a
    c.requires.definition c.requires.theorems us c.are_statements_within.ensures.extends).has

pub invariant_of-self-in_err-accept : goal.invariant_of-self-in_err-accept
invariant_of-self-in_err-accept c =
    let l = c.self.inside in
    let us = c.are_statements_within.new.nodes in
    let k = log-kept l us c.are_statements_within.ensures.extends c.self.invariant in
    whole-same l us
    (record (held_of l) { sequents = c.reserve.new.self.items; definitions = c.reserve-2.new.self.items })
    c.are_statements_within.new.typings.known.entries c.accept.new.self l.assumptions l.results
    (λ i. record (held_of l) { sequents = c.reserve.ensures.items i; definitions = c.reserve-2.ensures.items i }) k
    c.are_statements_within.ensures.known (signature-same us (map (accepted_at us) l.definitions.items)
    l.signature c.accept.new.self k.signature c.in_err-accept.ensures.err)
    k.assumptions k.results

pub invariant_of-self-2 : goal.invariant_of-self-2
invariant_of-self-2 c =
    let l = c.self.inside in
    let a : Accepted = record { definition = c.args.definition; theorems = c.args.theorems } in
    let us = c.are_statements_within.new.nodes in
    let e = c.are_statements_within.ensures.extends in
    let within = c.in_ok-within.ensures.ok
    ∙ ap (λ qs. list_all (is_sequent_within names) (map (sequent_at l.nodes) qs)) c.deref.ensures.value in
    let same = c.in_ok-copies.ensures.same ∙ ap (map (sequent_at us)) c.deref-2.ensures.value in
    let sequents = c.put_all.ensures ∙ ap (λ xs. xs ++ c.in_ok-copies.copies.items) c.reserve.ensures.items in
    let definitions = c.put_last.ensures ∙ ap (λ xs. xs ++ a ∷ []) c.reserve-2.ensures.items in
    let there = accepted-there l c.self.invariant c.args.self.now
    c.self.view_is a c.requires.definition c.requires.theorems us e in
    let signature = c.in_ok-accept.ensures.ok (map (accepted_at us) l.definitions.items)
    (log-kept l us e c.self.invariant).signature (ap (map (sequent_at us)) c.deref-3.ensures.value ∙ there.are) in
    definition-kept l c.self.invariant c.args.self.now c.self.view_is a c.requires.definition
    c.requires.theorems us e c.in_ok-within.within within c.if-not-within.false c.in_ok-copies.copies.items
    same c.put_all.new.items.items c.put_last.new.items.items sequents definitions
    c.are_statements_within.new.typings.known.entries c.accept.new.self
    c.are_statements_within.ensures.known c.in_ok-copies.ensures.has signature

pub returns : goal.returns
returns c =
    let l = c.self.inside in
    let a : Accepted = record { definition = c.args.definition; theorems = c.args.theorems } in
    let us = c.are_statements_within.new.nodes in
    let e = c.are_statements_within.ensures.extends in
    let within = c.in_ok-within.ensures.ok
    ∙ ap (λ qs. list_all (is_sequent_within names) (map (sequent_at l.nodes) qs)) c.deref.ensures.value in
    let same = c.in_ok-copies.ensures.same ∙ ap (map (sequent_at us)) c.deref-2.ensures.value in
    let sequents = c.put_all.ensures ∙ ap (λ xs. xs ++ c.in_ok-copies.copies.items) c.reserve.ensures.items in
    let definitions = c.put_last.ensures ∙ ap (λ xs. xs ++ a ∷ []) c.reserve-2.ensures.items in
    definition-added l c.self.invariant c.args.self.now c.self.view_is a c.requires.definition
    c.requires.theorems us e c.in_ok-within.within within c.if-not-within.false c.in_ok-copies.copies.items
    same c.put_all.new.items.items c.put_last.new.items.items sequents definitions
