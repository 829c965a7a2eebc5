use Rattle.ot_verify.proofs.Logging.{held_of, log-kept, with-typings}
use Rattle.ot_verify.proofs.Keeping.{whole-same, statement-typed, statement-kept, statement-added}
use Rattle.ot_verify.proofs.log.Log.add_statement.Goals as goal

pub is_statement_within-requires-clause-typed : goal.is_statement_within-requires-clause-typed
is_statement_within-requires-clause-typed c =
    statement-typed c.self.inside c.self.invariant c.args.self.now c.self.view_is c.args.statement c.requires

pub invariant_of-self : goal.invariant_of-self
invariant_of-self c =
    with-typings c.self.inside c.is_statement_within.new.nodes c.is_statement_within.new.typings.known.entries
    (log-kept c.self.inside c.is_statement_within.new.nodes c.is_statement_within.ensures.extends c.self.invariant)
    c.is_statement_within.ensures.known

pub invariant_of-self-then-not-within : goal.invariant_of-self-then-not-within
invariant_of-self-then-not-within c =
    with-typings c.self.inside c.is_statement_within.new.nodes c.is_statement_within.new.typings.known.entries
    (log-kept c.self.inside c.is_statement_within.new.nodes c.is_statement_within.ensures.extends c.self.invariant)
    c.is_statement_within.ensures.known

pub invariant_of-self-in_err-push : goal.invariant_of-self-in_err-push
invariant_of-self-in_err-push c =
    let l = c.self.inside in
    let us = c.is_statement_within.new.nodes in
    let k = log-kept l us c.is_statement_within.ensures.extends c.self.invariant in
    whole-same l us (record (held_of l) { sequents = c.push.new.self.items })
    c.is_statement_within.new.typings.known.entries l.signature l.assumptions l.results
    (λ i. record (held_of l) { sequents = c.in_err-push.ensures.items i }) k
    c.is_statement_within.ensures.known k.signature k.assumptions k.results

pub invariant_of-self-2 : goal.invariant_of-self-2
invariant_of-self-2 c =
    statement-kept c.self.inside c.self.invariant c.args.self.now c.self.view_is c.args.statement c.requires
    c.is_statement_within.new.nodes c.is_statement_within.ensures.extends
    c.is_statement_within.new.typings.known.entries
    c.push.new.self.items c.is_statement_within.ensures.known c.in_ok-push.ensures.items

pub returns : goal.returns
returns c =
    statement-added c.self.inside c.self.invariant c.args.self.now c.self.view_is c.args.statement
    c.requires c.is_statement_within.new.nodes c.is_statement_within.ensures.extends c.in_ok-within.within
    c.push.new.self.items c.in_ok-within.ensures.ok c.if-not-within.false c.in_ok-push.ensures.items
