use Rattle.std.proofs.Common.{◌∙◌, [], ◌∷◌, ◌++◌, ap}
use Rattle.ot_verify.proofs.Logging.{held_of, log-kept, with-typings}
use Rattle.ot_verify.proofs.Keeping.{whole-same, assumed-typed, assumed-there, assumption-kept, assumption-added}
use Rattle.ot_verify.proofs.log.Log.add_assumption.Goals as goal

pub is_statement_within-requires-clause-typed : goal.is_statement_within-requires-clause-typed
is_statement_within-requires-clause-typed c =
    assumed-typed c.self.inside c.self.invariant c.args.self.now c.self.view_is c.args.hyps.now
    c.args.concl c.args.statement c.requires.hyps c.requires.concl c.requires.gives

pub invariant_of-self : goal.invariant_of-self
invariant_of-self c =
    with-typings c.self.inside c.is_statement_within.new.nodes c.is_statement_within.new.typings.known.entries
    (log-kept c.self.inside c.is_statement_within.new.nodes c.is_statement_within.ensures.extends c.self.invariant)
    c.is_statement_within.ensures.known

pub invariant_of-self-then-not-within : goal.invariant_of-self-then-not-within
invariant_of-self-then-not-within c =
    with-typings c.self.inside c.is_statement_within.new.nodes c.is_statement_within.new.typings.known.entries
    (log-kept c.self.inside c.is_statement_within.new.nodes c.is_statement_within.ensures.extends c.self.invariant)
    c.is_statement_within.ensures.known

pub invariant_of-self-in_err-reserve : goal.invariant_of-self-in_err-reserve
invariant_of-self-in_err-reserve c =
    let l = c.self.inside in
    let us = c.is_statement_within.new.nodes in
    let k = log-kept l us c.is_statement_within.ensures.extends c.self.invariant in
    whole-same l us (record (held_of l) { sequents = c.reserve.new.self.items })
    c.is_statement_within.new.typings.known.entries l.signature l.assumptions l.results
    (λ i. record (held_of l) { sequents = c.reserve.ensures.items i }) k
    c.is_statement_within.ensures.known k.signature k.assumptions k.results

pub keep-requires-clause-all : goal.keep-requires-clause-all
keep-requires-clause-all c =
    (log-kept c.self.inside c.is_statement_within.new.nodes
    c.is_statement_within.ensures.extends c.self.invariant).log.assumptions

pub keep-requires-clause-statement : goal.keep-requires-clause-statement
keep-requires-clause-statement c =
    assumed-there c.self.inside c.self.invariant c.args.self.now c.self.view_is c.args.hyps.now c.args.concl
    c.args.statement
    c.requires.hyps c.requires.concl c.requires.gives c.is_statement_within.new.nodes
    c.is_statement_within.ensures.extends

pub invariant_of-self-in_err-keep : goal.invariant_of-self-in_err-keep
invariant_of-self-in_err-keep c =
    let l = c.self.inside in
    let us = c.is_statement_within.new.nodes in
    let k = log-kept l us c.is_statement_within.ensures.extends c.self.invariant in
    whole-same l us
    (record (held_of l) { sequents = c.reserve.new.self.items; assumptions = c.keep.new.self.statements.items })
    c.is_statement_within.new.typings.known.entries l.signature c.keep.new.self l.results
    (λ i. record (held_of l) { sequents = c.reserve.ensures.items i; assumptions = c.in_err-keep.ensures.err i })
    k c.is_statement_within.ensures.known k.signature c.keep.ensures.kept k.results

pub invariant_of-self-2 : goal.invariant_of-self-2
invariant_of-self-2 c =
    let items = c.put_last.ensures ∙ ap (λ xs. xs ++ c.args.statement ∷ []) c.reserve.ensures.items in
    assumption-kept c.self.inside c.self.invariant c.args.self.now c.self.view_is c.args.hyps.now c.args.concl
    c.args.statement
    c.requires.hyps c.requires.concl c.requires.gives c.is_statement_within.new.nodes
    c.is_statement_within.ensures.extends
    c.in_ok-within.within c.in_ok-within.ensures.ok c.keep.new.self c.put_last.new.items.items
    c.if-not-within.false items c.in_ok-keep.ensures.ok c.is_statement_within.new.typings.known.entries
    c.is_statement_within.ensures.known c.keep.ensures.kept c.keep.ensures.all

pub returns : goal.returns
returns c =
    let items = c.put_last.ensures ∙ ap (λ xs. xs ++ c.args.statement ∷ []) c.reserve.ensures.items in
    assumption-added c.self.inside c.self.invariant c.args.self.now c.self.view_is c.args.hyps.now c.args.concl
    c.args.statement
    c.requires.hyps c.requires.concl c.requires.gives c.is_statement_within.new.nodes
    c.is_statement_within.ensures.extends
    c.in_ok-within.within c.in_ok-within.ensures.ok c.keep.new.self
    c.put_last.new.items.items c.if-not-within.false items c.in_ok-keep.ensures.ok
