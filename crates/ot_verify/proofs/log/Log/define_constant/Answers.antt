use Rattle.std.proofs.Common.{◌∙◌, true≢false, sym, subst}
use Rattle.ot_logic.specs.Naming.{names}
use Rattle.ot_laws.proofs.Tests.{tells_names}
use Rattle.ot_log_format.specs.State.{makes_definition}
use Rattle.ot_log_format.specs.Steps.{constant_step}
use Rattle.ot_log_format.proofs.DefinitionSound.{constant-acceptable}
use Rattle.ot_log_nodes.specs.Items.{name_at, term_at}
use Rattle.ot_log_nodes.proofs.ItemLemmas.{has-name, name-is}
use Rattle.ot_log_rules.specs.Definitions.{definition_at}
use Rattle.ot_log_rules.specs.declared.definition.Definition as code
use Rattle.ot_log_rules.specs.declared.definition.Definition.TheVariants as kind
use Rattle.ot_log_rules.proofs.Staying.{still-definition}
use Rattle.ot_verify.specs.Held.{state_of, view_of}
use Rattle.ot_verify.specs.Logged.{MadeBy}
use Rattle.ot_verify.proofs.Defining.{Steps, made-definition, establishes, defines-grown}
use Rattle.ot_verify.proofs.Logging.{at-same, held_of, log-kept, with-typings, state-then}
use Rattle.ot_verify.proofs.Logging.{named-here, term-here, held-here, no-term}
use Rattle.ot_verify.proofs.log.Log.define_constant.Goals as goal

pub returns-then-not-has_name : goal.returns-then-not-has_name
returns-then-not-has_name c = λ n t h k.
    let l = c.self.inside in
    absurd (true≢false (sym (c.has_name.ensures.1 (has-name l.nodes c.args.name
    n (named-here l c.args.self.now c.self.view_is c.args.name n h)))
    ∙ c.if-not-has_name.true))

pub returns-in_err-term : goal.returns-in_err-term
returns-in_err-term c =
    λ n t h k. absurd (no-term c.self.inside c.args.self.now c.self.view_is
    c.args.term t (at-same _ _ _ _ c.deref.ensures.value c.in_err-term.ensures.1) k)

pub constant-made-requires-clause-name : goal.constant-made-requires-clause-name
constant-made-requires-clause-name c = c.has_name.ensures.0 c.if-not-has_name.false

pub constant-made-requires-clause-term : goal.constant-made-requires-clause-term
constant-made-requires-clause-term c =
    held-here c.self.inside c.self.invariant c.args.term c.in_ok-term.field-0.now
    (at-same _ _ _ _ c.deref.ensures.value c.in_ok-term.ensures)

pub constant-made-requires-clause-known : goal.constant-made-requires-clause-known
constant-made-requires-clause-known c = c.self.invariant.typings

pub invariant_of-self : goal.invariant_of-self
invariant_of-self c =
    with-typings c.self.inside c.constant-made.new.nodes c.constant-made.new.typings.known.entries
    (log-kept c.self.inside c.constant-made.new.nodes c.constant-made.ensures.extends c.self.invariant)
    c.constant-made.ensures.known

pub add_definition-requires-clause-definition : goal.add_definition-requires-clause-definition
add_definition-requires-clause-definition c =
    let l = c.self.inside in
    let term = held-here l c.self.invariant c.args.term c.in_ok-term.field-0.now
    (at-same _ _ _ _ c.deref.ensures.value c.in_ok-term.ensures) in
    still-definition l.nodes c.constant-made.new.nodes c.constant-made.ensures.extends
    (kind.Constant c.args.name c.in_ok-term.field-0.now) (c.has_name.ensures.0 c.if-not-has_name.false, term)

pub add_definition-requires-clause-made : goal.add_definition-requires-clause-made
add_definition-requires-clause-made c =
    let l = c.self.inside in
    let us = c.constant-made.new.nodes in
    let mid = view_of us (held_of l) in
    let d : code.Definition = kind.Constant c.args.name c.in_ok-term.field-0.now in
    let term = held-here l c.self.invariant c.args.term c.in_ok-term.field-0.now
    (at-same _ _ _ _ c.deref.ensures.value c.in_ok-term.ensures) in
    let n = name_at l.nodes c.args.name in
    let t = term_at l.nodes c.in_ok-term.field-0.now in
    let case : Steps = λ dl. constant_step names dl n t in
    let defines = c.constant-made.ensures.defines (state_of l.nodes (held_of l)).definitions
    c.self.invariant.signature in
    let grown = defines-grown l us c.constant-made.ensures.extends c.self.invariant d
    (c.has_name.ensures.0 c.if-not-has_name.false, term) c.constant-made.result case defines in
    establishes c.constant-made.result (definition_at us d) case mid grown
    (λ q h. constant-acceptable names tells_names mid.state.assumptions mid.state.definitions n t q h)

pub returns : goal.returns
returns c = λ n t h k.
    let l = c.self.inside in
    let us = c.constant-made.new.nodes in
    let now = c.args.self.now in
    let mid = view_of us (held_of l) in
    let d : code.Definition = kind.Constant c.args.name c.in_ok-term.field-0.now in
    let at = at-same _ _ _ _ c.deref.ensures.value c.in_ok-term.ensures in
    let term = held-here l c.self.invariant c.args.term c.in_ok-term.field-0.now at in
    let case : Steps =
    λ dl. constant_step names dl (name_at l.nodes c.args.name) (term_at l.nodes c.in_ok-term.field-0.now) in
    let defines = c.constant-made.ensures.defines (state_of l.nodes (held_of l)).definitions
    c.self.invariant.signature in
    let grown = defines-grown l us c.constant-made.ensures.extends c.self.invariant d
    (c.has_name.ensures.0 c.if-not-has_name.false, term) c.constant-made.result case defines in
    let name = name-is l.nodes c.args.name n (named-here l now c.self.view_is c.args.name n h) in
    let here = term-here l now c.self.view_is c.args.term c.in_ok-term.field-0.now t at k in
    subst (λ (z : Steps). MadeBy c.add_definition.result (makes_definition names z) now.state
    c.add_definition.new.self.state)
    (λ i dl. constant_step names dl (name i) (here i))
    (made-definition c.constant-made.result (definition_at us d) case c.add_definition.result now.state mid
    c.add_definition.new.self (state-then l us now c.self.view_is c.constant-made.ensures.extends c.self.invariant)
    grown c.add_definition.ensures)
