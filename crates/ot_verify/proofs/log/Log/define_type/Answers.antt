use Rattle.std.specs.List.{All}
use Rattle.std.proofs.Common.{◌∙◌, true≢false, sym, ap, subst}
use Rattle.ot_logic.specs.Naming.{names}
use Rattle.ot_logic.specs.Trees.{TyDef}
use Rattle.ot_laws.specs.Theorem.{IsTheorem}
use Rattle.ot_laws.proofs.Tests.{tells_names}
use Rattle.ot_log_format.specs.State.{makes_definition}
use Rattle.ot_log_format.specs.Steps.{type_operator_step}
use Rattle.ot_log_format.proofs.DefinitionSound.{type_operator-acceptable}
use Rattle.ot_log_nodes.specs.Items.{HasName, name_at}
use Rattle.ot_log_nodes.proofs.ItemLemmas.{has-name, name-is}
use Rattle.ot_log_rules.specs.Limits.{AreWellTyped}
use Rattle.ot_log_rules.specs.Statements.{sequent_at}
use Rattle.ot_log_rules.specs.Definitions.{definition_at, HasDefinition, names_at, Defines}
use Rattle.ot_log_rules.specs.declared.definition.Definition as code
use Rattle.ot_log_rules.specs.declared.definition.Definition.TheVariants as kind
use Rattle.ot_log_rules.proofs.Staying.{still-definition}
use Rattle.ot_verify.specs.Held.{state_of, view_of}
use Rattle.ot_verify.specs.Logged.{MadeBy}
use Rattle.ot_verify.proofs.Adding.{sequent-typed}
use Rattle.ot_verify.proofs.Defining.{Steps, copy-same, copy-held, made-definition, establishes, defines-grown}
use Rattle.ot_verify.proofs.Found.{names-found, names-held}
use Rattle.ot_verify.proofs.Logging.{at-same, held_of, log-kept, with-typings, state-then, named-here}
use Rattle.ot_verify.proofs.Logging.{sequent-here, no-sequent, theorem-here, theorem-now, statement-here}
use Rattle.ot_verify.proofs.log.Log.define_type.Goals as goal

pub returns-then-not-has_name : goal.returns-then-not-has_name
returns-then-not-has_name c = λ n b r vs a h i j k m.
    let l = c.self.inside in
    absurd (true≢false (sym (c.has_name.ensures.1 (has-name l.nodes c.args.name
    n (named-here l c.args.self.now c.self.view_is c.args.name n h)))
    ∙ c.if-not-has_name.true))

pub returns-then-not-has_name-2 : goal.returns-then-not-has_name-2
returns-then-not-has_name-2 c = λ n b r vs a h i j k m.
    let l = c.self.inside in
    absurd (true≢false (sym (c.has_name-2.ensures.1 (has-name l.nodes c.args.abs
    b (named-here l c.args.self.now c.self.view_is c.args.abs b i)))
    ∙ c.if-not-has_name-2.true))

pub returns-then-not-has_name-3 : goal.returns-then-not-has_name-3
returns-then-not-has_name-3 c = λ n b r vs a h i j k m.
    let l = c.self.inside in
    absurd (true≢false (sym (c.has_name-3.ensures.1 (has-name l.nodes c.args.rep
    r (named-here l c.args.self.now c.self.view_is c.args.rep r j)))
    ∙ c.if-not-has_name-3.true))

pub returns-then-not-are_names : goal.returns-then-not-are_names
returns-then-not-are_names c = λ n b r vs a h i j k m.
    absurd (true≢false (sym (c.are_names.ensures.1 (names-held c.self.inside
    c.args.self.now c.self.view_is c.self.invariant c.args.vars.now vs k))
    ∙ c.if-not-are_names.true))

pub returns-in_err-from : goal.returns-in_err-from
returns-in_err-from c =
    λ n b r vs a h i j k m. absurd (no-sequent c.self.inside c.args.self.now c.self.view_is
    c.args.premise a (at-same _ _ _ _ c.deref.ensures.value c.in_err-from.ensures.1) m)

pub type_operator-made-requires-clause-name : goal.type_operator-made-requires-clause-name
type_operator-made-requires-clause-name c = c.has_name.ensures.0 c.if-not-has_name.false

pub type_operator-made-requires-clause-abs : goal.type_operator-made-requires-clause-abs
type_operator-made-requires-clause-abs c = c.has_name-2.ensures.0 c.if-not-has_name-2.false

pub type_operator-made-requires-clause-rep : goal.type_operator-made-requires-clause-rep
type_operator-made-requires-clause-rep c = c.has_name-3.ensures.0 c.if-not-has_name-3.false

pub type_operator-made-requires-clause-vars : goal.type_operator-made-requires-clause-vars
type_operator-made-requires-clause-vars c =
    let l = c.self.inside in
    subst (All (HasName l.nodes)) (sym c.in_ok-vars.ensures.items ∙ sym c.deref-2.ensures.value)
    (c.are_names.ensures.0 c.if-not-are_names.false)

pub type_operator-made-requires-clause-premise : goal.type_operator-made-requires-clause-premise
type_operator-made-requires-clause-premise c =
    let l = c.self.inside in
    copy-held l.nodes c.in_ok-from.from.now c.in_ok-premise.premise c.in_ok-premise.ensures.0
    c.in_ok-premise.ensures.1
    (statement-here l c.self.invariant c.args.premise c.in_ok-from.from.now
    (at-same _ _ _ _ c.deref.ensures.value c.in_ok-from.ensures))

pub type_operator-made-requires-clause-typed : goal.type_operator-made-requires-clause-typed
type_operator-made-requires-clause-typed c =
    let l = c.self.inside in
    let same = copy-same l.nodes c.in_ok-from.from.now c.in_ok-premise.premise
    c.in_ok-premise.ensures.0 c.in_ok-premise.ensures.1 in
    let follows = theorem-now l c.self.invariant c.args.premise c.in_ok-from.from.now
    (at-same _ _ _ _ c.deref.ensures.value c.in_ok-from.ensures) in
    subst AreWellTyped (sym same) (sequent-typed (sequent_at l.nodes c.in_ok-from.from.now) follows.sequent)

pub type_operator-made-requires-clause-known : goal.type_operator-made-requires-clause-known
type_operator-made-requires-clause-known c = c.self.invariant.typings

pub invariant_of-self : goal.invariant_of-self
invariant_of-self c =
    with-typings c.self.inside c.type_operator-made.new.nodes c.type_operator-made.new.typings.known.entries
    (log-kept c.self.inside c.type_operator-made.new.nodes c.type_operator-made.ensures.extends c.self.invariant)
    c.type_operator-made.ensures.known

pub add_definition-requires-clause-definition : goal.add_definition-requires-clause-definition
add_definition-requires-clause-definition c =
    let l = c.self.inside in
    let us = c.type_operator-made.new.nodes in
    let e = c.type_operator-made.ensures.extends in
    let at = at-same _ _ _ _ c.deref.ensures.value c.in_ok-from.ensures in
    let premise = copy-held l.nodes c.in_ok-from.from.now c.in_ok-premise.premise c.in_ok-premise.ensures.0
    c.in_ok-premise.ensures.1 (statement-here l c.self.invariant c.args.premise c.in_ok-from.from.now at) in
    let vars = subst (All (HasName l.nodes)) (sym c.in_ok-vars.ensures.items)
    (c.are_names.ensures.0 c.if-not-are_names.false) in
    let d : code.Definition =
    kind.TypeOperator c.args.name c.args.abs c.args.rep c.in_ok-vars.vars c.in_ok-premise.premise in
    let has : HasDefinition l.nodes d = (
      c.has_name.ensures.0 c.if-not-has_name.false,
      c.has_name-2.ensures.0 c.if-not-has_name-2.false,
      c.has_name-3.ensures.0 c.if-not-has_name-3.false,
      vars,
      premise,
    ) in
    still-definition l.nodes us e d has

pub add_definition-requires-clause-made : goal.add_definition-requires-clause-made
add_definition-requires-clause-made c =
    let l = c.self.inside in
    let us = c.type_operator-made.new.nodes in
    let e = c.type_operator-made.ensures.extends in
    let at = at-same _ _ _ _ c.deref.ensures.value c.in_ok-from.ensures in
    let premise = copy-held l.nodes c.in_ok-from.from.now c.in_ok-premise.premise c.in_ok-premise.ensures.0
    c.in_ok-premise.ensures.1 (statement-here l c.self.invariant c.args.premise c.in_ok-from.from.now at) in
    let vars = subst (All (HasName l.nodes)) (sym c.in_ok-vars.ensures.items)
    (c.are_names.ensures.0 c.if-not-are_names.false) in
    let d : code.Definition =
    kind.TypeOperator c.args.name c.args.abs c.args.rep c.in_ok-vars.vars c.in_ok-premise.premise in
    let has : HasDefinition l.nodes d = (
      c.has_name.ensures.0 c.if-not-has_name.false,
      c.has_name-2.ensures.0 c.if-not-has_name-2.false,
      c.has_name-3.ensures.0 c.if-not-has_name-3.false,
      vars,
      premise,
    ) in
    let mid = view_of us (held_of l) in
    let same = copy-same l.nodes c.in_ok-from.from.now c.in_ok-premise.premise
    c.in_ok-premise.ensures.0 c.in_ok-premise.ensures.1 in
    let n0 = name_at l.nodes c.args.name in
    let b0 = name_at l.nodes c.args.abs in
    let r0 = name_at l.nodes c.args.rep in
    let vs0 = names_at l.nodes c.deref-2.result.now in
    let q = sequent_at l.nodes c.in_ok-premise.premise in
    let case : Steps = λ dl. type_operator_step names dl n0 b0 r0 vs0 q in
    let defines = c.type_operator-made.ensures.defines (state_of l.nodes (held_of l)).definitions
    c.self.invariant.signature in
    let given = subst (λ xs. Defines c.type_operator-made.result
    (TyDef n0 b0 r0 (names_at l.nodes xs) q) (case (state_of l.nodes (held_of l)).definitions) us)
    c.deref-2.ensures.value defines in
    let grown = defines-grown l us e c.self.invariant d has c.type_operator-made.result case given in
    let first = theorem-here l us e c.self.invariant c.args.premise c.in_ok-from.from.now at in
    let theorem = subst (IsTheorem names mid.state.assumptions mid.state.definitions) (sym same) first in
    establishes c.type_operator-made.result (definition_at us d) case mid grown
    (λ z h. type_operator-acceptable names tells_names mid.state.assumptions mid.state.definitions n0 b0 r0 vs0 q z
    theorem h)

pub returns : goal.returns
returns c = λ n b r vs a h i j k m.
    let l = c.self.inside in
    let us = c.type_operator-made.new.nodes in
    let e = c.type_operator-made.ensures.extends in
    let at = at-same _ _ _ _ c.deref.ensures.value c.in_ok-from.ensures in
    let premise = copy-held l.nodes c.in_ok-from.from.now c.in_ok-premise.premise c.in_ok-premise.ensures.0
    c.in_ok-premise.ensures.1 (statement-here l c.self.invariant c.args.premise c.in_ok-from.from.now at) in
    let vars = subst (All (HasName l.nodes)) (sym c.in_ok-vars.ensures.items)
    (c.are_names.ensures.0 c.if-not-are_names.false) in
    let d : code.Definition =
    kind.TypeOperator c.args.name c.args.abs c.args.rep c.in_ok-vars.vars c.in_ok-premise.premise in
    let has : HasDefinition l.nodes d = (
      c.has_name.ensures.0 c.if-not-has_name.false,
      c.has_name-2.ensures.0 c.if-not-has_name-2.false,
      c.has_name-3.ensures.0 c.if-not-has_name-3.false,
      vars,
      premise,
    ) in
    let mid = view_of us (held_of l) in
    let same = copy-same l.nodes c.in_ok-from.from.now c.in_ok-premise.premise
    c.in_ok-premise.ensures.0 c.in_ok-premise.ensures.1 in
    let n0 = name_at l.nodes c.args.name in
    let b0 = name_at l.nodes c.args.abs in
    let r0 = name_at l.nodes c.args.rep in
    let vs0 = names_at l.nodes c.deref-2.result.now in
    let q = sequent_at l.nodes c.in_ok-premise.premise in
    let case : Steps = λ dl. type_operator_step names dl n0 b0 r0 vs0 q in
    let defines = c.type_operator-made.ensures.defines (state_of l.nodes (held_of l)).definitions
    c.self.invariant.signature in
    let given = subst (λ xs. Defines c.type_operator-made.result
    (TyDef n0 b0 r0 (names_at l.nodes xs) q) (case (state_of l.nodes (held_of l)).definitions) us)
    c.deref-2.ensures.value defines in
    let grown = defines-grown l us e c.self.invariant d has c.type_operator-made.result case given in
    let now = c.args.self.now in
    let is_n = name-is l.nodes c.args.name n (named-here l now c.self.view_is c.args.name n h) in
    let is_b = name-is l.nodes c.args.abs b (named-here l now c.self.view_is c.args.abs b i) in
    let is_r = name-is l.nodes c.args.rep r (named-here l now c.self.view_is c.args.rep r j) in
    let is_vs = ap (names_at l.nodes) (c.deref-2.ensures.value ∙ c.in_ok-vars.ensures.items)
    ∙ names-found l now c.self.view_is c.self.invariant c.args.vars.now vs k in
    let is_a = same ∙ sequent-here l now c.self.view_is c.args.premise c.in_ok-from.from.now a at m in
    subst (λ (z : Steps). MadeBy c.add_definition.result (makes_definition names z) now.state
    c.add_definition.new.self.state)
    (λ i dl. type_operator_step names dl (is_n i) (is_b i) (is_r i) (is_vs i) (is_a i))
    (made-definition c.type_operator-made.result (definition_at us d) case c.add_definition.result now.state mid
    c.add_definition.new.self (state-then l us now c.self.view_is e c.self.invariant) grown c.add_definition.ensures)
