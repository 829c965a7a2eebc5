use Rattle.std.specs.Prelude.{Err}
use Rattle.std.proofs.Common.{◌∙◌, ℕ, List, sym, ap, subst}
use Rattle.ot_logic.specs.Naming.{names}
use Rattle.ot_laws.specs.Theorem.{IsTheorem}
use Rattle.ot_laws.proofs.Tests.{tells_names}
use Rattle.ot_log_format.specs.State.{makes_definition}
use Rattle.ot_log_format.specs.Steps.{constants_step}
use Rattle.ot_log_format.proofs.DefinitionSound.{constants-acceptable}
use Rattle.ot_log_nodes.specs.declared.node.VariableNode.{VariableNode}
use Rattle.ot_log_rules.specs.Limits.{AreWellTyped}
use Rattle.ot_log_rules.specs.Statements.{sequent_at}
use Rattle.ot_logic.specs.Trees.{ListDef}
use Rattle.ot_log_rules.specs.Definitions.{definition_at, pairs_at, HasPairs, Defines}
use Rattle.ot_log_rules.specs.declared.definition.Definition as code
use Rattle.ot_log_rules.specs.declared.definition.Definition.TheVariants as kind
use Rattle.ot_log_rules.proofs.Staying.{still-definition}
use Rattle.ot_verify.specs.Asking.{AreEach}
use Rattle.ot_verify.specs.Finding.{FindsEach, IsFoundConstantPair}
use Rattle.ot_verify.specs.Held.{state_of, view_of}
use Rattle.ot_verify.specs.Logged.{MadeBy}
use Rattle.ot_verify.proofs.Adding.{sequent-typed}
use Rattle.ot_verify.proofs.Defining.{Steps, copy-same, copy-held, made-definition, establishes, defines-grown}
use Rattle.ot_verify.proofs.Places.{missed}
use Rattle.ot_verify.proofs.Found.{constant_pairs-found, constant_pairs-there, constant_pairs-held}
use Rattle.ot_verify.proofs.Logging.{at-same, held_of, log-kept, state-then, sequent-here}
use Rattle.ot_verify.proofs.Logging.{no-sequent, theorem-here, theorem-now, statement-here}
use Rattle.ot_verify.proofs.log.Log.define_constants.Goals as goal

pub returns-in_err-pairs : goal.returns-in_err-pairs
returns-in_err-pairs c = λ ps a h k.
    let l = c.self.inside in
    missed (IsFoundConstantPair l.nodes l.types.items) c.in_err-pairs.field-0.0 c.args.pairs.now
    (makes_definition names (λ dl. constants_step names dl ps a)) c.args.self.now.state _
    c.from_residual.result c.from_residual.ensures.1
    (subst
    (λ (is : List ℕ). FindsEach {Y = ℕ × VariableNode} (IsFoundConstantPair l.nodes is) (Err c.in_err-pairs.field-0.0)
    c.args.pairs.now)
    c.deref.ensures.value c.in_err-pairs.ensures)
    (constant_pairs-there l c.args.self.now c.self.view_is c.self.invariant c.args.pairs.now ps h)

pub returns-in_err-from : goal.returns-in_err-from
returns-in_err-from c =
    λ ps a h k. absurd (no-sequent c.self.inside c.args.self.now c.self.view_is
    c.args.premise a (at-same _ _ _ _ c.deref-2.ensures.value c.in_err-from.ensures.1) k)

pub constants-made-requires-clause-pairs : goal.constants-made-requires-clause-pairs
constants-made-requires-clause-pairs c =
    let l = c.self.inside in
    let found = subst
    (λ (is : List ℕ). AreEach (IsFoundConstantPair l.nodes is) c.args.pairs.now c.in_ok-pairs.pairs.items)
    c.deref.ensures.value c.in_ok-pairs.ensures in
    subst (HasPairs l.nodes) (sym c.deref-3.ensures.value)
    (constant_pairs-held l c.args.self.now c.self.view_is c.self.invariant c.args.pairs.now
    c.in_ok-pairs.pairs.items found)

pub constants-made-requires-clause-premise : goal.constants-made-requires-clause-premise
constants-made-requires-clause-premise c =
    let l = c.self.inside in
    copy-held l.nodes c.in_ok-from.from.now c.in_ok-premise.premise c.in_ok-premise.ensures.0
    c.in_ok-premise.ensures.1
    (statement-here l c.self.invariant c.args.premise c.in_ok-from.from.now
    (at-same _ _ _ _ c.deref-2.ensures.value c.in_ok-from.ensures))

pub constants-made-requires-clause-typed : goal.constants-made-requires-clause-typed
constants-made-requires-clause-typed c =
    let l = c.self.inside in
    let same = copy-same l.nodes c.in_ok-from.from.now c.in_ok-premise.premise
    c.in_ok-premise.ensures.0 c.in_ok-premise.ensures.1 in
    let follows = theorem-now l c.self.invariant c.args.premise c.in_ok-from.from.now
    (at-same _ _ _ _ c.deref-2.ensures.value c.in_ok-from.ensures) in
    subst AreWellTyped (sym same) (sequent-typed (sequent_at l.nodes c.in_ok-from.from.now) follows.sequent)

pub invariant_of-self : goal.invariant_of-self
invariant_of-self c = log-kept c.self.inside c.constants-made.new.nodes c.constants-made.ensures.extends
    c.self.invariant

pub add_definition-requires-clause-definition : goal.add_definition-requires-clause-definition
add_definition-requires-clause-definition c =
    let l = c.self.inside in
    let found = subst
    (λ (is : List ℕ). AreEach (IsFoundConstantPair l.nodes is) c.args.pairs.now c.in_ok-pairs.pairs.items)
    c.deref.ensures.value c.in_ok-pairs.ensures in
    let pairs = constant_pairs-held l c.args.self.now c.self.view_is
    c.self.invariant c.args.pairs.now c.in_ok-pairs.pairs.items found in
    let premise = copy-held l.nodes c.in_ok-from.from.now
    c.in_ok-premise.premise c.in_ok-premise.ensures.0 c.in_ok-premise.ensures.1
    (statement-here l c.self.invariant c.args.premise c.in_ok-from.from.now
    (at-same _ _ _ _ c.deref-2.ensures.value c.in_ok-from.ensures))
    in
    still-definition l.nodes c.constants-made.new.nodes c.constants-made.ensures.extends
    (kind.Constants c.in_ok-pairs.pairs c.in_ok-premise.premise) (pairs, premise)

pub add_definition-requires-clause-made : goal.add_definition-requires-clause-made
add_definition-requires-clause-made c =
    let l = c.self.inside in
    let us = c.constants-made.new.nodes in
    let mid = view_of us (held_of l) in
    let d : code.Definition = kind.Constants c.in_ok-pairs.pairs c.in_ok-premise.premise in
    let at = at-same _ _ _ _ c.deref-2.ensures.value c.in_ok-from.ensures in
    let found = subst
    (λ (is : List ℕ). AreEach (IsFoundConstantPair l.nodes is) c.args.pairs.now c.in_ok-pairs.pairs.items)
    c.deref.ensures.value c.in_ok-pairs.ensures in
    let pairs = constant_pairs-held l c.args.self.now c.self.view_is
    c.self.invariant c.args.pairs.now c.in_ok-pairs.pairs.items found in
    let premise = copy-held l.nodes c.in_ok-from.from.now c.in_ok-premise.premise c.in_ok-premise.ensures.0
    c.in_ok-premise.ensures.1 (statement-here l c.self.invariant c.args.premise c.in_ok-from.from.now at) in
    let same = copy-same l.nodes c.in_ok-from.from.now c.in_ok-premise.premise
    c.in_ok-premise.ensures.0 c.in_ok-premise.ensures.1 in
    let ps = pairs_at l.nodes c.deref-3.result.now in
    let q = sequent_at l.nodes c.in_ok-premise.premise in
    let case : Steps = λ dl. constants_step names dl ps q in
    let defines = c.constants-made.ensures.defines (state_of l.nodes (held_of l)).definitions
    c.self.invariant.signature in
    let given = subst
    (λ xs. Defines c.constants-made.result (ListDef (pairs_at l.nodes xs) q)
    (case (state_of l.nodes (held_of l)).definitions) us)
    c.deref-3.ensures.value defines in
    let grown = defines-grown l us c.constants-made.ensures.extends
    c.self.invariant d (pairs, premise) c.constants-made.result case given in
    let first = theorem-here l us c.constants-made.ensures.extends c.self.invariant c.args.premise
    c.in_ok-from.from.now at in
    let theorem = subst (IsTheorem names mid.state.assumptions mid.state.definitions) (sym same) first in
    establishes c.constants-made.result (definition_at us d) case mid grown
    (λ r h. constants-acceptable names tells_names mid.state.assumptions mid.state.definitions ps q r theorem h)

pub returns : goal.returns
returns c = λ ps a h k.
    let l = c.self.inside in
    let us = c.constants-made.new.nodes in
    let now = c.args.self.now in
    let mid = view_of us (held_of l) in
    let d : code.Definition = kind.Constants c.in_ok-pairs.pairs c.in_ok-premise.premise in
    let at = at-same _ _ _ _ c.deref-2.ensures.value c.in_ok-from.ensures in
    let found = subst
    (λ (is : List ℕ). AreEach (IsFoundConstantPair l.nodes is) c.args.pairs.now c.in_ok-pairs.pairs.items)
    c.deref.ensures.value c.in_ok-pairs.ensures in
    let pairs = constant_pairs-held l now c.self.view_is c.self.invariant c.args.pairs.now c.in_ok-pairs.pairs.items
    found in
    let premise = copy-held l.nodes c.in_ok-from.from.now c.in_ok-premise.premise c.in_ok-premise.ensures.0
    c.in_ok-premise.ensures.1 (statement-here l c.self.invariant c.args.premise c.in_ok-from.from.now at) in
    let same = copy-same l.nodes c.in_ok-from.from.now c.in_ok-premise.premise
    c.in_ok-premise.ensures.0 c.in_ok-premise.ensures.1 in
    let q = sequent_at l.nodes c.in_ok-premise.premise in
    let case : Steps = λ dl. constants_step names dl (pairs_at l.nodes c.deref-3.result.now) q in
    let defines = c.constants-made.ensures.defines (state_of l.nodes (held_of l)).definitions
    c.self.invariant.signature in
    let given = subst
    (λ xs. Defines c.constants-made.result (ListDef (pairs_at l.nodes xs) q)
    (case (state_of l.nodes (held_of l)).definitions) us)
    c.deref-3.ensures.value defines in
    let grown = defines-grown l us c.constants-made.ensures.extends
    c.self.invariant d (pairs, premise) c.constants-made.result case given in
    let is_ps = ap (pairs_at l.nodes) c.deref-3.ensures.value
    ∙ constant_pairs-found l now c.self.view_is c.self.invariant c.args.pairs.now c.in_ok-pairs.pairs.items ps
    found h in
    let is_a = same ∙ sequent-here l now c.self.view_is c.args.premise c.in_ok-from.from.now a at k in
    subst (λ (z : Steps). MadeBy c.add_definition.result (makes_definition names z) now.state
    c.add_definition.new.self.state)
    (λ i dl. constants_step names dl (is_ps i) (is_a i))
    (made-definition c.constants-made.result (definition_at us d) case c.add_definition.result now.state mid
    c.add_definition.new.self (state-then l us now c.self.view_is c.constants-made.ensures.extends c.self.invariant)
    grown c.add_definition.ensures)
