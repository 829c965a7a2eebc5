use Rattle.std.proofs.Common.{◌∙◌, ap, subst}
use Rattle.ot_logic.specs.Naming.{names}
use Rattle.std.specs.List.{All}
use Rattle.std.proofs.Common.{ℕ, List}
use Rattle.std.proofs.Common.{true≢false, sym}
use Rattle.ot_logic.specs.Trees.{TyOp}
use Rattle.std.proofs.Common.{Err}
use Rattle.ot_log_format.specs.Records.{arguments}
use Rattle.ot_log_format.specs.State.{makes_type}
use Rattle.ot_verify.specs.Finding.{FindsEach}
use Rattle.ot_verify.proofs.Places.{missed}
use Rattle.ot_log_nodes.specs.Items.{HasType, types_at}
use Rattle.ot_log_nodes.proofs.ItemLemmas.{has-name, name-is, has-type, type-is}
use Rattle.ot_verify.specs.Asking.{IsAt, AreEach}
use Rattle.ot_verify.proofs.Found.{types-as, types-found, types-there, types-held}
use Rattle.ot_verify.proofs.Logging.{held_of, log-kept, state-then, named-here, made-type}
use Rattle.ot_log_nodes.specs.Items.{type_at}
use Rattle.ot_verify.specs.Held.{state_of}
use Rattle.ot_verify.proofs.log.Log.type_op.Goals as goal

pub returns-then-not-has_name : goal.returns-then-not-has_name
returns-then-not-has_name c = λ n ts h k.
    let l = c.self.inside in
    absurd (true≢false (sym (c.has_name.ensures.1 (has-name l.nodes c.args.name
    n (named-here l c.args.self.now c.self.view_is c.args.name n h)))
    ∙ c.if-not-has_name.true))

pub returns-in_err-args : goal.returns-in_err-args
returns-in_err-args c = λ n ts h k.
    let l = c.self.inside in
    let there = types-there l c.args.self.now c.self.view_is c.self.invariant c.args.args.now ts k in
    missed (IsAt l.types.items) c.in_err-args.field-0.0 c.args.args.now
    (makes_type names (TyOp n (arguments ts))) c.args.self.now.state _
    c.from_residual.result c.from_residual.ensures.1
    (subst (λ (is : List ℕ). FindsEach {Y = ℕ} (IsAt is) (Err c.in_err-args.field-0.0) c.args.args.now)
    c.deref.ensures.value c.in_err-args.ensures)
    there

pub type_op-requires-clause-name : goal.type_op-requires-clause-name
type_op-requires-clause-name c = c.has_name.ensures.0 c.if-not-has_name.false

pub type_op-requires-clause-args : goal.type_op-requires-clause-args
type_op-requires-clause-args c =
    let l = c.self.inside in
    let found = subst (λ (is : List ℕ). AreEach (IsAt is) c.args.args.now c.in_ok-args.args.items)
    c.deref.ensures.value c.in_ok-args.ensures in
    subst (All (HasType l.nodes)) (sym c.deref-2.ensures.value)
    (types-held l c.args.self.now c.self.view_is c.self.invariant c.args.args.now c.in_ok-args.args.items found)

pub invariant_of-self : goal.invariant_of-self
invariant_of-self c = log-kept c.self.inside c.type_op.new.self c.type_op.ensures.extends c.self.invariant

pub invariant_of-self-2 : goal.invariant_of-self-2
invariant_of-self-2 c = log-kept c.self.inside c.type_op.new.self c.in_ok-id.ensures.extends c.self.invariant

pub add_type-requires : goal.add_type-requires
add_type-requires c = has-type c.type_op.new.self c.in_ok-id.id _ c.in_ok-id.ensures.ok

pub returns : goal.returns
returns c = λ n ts h k.
    let l = c.self.inside in
    let us = c.type_op.new.self in
    let name = name-is l.nodes c.args.name n (named-here l c.args.self.now c.self.view_is c.args.name n h) in
    let found = subst (λ (is : List ℕ). AreEach (IsAt is) c.args.args.now c.in_ok-args.args.items)
    c.deref.ensures.value c.in_ok-args.ensures in
    let all = ap (types_at l.nodes) c.deref-2.ensures.value
    ∙ types-as l.nodes c.in_ok-args.args.items
    ∙ ap arguments (types-found l c.args.self.now c.self.view_is
    c.self.invariant c.args.args.now c.in_ok-args.args.items ts found k) in
    made-type (TyOp n (arguments ts)) (type_at us c.in_ok-id.id) c.add_type.result c.args.self.now.state
    (state_of us (held_of l))
    c.add_type.new.self.state
    (state-then l us c.args.self.now c.self.view_is c.in_ok-id.ensures.extends c.self.invariant)
    (type-is us c.in_ok-id.id _ c.in_ok-id.ensures.ok ∙ (λ i. TyOp (name i) (all i))) c.add_type.ensures
