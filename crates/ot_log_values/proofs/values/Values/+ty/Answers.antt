use Rattle.std.proofs.Common.{◌<◌, sym, subst, ◌∙◌, arith, ℕ, ap}
use Rattle.std.proofs.lemmas.Result.{IfOk-weaker}
use Rattle.ot_logic.specs.Trees.{TyVar, TyOp}
use Rattle.ot_logic.specs.declared.command.Cmd.TheVariants as words
use Rattle.ot_logic.proofs.TableLemmas.{Extends-trans}
use Rattle.ot_log_nodes.specs.Items.{IsType, name_at, types_at}
use Rattle.ot_log_nodes.proofs.ItemLemmas.{still-name}
use Rattle.ot_trace.specs.Origins.{Make}
use Rattle.ot_machine.specs.Meaning.{origin_of}
use Rattle.ot_log_values.specs.Steps.{origins_of, IsTypeOf, Reads}
use Rattle.ot_log_values.proofs.Stepping.{two-below}
use Rattle.ot_log_values.proofs.Later.{known-later, symbol-later}
use Rattle.ot_log_values.proofs.Memory.{kept-insert}
use Rattle.ot_log_values.proofs.Making.{type_op-makes, var_type-makes, op_type-makes}
use Rattle.ot_log_values.proofs.Listing.{each-next}
use Rattle.ot_log_values.proofs.Later.{type_of-later}
use Rattle.ot_log_values.proofs.Gathered.{type-made, types-gathered}
use Rattle.std.specs.List.{All}
use Rattle.ot_machine.specs.Places.{as_type, as_each}
use Rattle.ot_log_values.proofs.Taking.{type-kind, type-word, is-make, has-value, word-is, step-long, op_type-takes}
use Rattle.ot_log_values.proofs.Taking.{var_type-takes, list-of, elements-read}
use Rattle.ot_logic.specs.declared.kind.Kind.TheVariants as kinds
use Rattle.ot_log_values.proofs.values.Values.+ty.Goals as goal

-- ---- a type variable
pub new_type-returns-in_err-name-in-VarType-clause-known : goal.new_type-returns-in_err-name-in-VarType-clause-known
new_type-returns-in_err-name-in-VarType-clause-known t c =
    known-later c.args.session.now c.args.nodes.now c.name.new.nodes
    c.in_err-name-in-VarType.ensures.extends c.args.self.now c.requires.known

pub new_type-returns-in_ok-name-in-VarType-clause-made : goal.new_type-returns-in_ok-name-in-VarType-clause-made
new_type-returns-in_ok-name-in-VarType-clause-made t c =
    let s = c.args.session.now in
    let us = c.name.new.nodes in
    let ws = c.type_var.new.self in
    let spelled = c.one-spelled.result in
    let n = name_at us c.in_ok-name-in-VarType.name in
    let is = c.making-word.ensures.made
    ∙ (λ i. Make (c.in-VarType.is i) (origins_of s (c.one-spelled.ensures i))) in
    let made =
    var_type-makes (origin_of s c.args.id) (origin_of s spelled) n is c.in_ok-name-in-VarType.ensures.made.is in
    IfOk-weaker c.type_var.result _ _ (λ r h. type-made s ws c.args.id r (TyVar n) h made) c.type_var.ensures.ok

pub new_type-returns-in_ok-name-in-VarType-clause-known : goal.new_type-returns-in_ok-name-in-VarType-clause-known
new_type-returns-in_ok-name-in-VarType-clause-known t c =
    known-later c.args.session.now c.args.nodes.now c.type_var.new.self
    (Extends-trans c.in_ok-name-in-VarType.ensures.extends c.type_var.ensures.extends) c.args.self.now
    c.requires.known

-- ---- a type operator with its arguments
pub new_type-returns-in_err-name-in-OpType-clause-known : goal.new_type-returns-in_err-name-in-OpType-clause-known
new_type-returns-in_err-name-in-OpType-clause-known t c =
    known-later c.args.session.now c.args.nodes.now c.type_operator.new.nodes
    c.in_err-name-in-OpType.ensures.extends c.args.self.now c.requires.known

pub new_type-types-requires : goal.new_type-types-requires
new_type-types-requires t c =
    let s = c.args.session.now in
    let below = two-below (λ i. i < c.args.id) c.making-word.result.1.now c.two-operator.result.0
    c.two-operator.result.1 c.making-word.ensures.below c.two-operator.ensures in (
      omega (arith, c.decreases, below.1),
      (
        c.requires.run,
        (
          omega (arith, below.1, c.requires.id),
          (
            known-later s c.args.nodes.now c.type_operator.new.nodes c.in_ok-name-in-OpType.ensures.extends
                c.args.self.now c.requires.known,
            (op_type-takes (origin_of s c.args.id) (origin_of s c.two-operator.result.0)
                (has-value as_type (origin_of s c.args.id) c.requires.value) (origin_of s c.two-operator.result.1)
                (c.making-word.ensures.made ∙ (λ i. Make (c.in-OpType.is i) (origins_of s (c.two-operator.ensures i))))).1,
          ),
        ),
      ),
    )

pub new_type-type_op-requires-clause-name : goal.new_type-type_op-requires-clause-name
new_type-type_op-requires-clause-name t c =
    still-name c.type_operator.new.nodes c.types.new.nodes c.in_ok-args-in-OpType.ensures.extends
    c.in_ok-name-in-OpType.name c.in_ok-name-in-OpType.ensures.made.has

pub new_type-returns-in_ok-args-in-OpType-clause-made : goal.new_type-returns-in_ok-args-in-OpType-clause-made
new_type-returns-in_ok-args-in-OpType-clause-made t c =
    let s = c.args.session.now in
    let us = c.type_operator.new.nodes in
    let ws = c.types.new.nodes in
    let zs = c.type_op.new.self in
    let operator = c.two-operator.result.0 in
    let list = c.two-operator.result.1 in
    let id = c.in_ok-name-in-OpType.name in
    let n = name_at ws id in
    let symbol = symbol-later s us ws c.in_ok-args-in-OpType.ensures.extends
    words.TypeOp operator id c.in_ok-name-in-OpType.ensures.made in
    let is = c.making-word.ensures.made
    ∙ (λ i. Make (c.in-OpType.is i) (origins_of s (c.two-operator.ensures i))) in
    let made = op_type-makes ws (origin_of s c.args.id) (origin_of s operator)
    (origin_of s list) n c.in_ok-args-in-OpType.args.items is
    (type_op-makes (origin_of s operator) symbol.spelled n symbol.is symbol.name_is)
    c.in_ok-args-in-OpType.ensures.made.read in
    IfOk-weaker c.type_op.result _ _
    (λ r h. type-made s zs c.args.id r (TyOp n (types_at ws c.in_ok-args-in-OpType.args.items))
    (subst (λ ids. IsType zs r (TyOp n (types_at ws ids))) c.deref.ensures.value h) made) c.type_op.ensures.ok

pub new_type-returns-in_ok-args-in-OpType-clause-known : goal.new_type-returns-in_ok-args-in-OpType-clause-known
new_type-returns-in_ok-args-in-OpType-clause-known t c =
    known-later c.args.session.now c.types.new.nodes c.type_op.new.self
    c.type_op.ensures.extends c.types.new.self c.in_ok-args-in-OpType.ensures.known

-- ---- what is remembered
pub ty-returns-in-Some-clause-made : goal.ty-returns-in-Some-clause-made
ty-returns-in-Some-clause-made t c =
    c.requires.known.types.each c.args.id c.in-Some.known.now (sym c.in-Some.ensures.value)

pub ty-returns-clause-known : goal.ty-returns-clause-known
ty-returns-clause-known t c =
    let s = c.args.session.now in
    let us = c.new_type.new.nodes in
    record {
      types = kept-insert (IsTypeOf s us) c.new_type.new.self.types.entries c.insert.new.self.entries c.args.id
          c.in_ok-ty.ty
          c.in_ok-ty.ensures.known.types c.in_ok-ty.ensures.made c.in_ok-insert.ensures.updates.0;
      terms = c.in_ok-ty.ensures.known.terms;
    }

-- ---- the types of a list
pub types-loop-step-preserved : goal.types-loop-step-preserved
types-loop-step-preserved t c =
    let s = c.args.session.now in
    let us = c.loop-step.nodes in
    let ws = c.ty.new.nodes in
    let e = c.in_ok-ty.ensures.extends in
    record {
      extends = Extends-trans c.loop-step.invariant.extends e;
      known = c.in_ok-ty.ensures.known;
      each =
          each-next (IsTypeOf s us) (IsTypeOf s ws) (type_of-later s us ws e) c.deref-step-items.result.now
          c.loop-step.step-index
          c.step-item.result c.loop-step.found.items c.push.new.self.items c.in_ok-ty.ty (omega arith) c.step-item.is
          c.loop-step.invariant.each c.in_ok-ty.ensures.made c.in_ok-push.ensures.items;
    }

pub types-returns-clause-made : goal.types-returns-clause-made
types-returns-clause-made t c =
    types-gathered c.args.session.now c.loop-step.nodes c.args.list c.in_ok-steps.steps.items
    c.deref-step-items.result.now
    c.loop-step.step-index c.deref-step-items.ensures.value c.in_ok-steps.ensures.made
    (omega arith) c.loop-step.found.items c.loop-step.invariant.each

-- ---- what its word takes
pub new_type-making-word-requires-clause-make : goal.new_type-making-word-requires-clause-make
new_type-making-word-requires-clause-make t c =
    is-make as_type (origin_of c.args.session.now c.args.id) c.requires.value kinds.Ty type-kind tt

pub new_type-one-spelled-requires : goal.new_type-one-spelled-requires
new_type-one-spelled-requires t c =
    let s = c.args.session.now in
    let is = c.making-word.result.1.now in
    step-long s (origin_of s c.args.id) words.VarType is
    (c.making-word.ensures.made ∙ ap (λ w. Make w (origins_of s is)) c.in-VarType.is)
    (has-value as_type (origin_of s c.args.id) c.requires.value)

pub new_type-two-operator-requires : goal.new_type-two-operator-requires
new_type-two-operator-requires t c =
    let s = c.args.session.now in
    let is = c.making-word.result.1.now in
    step-long s (origin_of s c.args.id) words.OpType is
    (c.making-word.ensures.made ∙ ap (λ w. Make w (origins_of s is)) c.in-OpType.is)
    (has-value as_type (origin_of s c.args.id) c.requires.value)

pub new_type-unreachable-requires : goal.new_type-unreachable-requires
new_type-unreachable-requires t c =
    let s = c.args.session.now in
    type-word c.making-word.result.0
    (word-is as_type (origin_of s c.args.id) c.requires.value kinds.Ty type-kind c.making-word.result.0
    (origins_of s c.making-word.result.1.now) c.making-word.ensures.made) c.in_default.not-VarType
    c.in_default.not-OpType

pub new_type-name-requires-clause-value : goal.new_type-name-requires-clause-value
new_type-name-requires-clause-value t c =
    let s = c.args.session.now in
    var_type-takes (origin_of s c.args.id) (origin_of s c.one-spelled.result)
    (has-value as_type (origin_of s c.args.id) c.requires.value)
    (c.making-word.ensures.made ∙ (λ i. Make (c.in-VarType.is i) (origins_of s (c.one-spelled.ensures i))))

pub new_type-type_operator-requires-clause-value : goal.new_type-type_operator-requires-clause-value
new_type-type_operator-requires-clause-value t c =
    let s = c.args.session.now in
    (op_type-takes (origin_of s c.args.id) (origin_of s c.two-operator.result.0)
    (has-value as_type (origin_of s c.args.id) c.requires.value) (origin_of s c.two-operator.result.1)
    (c.making-word.ensures.made ∙ (λ i. Make (c.in-OpType.is i) (origins_of s (c.two-operator.ensures i))))).0

pub types-elements-requires-clause-value : goal.types-elements-requires-clause-value
types-elements-requires-clause-value t c =
    list-of (as_each as_type) (origin_of c.args.session.now c.args.list) c.requires.value

pub types-ty-requires : goal.types-ty-requires
types-ty-requires t c =
    let s = c.args.session.now in
    let items = c.deref-step-items.result.now in
    let k = c.loop-step.step-index in
    let below = subst (All (λ (i : ℕ). i < c.args.list)) (sym c.deref-step-items.ensures.value)
    c.in_ok-steps.ensures.below in
    let lower = below k c.step-item.result (omega arith) in
    let here = c.step-item.is in
    let each = elements-read s as_type (origin_of s c.args.list) c.in_ok-steps.steps.items items
    c.deref-step-items.ensures.value c.in_ok-steps.ensures.made c.requires.value in (
      omega (arith, c.decreases, lower, here),
      (
        c.requires.run,
        (
          omega (arith, lower, here, c.requires.list),
          (
            c.loop-step.invariant.known,
            subst (λ (i : ℕ). Reads as_type (origin_of s i)) (sym here) (each k c.step-item.result (omega arith)),
          ),
        ),
      ),
    )
