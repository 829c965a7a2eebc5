use Rattle.std.proofs.Common.{ap, ◌∙◌}
use Rattle.ot_trace.specs.Origins.{Make}
use Rattle.ot_machine.specs.Places.{as_type_op}
use Rattle.ot_machine.specs.Meaning.{origin_of}
use Rattle.ot_log_values.specs.Steps.{origins_of}
use Rattle.ot_log_values.proofs.Taking.{type_op-kind, type_op-word, is-make, has-value, word-is, step-long}
use Rattle.ot_log_values.proofs.Taking.{type_op-takes}
use Rattle.ot_logic.specs.declared.command.Cmd.TheVariants as words
use Rattle.ot_logic.specs.declared.kind.Kind.TheVariants as kinds
use Rattle.ot_log_values.proofs.steps.type_operator.Goals as goal

pub making-word-requires-clause-make : goal.making-word-requires-clause-make
making-word-requires-clause-make c =
    is-make as_type_op (origin_of c.args.session.now c.args.id) c.requires.value kinds.TyOp type_op-kind tt

pub one-spelled-requires : goal.one-spelled-requires
one-spelled-requires c =
    let s = c.args.session.now in
    let is = c.making-word.result.1.now in
    step-long s (origin_of s c.args.id) words.TypeOp is
    (c.making-word.ensures.made ∙ ap (λ w. Make w (origins_of s is)) c.in-TypeOp.is)
    (has-value as_type_op (origin_of s c.args.id) c.requires.value)

pub name-requires-clause-value : goal.name-requires-clause-value
name-requires-clause-value c =
    let s = c.args.session.now in
    type_op-takes (origin_of s c.args.id) (origin_of s c.one-spelled.result)
    (has-value as_type_op (origin_of s c.args.id) c.requires.value)
    (c.making-word.ensures.made ∙ (λ i. Make (c.in-TypeOp.is i) (origins_of s (c.one-spelled.ensures i))))

pub unreachable-requires : goal.unreachable-requires
unreachable-requires c =
    let s = c.args.session.now in
    type_op-word c.making-word.result.0
    (word-is as_type_op (origin_of s c.args.id) c.requires.value kinds.TyOp type_op-kind c.making-word.result.0
    (origins_of s c.making-word.result.1.now) c.making-word.ensures.made) c.in_default.not-TypeOp
