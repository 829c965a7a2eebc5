use Rattle.std.proofs.Common.{◌∙◌, ap}
use Rattle.ot_log_nodes.specs.Items.{name_at, type_at}
use Rattle.ot_trace.specs.Origins.{Make}
use Rattle.ot_machine.specs.Meaning.{origin_of}
use Rattle.ot_log_values.specs.Steps.{origins_of}
use Rattle.ot_log_values.proofs.Later.{known-later, name-later}
use Rattle.ot_log_values.proofs.Making.{var-makes}
use Rattle.ot_machine.specs.Places.{as_variable}
use Rattle.ot_log_values.proofs.Taking.{variable-kind, variable-word, is-make, has-value, word-is, step-long}
use Rattle.ot_log_values.proofs.Taking.{var-takes}
use Rattle.ot_logic.specs.declared.command.Cmd.TheVariants as words
use Rattle.ot_logic.specs.declared.kind.Kind.TheVariants as kinds
use Rattle.ot_log_values.proofs.values.Values.variable.Goals as goal

pub returns-in_err-name-in-Var-clause-known : goal.returns-in_err-name-in-Var-clause-known
returns-in_err-name-in-Var-clause-known c = known-later c.args.session.now c.args.nodes.now c.name.new.nodes
    c.in_err-name-in-Var.ensures.extends c.args.self.now c.requires.known

pub ty-requires-clause-known : goal.ty-requires-clause-known
ty-requires-clause-known c =
    known-later c.args.session.now c.args.nodes.now c.name.new.nodes c.in_ok-name-in-Var.ensures.extends
    c.args.self.now c.requires.known

pub returns-clause-made : goal.returns-clause-made
returns-clause-made c =
    let s = c.args.session.now in
    let us = c.name.new.nodes in
    let ws = c.ty.new.nodes in
    let spelled = c.two-spelled.result.0 in
    let id = c.in_ok-name-in-Var.name in
    let ty = c.in_ok-ty-in-Var.ensures.made in
    let name = name-later s us ws c.in_ok-ty-in-Var.ensures.extends spelled id c.in_ok-name-in-Var.ensures.made in
    let made = c.making-word.ensures.made
    ∙ (λ i. Make (c.in-Var.is i) (origins_of s (c.two-spelled.ensures i))) in
    record {
      has = (name.has, ty.has);
      made = var-makes (origin_of s c.args.id) (origin_of s spelled) (origin_of s c.two-spelled.result.1)
          (name_at ws id)
          (type_at ws c.in_ok-ty-in-Var.ty) made name.is ty.made;
    }

-- ---- what its word takes
pub making-word-requires-clause-make : goal.making-word-requires-clause-make
making-word-requires-clause-make c =
    is-make as_variable (origin_of c.args.session.now c.args.id) c.requires.value kinds.Var variable-kind tt

pub two-spelled-requires : goal.two-spelled-requires
two-spelled-requires c =
    let s = c.args.session.now in
    let is = c.making-word.result.1.now in
    step-long s (origin_of s c.args.id) words.Var is
    (c.making-word.ensures.made ∙ ap (λ w. Make w (origins_of s is)) c.in-Var.is)
    (has-value as_variable (origin_of s c.args.id) c.requires.value)

pub unreachable-requires : goal.unreachable-requires
unreachable-requires c =
    let s = c.args.session.now in
    variable-word c.making-word.result.0
    (word-is as_variable (origin_of s c.args.id) c.requires.value kinds.Var variable-kind c.making-word.result.0
    (origins_of s c.making-word.result.1.now) c.making-word.ensures.made) c.in_default.not-Var

pub name-requires-clause-value : goal.name-requires-clause-value
name-requires-clause-value c =
    let s = c.args.session.now in
    (var-takes (origin_of s c.args.id) (origin_of s c.two-spelled.result.0)
    (has-value as_variable (origin_of s c.args.id) c.requires.value) (origin_of s c.two-spelled.result.1)
    (c.making-word.ensures.made ∙ (λ i. Make (c.in-Var.is i) (origins_of s (c.two-spelled.ensures i))))).0

pub ty-requires-clause-value : goal.ty-requires-clause-value
ty-requires-clause-value c =
    let s = c.args.session.now in
    (var-takes (origin_of s c.args.id) (origin_of s c.two-spelled.result.0)
    (has-value as_variable (origin_of s c.args.id) c.requires.value) (origin_of s c.two-spelled.result.1)
    (c.making-word.ensures.made ∙ (λ i. Make (c.in-Var.is i) (origins_of s (c.two-spelled.ensures i))))).1
