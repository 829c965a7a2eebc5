use Rattle.std.proofs.Common.{rules, refl, ap, sym, ◌∙◌}
use Rattle.ot_logic.specs.declared.command.Cmd.TheVariants as words
use Rattle.ot_logic.specs.Naming.{names}
use Rattle.ot_logic.specs.Rules.{op_rule}
use Rattle.ot_kernel.specs.State.{name_at, types_at}
use Rattle.ot_machine.proofs.Elements.{types_at-arguments}
use Rattle.ot_machine.proofs.Kept.{leaves}
use Rattle.ot_machine.proofs.RuleRows.{turned}
use Rattle.ot_machine.proofs.rows.terms.op_type.Goals as goal
use Rattle.ot_logic.proofs.Results.{bind-to}

pub make_two-requires-clause-of : goal.make_two-requires-clause-of
make_two-requires-clause-of c =
    (leaves _ _ _ c.requires c.type_op.ensures.keeps c.type_op.ensures.same.basis).machine.of

pub returns-in_err-ty : goal.returns-in_err-ty
returns-in_err-ty c =
    let kept = leaves c.args.session.now c.type_op.new.self c.args.machine.now c.requires c.type_op.ensures.keeps
    c.type_op.ensures.same.basis in
    let same = types_at-arguments c.args.session.now.kernel c.in_ok-args.args.items in
    search rules

pub returns-in_err-make_two : goal.returns-in_err-make_two
returns-in_err-make_two c =
    let kept = leaves c.args.session.now c.type_op.new.self c.args.machine.now c.requires c.type_op.ensures.keeps
    c.type_op.ensures.same.basis in
    search rules

pub returns : goal.returns
returns c =
    let k = c.args.session.now.kernel in
    let args = sym (types_at-arguments k c.in_ok-args.args.items) ∙ ap (types_at k) (sym c.deref.ensures.value) in
    let made = ap (op_rule names (name_at k c.in_ok-name.name)) args ∙ c.in_ok-ty.ensures.made.1 in
    turned _ _ _ _ _ words.OpType _ (leaves _ _ _ c.requires c.type_op.ensures.keeps c.type_op.ensures.same.basis)
    (bind-to _ _ _ _ c.in_ok-args.ensures.found
    (bind-to _ _ _ _ c.in_ok-name.ensures.found (bind-to _ _ _ _ made refl)))
    c.in_ok-make_two.ensures
