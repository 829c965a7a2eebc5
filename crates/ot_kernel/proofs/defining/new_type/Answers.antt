use Rattle.std.specs.Prelude.{Err}
use Rattle.std.proofs.Common.{◌≡◌, ap, ◌∙◌}
use Rattle.ot_logic.specs.Hol.{tys_of_vars}
use Rattle.ot_logic.specs.Naming.{numbers}
use Rattle.ot_type.specs.TypeTable.{types_at}
use Rattle.ot_kernel.proofs.NewTypes.{shallow_operator, type_number, operator_refused}
use Rattle.ot_kernel.proofs.defining.new_type.Goals as goal

pub returns-in_err-type_op-clause-err : goal.returns-in_err-type_op-clause-err
returns-in_err-type_op-clause-err c =
    let same : types_at c.type_variables.new.terms.types c.deref.result.now ≡ tys_of_vars numbers c.args.vars.now =
    ap (types_at c.type_variables.new.terms.types) c.deref.ensures.value ∙ c.in_ok-args.ensures.types in
    operator_refused c.from_residual-in_err-type_op.result c.in_err-type_op.field-0.0
    c.from_residual-in_err-type_op.ensures.1
    (λ e. shallow_operator c.args.op c.args.vars.now _ same (c.in_err-type_op.ensures.nesting (ap Err e)))

pub returns-clause-ok : goal.returns-clause-ok
returns-clause-ok c =
    let same : types_at c.type_variables.new.terms.types c.deref.result.now ≡ tys_of_vars numbers c.args.vars.now =
    ap (types_at c.type_variables.new.terms.types) c.deref.ensures.value ∙ c.in_ok-args.ensures.types in
    type_number c.type_op.new.self.types c.args.op c.args.vars.now _ c.in_ok-type_op.field-0 same
    c.in_ok-type_op.ensures.ok
