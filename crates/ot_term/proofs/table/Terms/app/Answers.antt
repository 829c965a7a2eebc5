use Rattle.std.proofs.Common.{Err, ap}
use Rattle.ot_type.specs.TypeTable.{type_at}
use Rattle.ot_term.proofs.Refusals.{nesting_from}
use Rattle.ot_term.proofs.table.Terms.app.Goals as goal
use Rattle.ot_logic.proofs.Results.{same_Err}

pub returns-in_err-ty-clause-not_function : goal.returns-in_err-ty-clause-not_function
returns-in_err-ty-clause-not_function c =
    λ p. c.in_err-ty.ensures.not_function (ap Err (same_Err c.from_residual.result _ _ c.from_residual.ensures.1 p))

pub returns-in_err-ty-clause-argument_type : goal.returns-in_err-ty-clause-argument_type
returns-in_err-ty-clause-argument_type c =
    λ p. c.in_err-ty.ensures.argument_type (ap Err (same_Err c.from_residual.result _ _ c.from_residual.ensures.1 p))

pub returns-in_err-ty-clause-nesting : goal.returns-in_err-ty-clause-nesting
returns-in_err-ty-clause-nesting c =
    λ p. absurd (c.in_err-ty.ensures.limit (ap Err (same_Err c.from_residual.result _ _ c.from_residual.ensures.1 p)))

pub returns-in_err-apply-clause-nesting : goal.returns-in_err-apply-clause-nesting
returns-in_err-apply-clause-nesting c =
    λ p. (
      type_at c.args.self.now.types c.in_ok-ty.ty,
      c.in_ok-ty.ensures.typed,
      c.in_err-apply.ensures.nesting
          (ap Err (nesting_from c.from_residual-in_err-apply.result _ c.from_residual-in_err-apply.ensures.1 p)),
    )
