use Rattle.std.specs.Prelude.{None, Option, MatchOption}
use Rattle.std.proofs.Common.{◌≡◌, sym, subst}
use Rattle.ot_logic.specs.Naming.{names}
use Rattle.ot_logic.specs.Hol.{as_equation}
use Rattle.ot_log_nodes.specs.Items.{term_at}
use Rattle.ot_log_rules.specs.Shapes.{AreSides}
use Rattle.ot_log_rules.specs.declared.shapes.Sides.{Sides}
use Rattle.ot_log_rules.proofs.Shaped.{sides-made, no-equals}
use Rattle.ot_log_rules.proofs.shapes.as_equation.Goals as goal

pub returns-in_err-ty : goal.returns-in_err-ty
returns-in_err-ty c =
    let ts = c.args.nodes.now in
    subst (λ (o : Option Sides). MatchOption o (as_equation names (term_at ts c.args.id) ≡ None)
    (AreSides ts c.args.id)) (sym c.from_residual-in_err-ty.ensures)
    (no-equals ts c.args.id c.in_ok-half.half c.in_ok-half.right c.in_ok-equals.equals c.in_ok-equals.left
    c.in_ok-half.ensures c.in_ok-equals.ensures c.in_err-ty.ensures)

pub returns : goal.returns
returns c =
    sides-made c.args.nodes.now c.args.id c.in_ok-half.half c.in_ok-equals.equals
    (record { ty = c.in_ok-ty.ty; left = c.in_ok-equals.left; right = c.in_ok-half.right }) c.in_ok-half.ensures
    c.in_ok-equals.ensures c.in_ok-ty.ensures
