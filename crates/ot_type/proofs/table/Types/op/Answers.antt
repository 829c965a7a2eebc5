use Rattle.std.proofs.Common.{◌≤◌, arith, sym, subst}
use Rattle.ot_logic.specs.Bounds.{bound_tys, names_in}
use Rattle.ot_type.specs.TypeTable.{types_at}
use Rattle.ot_type.proofs.NamesIn.{bound_tys-types_at}
use Rattle.ot_type.proofs.table.Types.op.Goals as goal

pub returns-clause-names : goal.returns-clause-names
returns-clause-names c =
    let h = bound_tys-types_at c.args.self.now c.args.args.now c.requires in
    let g = subst (λ is. bound_tys (types_at c.args.self.now is) ≤ names_in c.args.self.now)
    (sym c.in_ok-from_slice.ensures.ok) h in
    omega (arith, g, c.intern.ensures.names)
