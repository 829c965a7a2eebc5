use Rattle.std.proofs.Common.{arith, ap, subst}
use Rattle.ot_logic.specs.Bounds.{names_in}
use Rattle.ot_type.proofs.NamesIn.{bound_ty-type_at}
use Rattle.ot_term.specs.TermTable.{IsTermTable}
use Rattle.ot_term.proofs.Suiting.{suits-constant}
use Rattle.ot_term.proofs.table.Terms.constant.Goals as goal

pub intern-requires-clause-suits : goal.intern-requires-clause-suits
intern-requires-clause-suits c = suits-constant c.args.self.now
    (subst IsTermTable c.self.view_is c.self.invariant.table) c.args.name c.args.ty c.requires

pub returns-clause-grown : goal.returns-clause-grown
returns-clause-grown c = record {
  grows = c.intern.ensures.grows;
  names = record {
    types = let e = ap names_in c.intern.ensures.types in omega (arith, e);
    terms = omega (arith, c.intern.ensures.names, bound_ty-type_at _ _ c.requires);
  };
  table = c.intern.ensures.table;
}
