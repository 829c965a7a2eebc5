use Rattle.std.proofs.Common.{sym, subst}
use Rattle.ot_sets.specs.Table.{IsUnionAt}
use Rattle.ot_sets.proofs.table.Sets.known.Goals as goal

pub returns-in-Some : goal.returns-in-Some
returns-in-Some c =
    subst (λ ts. IsUnionAt ts c.args.a c.args.b c.in-Some.union.now) c.self.view_is
    (c.self.invariant.1.each (record { a = c.args.a; b = c.args.b }) c.in-Some.union.now
    (sym c.in-Some.ensures.value)).2
