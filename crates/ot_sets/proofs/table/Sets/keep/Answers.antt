use Rattle.std.proofs.Common.{sym, subst}
use Rattle.ot_sets.specs.Table.{sets_of, AreUnions}
use Rattle.ot_sets.proofs.UnionLemmas.{unions-put}
use Rattle.ot_sets.proofs.table.Sets.keep.Goals as goal

pub invariant_of-self : goal.invariant_of-self
invariant_of-self c = (
  c.self.invariant.0,
  subst (AreUnions (sets_of c.self.inside.nodes.entries)) (sym c.in_err-insert.ensures.err) c.self.invariant.1,
)

pub invariant_of-self-2 : goal.invariant_of-self-2
invariant_of-self-2 c = (
  c.self.invariant.0,
  unions-put (sets_of c.self.inside.nodes.entries) c.args.self.now c.self.view_is c.self.inside.unions.entries
      c.insert.new.self.entries (record { a = c.args.a; b = c.args.b }) c.args.union c.requires.a c.requires.b
      c.requires.union c.self.invariant.1 c.in_ok-insert.ensures.updates.0,
)
