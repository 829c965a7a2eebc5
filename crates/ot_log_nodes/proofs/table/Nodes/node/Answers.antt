use Rattle.std.proofs.Common.{length, sym, ap, inl, inr, arith}
use Rattle.std.proofs.lemmas.Option.{slice_get_cases}
use Rattle.ot_log_nodes.proofs.table.Nodes.node.Goals as goal

pub returns-in-Some : goal.returns-in-Some
returns-in-Some c =
    rw (← c.self.view_is) (sym (c.self.invariant.nodes.entries c.args.index _ _ (sym c.in-Some.ensures.entry)).tree)

pub returns-in-None : goal.returns-in-None
returns-in-None c = elim (slice_get_cases c.args.self.now c.args.index).1 [
  | inl there ↦ let found = c.in-None.ensures.found.1
      (omega (arith, there.1, ap length c.self.view_is, c.self.invariant.nodes.same_length)) in
      cc
  | inr past ↦ sym past.1
]
