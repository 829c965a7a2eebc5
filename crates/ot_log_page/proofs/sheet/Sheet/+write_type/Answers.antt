use Rattle.std.proofs.Common.{arith, refl, sym, ◌∙◌}
use Rattle.ot_log_page.proofs.Showing.{as-type, type-there, type-added, moves-then}
use Rattle.ot_log_page.proofs.Showing.{leads-step, leads-end, written-next, written-end}
use Rattle.ot_log_page.proofs.sheet.Sheet.+write_type.Goals as goal

pub write_new_type-returns-in-Var : goal.write_new_type-returns-in-Var
write_new_type-returns-in-Var t c = record {
  moves =
      as-type c.args.nodes.now _ _ _ _ (rw c.in-Var.is at c.type_node.ensures.tree) c.put.ensures.moves;
}

pub write_new_type-returns-in_ok-write_types-in-Op :
    goal.write_new_type-returns-in_ok-write_types-in-Op
write_new_type-returns-in_ok-write_types-in-Op t c = record {
  moves = as-type c.args.nodes.now _ _ _ _ (rw c.in-Op.is at c.type_node.ensures.tree)
      (moves-then c.args.nodes.now _ _ _ _ _ (rw c.as_slice.ensures at c.in_ok-write_types-in-Op.ensures.moves)
      (rw c.as_slice-in-Op.ensures at c.put_type_op.ensures.moves));
}

pub write_type-returns-then-contains : goal.write_type-returns-then-contains
write_type-returns-then-contains t c = record {
  moves = type-there c.args.nodes.now _ c.args.id c.primitives.ensures.once c.requires.id
      (sym c.contains.ensures ∙ c.if-contains.true);
}

pub write_type-returns : goal.write_type-returns
write_type-returns t c = record {
  moves = type-added c.args.nodes.now _ _ _ c.args.id c.primitives.ensures.once c.requires.id
      (sym c.contains.ensures ∙ c.if-contains.false) c.in_ok-write_new_type.ensures.moves c.in_ok-insert.ensures.keys
      refl refl
      refl;
}

pub write_types-loop-id-preserved : goal.write_types-loop-id-preserved
write_types-loop-id-preserved t c =
    leads-step c.args.nodes.now _ _ _ _ _ _ _ c.loop-id.invariant c.in_ok-write_type.ensures.moves
    (λ y. written-next c.args.nodes.now c.args.ids.now c.loop-id.id-index c.id-item.result y (omega arith)
    c.id-item.is)

pub write_types-returns : goal.write_types-returns
write_types-returns t c = record {
  moves = leads-end c.args.nodes.now _ _ _ _ c.loop-id.invariant
      (λ y. written-end c.args.nodes.now c.args.ids.now c.loop-id.id-index y (omega arith));
}
