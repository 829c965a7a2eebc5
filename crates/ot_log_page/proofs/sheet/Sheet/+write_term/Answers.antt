use Rattle.std.proofs.Common.{refl, sym, ◌∙◌}
use Rattle.ot_log_nodes.specs.Items.{type_at, term_at}
use Rattle.ot_log_records.specs.Entries.{type_nodes, term_nodes}
use Rattle.ot_log_page.proofs.Showing.{as-term, term-there, term-added, moves-then, nodes-then}
use Rattle.ot_log_page.proofs.sheet.Sheet.+write_term.Goals as goal

pub write_new_term-returns-in_ok-write_type-in-Free :
    goal.write_new_term-returns-in_ok-write_type-in-Free
write_new_term-returns-in_ok-write_type-in-Free t c = record {
  moves = as-term c.args.nodes.now _ _ _ _ (rw c.in-Free.is at c.term_node.ensures.tree)
      (moves-then c.args.nodes.now _ _ _ _ _ c.in_ok-write_type-in-Free.ensures.moves c.put.ensures.moves);
}

pub write_new_term-returns-in_ok-write_type-in-Const :
    goal.write_new_term-returns-in_ok-write_type-in-Const
write_new_term-returns-in_ok-write_type-in-Const t c = record {
  moves = as-term c.args.nodes.now _ _ _ _ (rw c.in-Const.is at c.term_node.ensures.tree)
      (moves-then c.args.nodes.now _ _ _ _ _ c.in_ok-write_type-in-Const.ensures.moves c.put-in-Const.ensures.moves);
}

pub write_new_term-returns-in-Bound : goal.write_new_term-returns-in-Bound
write_new_term-returns-in-Bound t c = record {
  moves =
      as-term c.args.nodes.now _ _ _ _ (rw c.in-Bound.is at c.term_node.ensures.tree) c.put-in-Bound.ensures.moves;
}

pub write_new_term-returns-in_ok-write_term-in-App-2 :
    goal.write_new_term-returns-in_ok-write_term-in-App-2
write_new_term-returns-in_ok-write_term-in-App-2 t c = record {
  moves = as-term c.args.nodes.now _ _ _ _ (rw c.in-App.is at c.term_node.ensures.tree)
      (moves-then c.args.nodes.now _ _ _ _ _
      (nodes-then c.args.nodes.now _ _ _ (term_nodes (term_at c.args.nodes.now c.in-App.f))
      (term_nodes (term_at c.args.nodes.now c.in-App.x)) c.in_ok-write_term-in-App.ensures.moves
      c.in_ok-write_term-in-App-2.ensures.moves) c.put-in-App.ensures.moves);
}

pub write_new_term-returns-in_ok-write_term-in-Abs :
    goal.write_new_term-returns-in_ok-write_term-in-Abs
write_new_term-returns-in_ok-write_term-in-Abs t c = record {
  moves = as-term c.args.nodes.now _ _ _ _ (rw c.in-Abs.is at c.term_node.ensures.tree)
      (moves-then c.args.nodes.now _ _ _ _ _ (nodes-then c.args.nodes.now _ _ _
      (type_nodes (type_at c.args.nodes.now c.in-Abs.ty)) (term_nodes (term_at c.args.nodes.now c.in-Abs.body))
      c.in_ok-write_type-in-Abs.ensures.moves c.in_ok-write_term-in-Abs.ensures.moves) c.put-in-Abs.ensures.moves);
}

pub write_term-returns-then-contains : goal.write_term-returns-then-contains
write_term-returns-then-contains t c = record {
  moves = term-there c.args.nodes.now _ c.args.id c.primitives.ensures.once c.requires.id
      (sym c.contains.ensures ∙ c.if-contains.true);
}

pub write_term-returns : goal.write_term-returns
write_term-returns t c = record {
  moves = term-added c.args.nodes.now _ _ _ c.args.id c.primitives.ensures.once c.requires.id
      (sym c.contains.ensures ∙ c.if-contains.false) c.in_ok-write_new_term.ensures.moves c.in_ok-insert.ensures.keys
      refl refl
      refl;
}
