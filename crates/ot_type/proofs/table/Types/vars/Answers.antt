use Rattle.std.proofs.Common.{◌≡◌, refl, sym, ap, ◌∙◌, subst, take_all}
use Rattle.std.proofs.lemmas.List.{append-nil}
use Rattle.ot_logic.specs.Lists.{IsMember}
use Rattle.ot_logic.specs.Table.{IsInjective}
use Rattle.ot_type.proofs.SubtypeLemmas.{member_item}
use Rattle.ot_type.proofs.TypeTableLemmas.{node_var, node_op}
use Rattle.ot_type.proofs.VarLemmas.{names_of, names_more, names_same, names_distinct}
use Rattle.ot_type.proofs.table.Types.vars.Goals as goal
use Rattle.ot_type.proofs.table.Types.vars.Goals.{in-Var+in_ok-push, in_default}

pub node-requires : goal.node-requires
node-requires c =
    (c.in_ok-parts.ensures.each c.part-item.result
    (subst (IsMember c.part-item.result) c.deref-part-items.ensures.value
    (member_item _ c.loop-part.part-index c.part-item.result c.loop-part-test.true c.part-item.is))).0

pub loop-part-preserved : goal.loop-part-preserved
loop-part-preserved c =
    let more = names_more c.args.self.now c.deref-part-items.result.now c.loop-part.part-index c.part-item.result
    c.loop-part-test.true c.part-item.is in
    elim c.match-node.branch [
      | in-Var+in_ok-push w ↦
          let root = node_var c.args.self.now c.part-item.result c.node.result.now w.in-Var.name c.node.ensures.tree
          w.in-Var.is in
          rw (w.names-is, w.in_ok-push.ensures.items, c.loop-part.invariant, more, root) refl
      | in_default w ↦
          let root = node_op c.args.self.now c.part-item.result c.node.result.now w.in_default.field-0
          w.in_default.field-1 w.in_default.field-1.items c.node.ensures.tree w.in_default.is refl in
          rw (w.names-is, c.loop-part.invariant, more, root) (sym (append-nil _))
    ]

-- the loop went over all types
all_names : (c : goal.After-drop-parts-2) → c.loop-part.names.items
    ≡ names_of c.args.self.now c.in_ok-parts.parts.items
all_names c = c.loop-part.invariant
    ∙ ap (names_of c.args.self.now)
    (take_all c.loop-part.part-index c.deref-part-items.result.now c.loop-part-test.false
    ∙ c.deref-part-items.ensures.value)

pub returns-clause-names : goal.returns-clause-names
returns-clause-names c = rw (all_names c) (names_same _ _ _ c.in_ok-parts.ensures)

pub returns-clause-once : goal.returns-clause-once
returns-clause-once c =
    let one = subst IsInjective c.self.view_is c.self.invariant.table.injective in
    rw (all_names c) (names_distinct c.args.self.now one _ (λ x m. (c.in_ok-parts.ensures.each x m).0)
    c.in_ok-parts.ensures.falling)
