use Rattle.std.proofs.Common.{[], refl, ap, sym}
use Rattle.std.proofs.lemmas.List.{append-nil}
use Rattle.ot_type.specs.TypeTable.{type_at}
use Rattle.ot_type.proofs.TypeTableLemmas.{node_op, node_var}
use Rattle.ot_term.specs.Symbols.{operator_of}
use Rattle.ot_term.proofs.GatherLemmas.{flat_next}
use Rattle.ot_term.proofs.table.gather.add_operators.Goals as goal
use Rattle.ot_term.proofs.table.gather.add_operators.Goals.{in-Op+in_ok-push, in_default}

pub loop-id-preserved : goal.loop-id-preserved
loop-id-preserved c =
    let tys = c.args.types.now in
    elim c.match-node.branch [
      | in-Op+in_ok-push w ↦
          let root = node_op tys c.id-item.result c.node.result.now w.in-Op.name w.in-Op.field-1 w.in-Op.field-1.items
          c.node.ensures.tree w.in-Op.is refl in
          rw w.symbols-is
          (flat_next (λ i. operator_of (type_at tys i)) c.args.symbols.now.items c.args.ids.now c.loop-id.id-index
          c.id-item.result c.loop-id-test.true c.id-item.is c.loop-id.symbols.items w.push.new.self.items _
          c.loop-id.invariant (ap operator_of root) w.in_ok-push.ensures.items)
      | in_default w ↦
          let root = node_var tys c.id-item.result c.node.result.now w.in_default.field-0 c.node.ensures.tree
          w.in_default.is in
          rw w.symbols-is
          (flat_next (λ i. operator_of (type_at tys i)) c.args.symbols.now.items c.args.ids.now c.loop-id.id-index
          c.id-item.result c.loop-id-test.true c.id-item.is c.loop-id.symbols.items c.loop-id.symbols.items []
          c.loop-id.invariant (ap operator_of root) (sym (append-nil _)))
    ]
