use Rattle.std.proofs.Common.{[], refl, ap, sym}
use Rattle.std.proofs.lemmas.List.{append-nil}
use Rattle.ot_type.specs.TypeTable.{type_at}
use Rattle.ot_type.proofs.TypeTableLemmas.{node_op, node_var}
use Rattle.ot_term.specs.Symbols.{variable_name}
use Rattle.ot_term.proofs.GatherLemmas.{flat_next}
use Rattle.ot_term.proofs.table.gather.variable_names.Goals as goal
use Rattle.ot_term.proofs.table.gather.variable_names.Goals.{in-Var+in_ok-push, in_default}

pub loop-id-preserved : goal.loop-id-preserved
loop-id-preserved c =
    let tys = c.args.types.now in
    elim c.match-node.branch [
      | in-Var+in_ok-push w ↦
          let root = node_var tys c.id-item.result c.node.result.now w.in-Var.name c.node.ensures.tree w.in-Var.is in
          rw w.names-is
          (flat_next (λ i. variable_name (type_at tys i)) [] c.args.ids.now c.loop-id.id-index c.id-item.result
          c.loop-id-test.true c.id-item.is c.loop-id.names.items w.push.new.self.items _ c.loop-id.invariant
          (ap variable_name root) w.in_ok-push.ensures.items)
      | in_default w ↦
          let root = node_op tys c.id-item.result c.node.result.now w.in_default.field-0 w.in_default.field-1
          w.in_default.field-1.items c.node.ensures.tree w.in_default.is refl in
          rw w.names-is
          (flat_next (λ i. variable_name (type_at tys i)) [] c.args.ids.now c.loop-id.id-index c.id-item.result
          c.loop-id-test.true c.id-item.is c.loop-id.names.items c.loop-id.names.items [] c.loop-id.invariant
          (ap variable_name root) (sym (append-nil _)))
    ]
