use Rattle.std.specs.List.{All}
use Rattle.std.proofs.Common.{sym, subst}
use Rattle.ot_log_nodes.specs.Items.{HasType}
use Rattle.ot_log_nodes.specs.Table.{HasTypeParts}
use Rattle.ot_log_text.proofs.Pieces.{operator-form}
use Rattle.ot_log_text.proofs.types.InNodesTypes.type_form.Goals as goal

pub returns-in-Op : goal.returns-in-Op
returns-in-Op c =
    let ts = c.args.self.now.nodes.now in
    let parts = subst (HasTypeParts ts) c.in-Op.is c.type_node.ensures.parts in
    record {
      is = operator-form ts _ c.in-Op.name c.name_of-in-Op.result.now c.in-Op.args.items c.as_slice.result.now
          (rw c.in-Op.is at c.type_node.ensures.tree) c.name_of-in-Op.ensures c.as_slice.ensures;
      inside = subst (All (HasType ts)) (sym c.as_slice.ensures) parts.1;
    }
