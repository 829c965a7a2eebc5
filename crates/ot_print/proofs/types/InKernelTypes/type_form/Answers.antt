use Rattle.std.specs.List.{All}
use Rattle.std.proofs.Common.{◌<◌, length, arith, sym, subst}
use Rattle.ot_view.specs.Nodes.{IsTypeNode}
use Rattle.ot_print.proofs.Pieces.{operator-form}
use Rattle.ot_print.proofs.types.InKernelTypes.type_form.Goals as goal

pub returns-in-Op : goal.returns-in-Op
returns-in-Op c =
    let s = c.args.self.now.kernel.now in
    let parts = subst (IsTypeNode s c.args.ty.now) c.in-Op.is c.type_node.ensures.inside in
    record {
      is = operator-form s _ c.in-Op.name c.get-in-Op.result.now c.in-Op.args.items c.as_slice.result.now
          (rw c.in-Op.is at c.type_node.ensures.tree) (rw c.names-names.ensures at c.get-in-Op.ensures.name) c.as_slice.ensures;
      inside = subst (All (λ i. i < length s.types)) (sym c.as_slice.ensures)
          (λ j x m. omega (arith, c.requires, parts.1 j x m));
    }
