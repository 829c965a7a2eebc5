use Rattle.std.proofs.Common.{◌∙◌, sym, ap, arith, map}
use Rattle.ot_logic.specs.Trees.{TyOp}
use Rattle.ot_logic.specs.PlainTrees.{type_of_tree, tys_of}
use Rattle.ot_logic.proofs.PlainTrees.{type_Op}
use Rattle.ot_logic.proofs.Copying.{copied-all, copy-more}
use Rattle.ot_parse.proofs.measured.+copy_type.Goals as goal

pub loop-arg-preserved : goal.loop-arg-preserved
loop-arg-preserved t c =
    copy-more type_of_tree c.deref-arg-items.result.now c.loop-arg.copies.items c.push.new.self.items
    c.loop-arg.arg-index c.in_ok-copy_type-in-Op.field-0 c.arg-item.result
    c.loop-arg.invariant (omega arith) c.arg-item.is c.in_ok-copy_type-in-Op.ensures c.in_ok-push-in-Op.ensures.items

pub returns-in_ok-copy-in-Op : goal.returns-in_ok-copy-in-Op
returns-in_ok-copy-in-Op t c =
    type_Op c.in_ok-copy-in-Op.field-0 c.loop-arg.copies
    ∙ ap (λ n. TyOp n (tys_of (map type_of_tree c.loop-arg.copies.items))) c.in_ok-copy-in-Op.ensures
    ∙ ap (λ ts. TyOp c.in-Op.name (tys_of ts))
    (copied-all type_of_tree c.deref-arg-items.result.now c.loop-arg.copies.items c.loop-arg.arg-index
    c.loop-arg.invariant (omega arith) ∙ ap (map type_of_tree) c.deref-arg-items.ensures.value)
    ∙ sym (ap type_of_tree c.in-Op.is ∙ type_Op c.in-Op.name c.in-Op.args)
