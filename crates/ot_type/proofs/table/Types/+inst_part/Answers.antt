use Rattle.std.proofs.Common.{◌<◌, ◌∙◌, Err, Some, ap, subst, sym, arith}
use Rattle.std.specs.List.{All}
use Rattle.ot_logic.specs.Hol.{depth_ty, depth_limit}
use Rattle.ot_logic.specs.Naming.{numbers}
use Rattle.ot_logic.proofs.Results.{same_Err}
use Rattle.ot_logic.proofs.TableLemmas.{Extends-trans}
use Rattle.ot_logic.proofs.Members.{All-at_member}
use Rattle.ot_type.specs.Instance.{IsMemo}
use Rattle.ot_type.specs.TypeTable.{images, ArgsBelow}
use Rattle.ot_type.proofs.SubtypeLemmas.{above-le}
use Rattle.ot_type.proofs.TypeTableLemmas.{node_op}
use Rattle.ot_type.proofs.InstLemmas.{ground_put, instance_var, name_within, results_below, instance_op, IsMemo-Extends}
use Rattle.ot_type.proofs.InstLemmas.{images-Extends, pairs_stay, same_instance, item_low, item_now, item_nesting}
use Rattle.ot_type.proofs.InstLemmas.{goes_on}
use Rattle.ot_type.proofs.table.Types.+inst_part.Goals as goal

pub inst_part-returns-then-is_ground-clause-ok : goal.inst_part-returns-then-is_ground-clause-ok
inst_part-returns-then-is_ground-clause-ok t c =
    ground_put c.args.self.now c.args.s.now c.args.id (sym c.is_ground.ensures ∙ c.if-is_ground.true) c.requires.id

pub inst_part-returns-in-Var-clause-ok : goal.inst_part-returns-in-Var-clause-ok
inst_part-returns-in-Var-clause-ok t c = instance_var c.args.self.now c.args.id c.node.result.now c.in-Var.name
    c.args.s.now c.unwrap_or.result c.node.ensures.tree c.in-Var.is c.requires.pairs
    (rw (← c.get.ensures) c.unwrap_or.ensures)

pub inst_part-inst_parts-requires : goal.inst_part-inst_parts-requires
inst_part-inst_parts-requires t c =
    let below : All (λ i. i < c.args.id) c.as_slice-2.result.now =
    rw (c.as_slice-2.ensures, c.in_ok-from_slice-in-Op.ensures.ok, c.as_slice.ensures)
    (subst (ArgsBelow c.args.id) c.in-Op.is c.node.ensures.args) in (
      omega (
        arith,
        above-le c.as_slice-2.result.now c.args.id
            (λ x m. All-at_member (λ i. i < c.args.id) c.as_slice-2.result.now x below m),
      ),
      (
        (λ i d within. let low = below i d within in omega (arith, low, c.requires.id)),
        (c.requires.pairs, c.requires.done),
      ),
    )

pub inst_part-returns-in_err-instances-clause-nesting : goal.inst_part-returns-in_err-instances-clause-nesting
inst_part-returns-in_err-instances-clause-nesting t c p =
    let items = c.as_slice-2.ensures ∙ c.in_ok-from_slice-in-Op.ensures.ok ∙ c.as_slice.ensures in
    let root = node_op c.args.self.now c.args.id c.node.result.now c.in-Op.name c.in-Op.args c.as_slice-2.result.now
    c.node.ensures.tree c.in-Op.is items in
    let deep = c.in_err-instances.ensures.nesting
    (ap Err (same_Err c.from_residual-in_err-instances.result _ _ c.from_residual-in_err-instances.ensures.1 p)) in
    rw root (omega (arith, deep))

pub inst_part-op-requires : goal.inst_part-op-requires
inst_part-op-requires t c = rw c.as_slice-3.ensures (results_below c.args.self.now c.inst_parts.new.self c.args.s.now
    c.as_slice-2.result.now c.in_ok-instances.instances.items c.in_ok-instances.ensures.ok)

pub inst_part-returns-in_err-instance-clause-nesting : goal.inst_part-returns-in_err-instance-clause-nesting
inst_part-returns-in_err-instance-clause-nesting t c p =
    let made = instance_op c.args.self.now c.inst_parts.new.self c.args.s.now c.args.id c.node.result.now c.in-Op.name
    c.in-Op.args c.as_slice-2.result.now c.in_ok-instances.instances.items c.as_slice-3.result.now c.node.ensures.tree
    c.in-Op.is (c.as_slice-2.ensures ∙ c.in_ok-from_slice-in-Op.ensures.ok ∙ c.as_slice.ensures)
    c.in_ok-instances.ensures.ok c.as_slice-3.ensures in
    subst (λ u. depth_limit < depth_ty numbers u) made
    (c.in_err-instance.ensures.nesting
    (ap Err (same_Err c.from_residual-in_err-instance.result _ _ c.from_residual-in_err-instance.ensures.1 p)))

pub inst_part-returns-in_err-keep-clause-names : goal.inst_part-returns-in_err-keep-clause-names
inst_part-returns-in_err-keep-clause-names t c =
    omega (
      arith,
      name_within c.args.self.now c.args.id c.node.result.now c.in-Op.name c.in-Op.args c.node.ensures.tree c.in-Op.is,
      c.in_ok-instances.ensures.names,
      c.in_ok-instance.ensures.names,
    )

pub inst_part-returns-clause-names : goal.inst_part-returns-clause-names
inst_part-returns-clause-names t c =
    omega (
      arith,
      name_within c.args.self.now c.args.id c.node.result.now c.in-Op.name c.in-Op.args c.node.ensures.tree c.in-Op.is,
      c.in_ok-instances.ensures.names,
      c.in_ok-instance.ensures.names,
    )

pub inst_part-returns-clause-ok : goal.inst_part-returns-clause-ok
inst_part-returns-clause-ok t c =
    let made = instance_op c.args.self.now c.inst_parts.new.self c.args.s.now c.args.id c.node.result.now c.in-Op.name
    c.in-Op.args c.as_slice-2.result.now c.in_ok-instances.instances.items c.as_slice-3.result.now c.node.ensures.tree
    c.in-Op.is (c.as_slice-2.ensures ∙ c.in_ok-from_slice-in-Op.ensures.ok ∙ c.as_slice.ensures)
    c.in_ok-instances.ensures.ok c.as_slice-3.ensures in
    c.in_ok-instance.ensures.ok ∙ ap Some made

pub inst_part-returns-clause-done : goal.inst_part-returns-clause-done
inst_part-returns-clause-done t c =
    let made = instance_op c.args.self.now c.inst_parts.new.self c.args.s.now c.args.id c.node.result.now c.in-Op.name
    c.in-Op.args c.as_slice-2.result.now c.in_ok-instances.instances.items c.as_slice-3.result.now c.node.ensures.tree
    c.in-Op.is (c.as_slice-2.ensures ∙ c.in_ok-from_slice-in-Op.ensures.ok ∙ c.as_slice.ensures)
    c.in_ok-instances.ensures.ok c.as_slice-3.ensures in
    let ts = c.args.self.now in
    let us = c.inst_parts.new.self in
    let vs = c.op.new.self in
    let s = c.args.s.now in
    let whole = Extends-trans c.in_ok-instances.ensures.extends c.in_ok-instance.ensures.extends in
    let pairs = pairs_stay ts us c.in_ok-instances.ensures.extends s c.requires.pairs in
    let memo = subst (λ i. IsMemo vs i c.inst_parts.new.done.entries)
    (sym (images-Extends us vs c.in_ok-instance.ensures.extends s pairs))
    (IsMemo-Extends us vs c.in_ok-instance.ensures.extends (images us s) c.inst_parts.new.done.entries
    c.in_ok-instances.ensures.done) in
    c.in_ok-keep.ensures vs (images vs s) memo (omega (arith, c.requires.id, whole.longer))
    (c.in_ok-instance.ensures.ok ∙ ap Some made
    ∙ ap Some (sym (same_instance s ts vs whole c.requires.pairs c.args.id c.requires.id)))

pub inst_parts-inst_part-requires : goal.inst_parts-inst_part-requires
inst_parts-inst_part-requires t c =
    let ids = c.args.ids.now in
    let ts = c.args.self.now in
    let us = c.loop-id.self in
    let s = c.args.s.now in
    let before = c.loop-id.invariant in (
      omega (
        arith,
        item_low s ts us c.loop-id.done.entries ids c.loop-id.found.items c.loop-id.id-index
            c.id-item.result c.requires.pairs c.requires.ids c.loop-id-test.true c.id-item.is before,
      ),
      (
        item_now s ts us c.loop-id.done.entries ids c.loop-id.found.items c.loop-id.id-index c.id-item.result
            c.requires.pairs c.requires.ids c.loop-id-test.true c.id-item.is before,
        (pairs_stay ts us before.extends s c.requires.pairs, before.memo),
      ),
    )

pub inst_parts-returns-in_err-instance-clause-nesting : goal.inst_parts-returns-in_err-instance-clause-nesting
inst_parts-returns-in_err-instance-clause-nesting t c p =
    item_nesting c.args.s.now c.args.self.now c.loop-id.self c.loop-id.done.entries c.args.ids.now
    c.loop-id.found.items c.loop-id.id-index c.id-item.result c.requires.pairs c.requires.ids c.loop-id-test.true
    c.id-item.is c.loop-id.invariant
    (c.in_err-instance.ensures.nesting
    (ap Err (same_Err c.from_residual.result _ _ c.from_residual.ensures.1 p)))

pub inst_parts-loop-id-preserved : goal.inst_parts-loop-id-preserved
inst_parts-loop-id-preserved t c =
    rw c.in_ok-push.ensures.ok
    (goes_on c.args.s.now c.args.self.now c.loop-id.self c.loop-id.done.entries c.args.ids.now c.loop-id.found.items
    c.loop-id.id-index c.id-item.result c.requires.pairs c.requires.ids c.loop-id-test.true c.id-item.is
    c.loop-id.invariant c.inst_part.new.self c.inst_part.new.done.entries c.in_ok-instance.instance
    c.in_ok-instance.ensures.extends c.in_ok-instance.ensures.table c.in_ok-instance.ensures.names
    c.in_ok-instance.ensures.ok c.in_ok-instance.ensures.done)
