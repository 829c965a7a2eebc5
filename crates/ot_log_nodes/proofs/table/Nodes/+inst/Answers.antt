use Rattle.std.proofs.Common.{◌≡◌, ◌∙◌, ◌<◌, ◌+◌, ◌∷◌, [], ◌++◌, take, length}
use Rattle.std.proofs.Common.{Some, sym, ap, subst, arith, add-one}
use Rattle.std.proofs.Math.Seq.{take-suc}
use Rattle.std.proofs.lemmas.Result.{IfOk-weaker}
use Rattle.ot_logic.specs.Naming.{names}
use Rattle.ot_logic.specs.Trees.{TyOp}
use Rattle.ot_logic.specs.Hol.{inst}
use Rattle.ot_logic.proofs.TableLemmas.{Extends-trans}
use Rattle.ot_log_nodes.specs.Items.{TypeItem, IsType, name_at, type_at, types_at}
use Rattle.ot_log_nodes.specs.Changing.{type_map, HasInstances}
use Rattle.ot_log_nodes.specs.Table.{type_tree, HasTypeParts}
use Rattle.ot_log_nodes.proofs.ItemLemmas.{name-stays, type-stays, still-type, still-types}
use Rattle.ot_log_nodes.proofs.MapLemmas.{type_map-stays, still-types_of, instances-insert, instances-now}
use Rattle.ot_log_nodes.proofs.InstanceLemmas.{instance-found, instance-kept, instances-push, instance-operator}
use Rattle.ot_log_nodes.proofs.table.Nodes.+inst.Goals as goal
use Rattle.ot_logic.proofs.Results.{on_ok}

pub inst-returns-clause-done : goal.inst-returns-clause-done
inst-returns-clause-done t c =
    let ts = c.args.self.now in
    let us = c.inst_node.new.self in
    let es = c.args.pairs.now.entries in
    let e = c.in_ok-instance.ensures.extends in
    let s = type_map-stays ts us e es c.requires.pairs in
    let here = type-stays ts us e c.args.id c.requires.id in
    instances-insert us (type_map us es) c.inst_node.new.done.entries c.insert.new.self.entries c.args.id
    c.in_ok-instance.instance c.in_ok-instance.ensures.done (still-type ts us e c.args.id c.requires.id)
    (c.in_ok-instance.ensures.ok ∙ (λ i. Some (TypeItem (inst names (sym s i) (sym here i)))))
    c.in_ok-insert.ensures.updates.0

pub inst_each-loop-id-preserved : goal.inst_each-loop-id-preserved
inst_each-loop-id-preserved t c =
    let ts = c.args.self.now in
    let us = c.loop-id.self in
    let ws = c.inst.new.self in
    let es = c.args.pairs.now.entries in
    let item = c.id-item.result in
    let d = c.loop-id.invariant.extends in
    let e = c.in_ok-inst.ensures.extends in
    let within : c.loop-id.id-index < length c.args.ids.now = omega arith in
    let same = type_map-stays ts us d es c.requires.pairs in
    let part =
    type-stays ts us d item (subst (λ i. IsType ts i (type_at ts i)) (sym c.id-item.is)
    (c.requires.ids c.loop-id.id-index item within)) in
    let is : IsType ws c.in_ok-inst.field-0 (inst names (type_map ts es) (type_at ts item)) = c.in_ok-inst.ensures.ok
    ∙ (λ i. Some (TypeItem (inst names (same i) (part i)))) in
    let found = instances-push ts us ws (type_map ts es) (take c.loop-id.id-index c.args.ids.now)
    c.loop-id.instances.items item c.in_ok-inst.field-0 c.loop-id.invariant.found e is in
    let ids : take (c.loop-id.id-index + 1) c.args.ids.now ≡ take c.loop-id.id-index c.args.ids.now ++ item ∷ [] =
    rw (add-one, take-suc c.args.ids.now c.loop-id.id-index item within)
    (ap (λ i. take c.loop-id.id-index c.args.ids.now ++ i ∷ []) (sym c.id-item.is)) in
    record {
      extends = Extends-trans d e;
      here = still-types us ws e c.args.ids.now c.loop-id.invariant.here;
      pairs = c.in_ok-inst.ensures.pairs;
      done = c.in_ok-inst.ensures.done;
      found = subst (λ xs. HasInstances ts ws (type_map ts es) xs c.push.new.self.items) (sym ids)
          (subst (HasInstances ts ws (type_map ts es) (take c.loop-id.id-index c.args.ids.now ++ item ∷ []))
          (sym c.in_ok-push.ensures.ok) found);
    }

pub inst_node-returns-in-Some-clause-ok : goal.inst_node-returns-in-Some-clause-ok
inst_node-returns-in-Some-clause-ok t c =
    instance-found c.args.self.now c.type_node.ensures.once c.args.id c.type_node.result.now c.in-Var.name
    c.args.pairs.now.entries c.in-Var.is c.type_node.ensures.tree c.type_node.ensures.parts c.requires.id
    c.requires.pairs c.in-Some.ty.now (sym c.in-Some.ensures.value)

pub inst_node-returns-in-None-clause-ok : goal.inst_node-returns-in-None-clause-ok
inst_node-returns-in-None-clause-ok t c =
    instance-kept c.args.self.now c.type_node.ensures.once c.args.id c.type_node.result.now c.in-Var.name
    c.args.pairs.now.entries c.in-Var.is c.type_node.ensures.tree c.type_node.ensures.parts c.requires.id
    c.requires.pairs (sym c.in-None.ensures.value)

pub inst_node-returns-in_ok-instances-in-Op-clause-ok : goal.inst_node-returns-in_ok-instances-in-Op-clause-ok
inst_node-returns-in_ok-instances-in-Op-clause-ok t c =
    let ts = c.args.self.now in
    let us = c.inst_each.new.self in
    let s = type_map ts c.args.pairs.now.entries in
    let n = c.in-Op.name in
    let parts = subst (HasTypeParts ts) c.in-Op.is c.type_node.ensures.parts in
    let items = c.as_slice-in-Op.ensures ∙ c.in_ok-copied-in-Op.ensures.ok ∙ c.as_slice.ensures in
    let tree = c.type_node.ensures.tree ∙ ap (type_tree ts) c.in-Op.is
    ∙ ap (λ l. TyOp (name_at ts n) (types_at ts l)) (sym items) in
    let found = subst (HasInstances ts us s c.as_slice-in-Op.result.now) (sym c.as_slice-in-Op-2.ensures)
    c.in_ok-instances-in-Op.ensures.ok in
    let made = instance-operator ts us s c.args.id n c.as_slice-in-Op.result.now c.as_slice-in-Op-2.result.now
    (name_at us n) tree found (name-stays ts us c.in_ok-instances-in-Op.ensures.extends n parts.0) in
    IfOk-weaker c.type_op.result _ _ (λ r h. h ∙ ap (λ u. Some (TypeItem u)) made) c.type_op.ensures.ok

pub inst_node-returns-in_ok-instances-in-Op-clause-done : goal.inst_node-returns-in_ok-instances-in-Op-clause-done
inst_node-returns-in_ok-instances-in-Op-clause-done t c =
    on_ok c.type_op.result
    (instances-now c.inst_each.new.self c.type_op.new.self c.type_op.ensures.extends c.args.pairs.now.entries
    c.inst_each.new.done.entries c.in_ok-instances-in-Op.ensures.pairs c.in_ok-instances-in-Op.ensures.done)

pub inst_node-returns-in_ok-instances-in-Op-clause-pairs : goal.inst_node-returns-in_ok-instances-in-Op-clause-pairs
inst_node-returns-in_ok-instances-in-Op-clause-pairs t c =
    on_ok c.type_op.result (still-types_of c.inst_each.new.self c.type_op.new.self c.type_op.ensures.extends
    c.args.pairs.now.entries c.in_ok-instances-in-Op.ensures.pairs)
