use Rattle.std.proofs.Common.{take}
use Rattle.ot_term.proofs.Gathering.{own_skip, own_push, take_item}
use Rattle.ot_term.proofs.table.Terms.own_types.Goals as goal
use Rattle.ot_term.proofs.table.Terms.own_types.Goals.{in-Some+in_ok-insert, in_default}

pub loop-id-preserved : goal.loop-id-preserved
loop-id-preserved c =
    let t = c.args.self.now in
    let before = take c.loop-id.id-index c.args.ids.now in
    rw (take_item c.args.ids.now c.loop-id.id-index c.id-item.result c.loop-id-test.true c.id-item.is)
    (elim c.match-own_type.branch [
      | in-Some+in_ok-insert w ↦
          rw w.types-is (own_push t before c.loop-id.types.keys c.id-item.result w.in-Some.ty _ c.loop-id.invariant
          w.in-Some.ensures.0 w.in-Some.ensures.1 w.in_ok-insert.ensures.keys)
      | in_default w ↦ rw w.types-is
          (own_skip t before c.loop-id.types.keys c.id-item.result c.loop-id.invariant w.in_default.ensures)
    ])
