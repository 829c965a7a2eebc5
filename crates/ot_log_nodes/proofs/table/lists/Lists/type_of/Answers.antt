use Rattle.std.proofs.Common.{◌∙◌, ◌-◌, ◌+◌, sym, arith}
use Rattle.ot_log_nodes.specs.Lists.{list_at}
use Rattle.ot_log_nodes.proofs.ListLemmas.{place-here, place-later, place-nowhere, length-rest}
use Rattle.ot_log_nodes.proofs.table.lists.Lists.type_of.Goals as goal

pub returns-then-place-link : goal.returns-then-place-link
returns-then-place-link c =
    let ls = c.args.self.now in
    let l = list_at ls c.loop-link.list in
    let front = c.in-Some.ensures in
    sym (c.loop-link.invariant.same
    ∙ place-here ls l c.in-Some.link front.1 c.loop-link.place c.if-place-link.true)

pub returns : goal.returns
returns c =
    let ls = c.args.self.now in
    let l = list_at ls c.loop-link.list in
    sym (c.loop-link.invariant.same ∙ place-nowhere l c.loop-link.place c.in_default.ensures)

pub loop-link-preserved : goal.loop-link-preserved
loop-link-preserved c =
    let ls = c.args.self.now in
    let l = list_at ls c.loop-link.list in
    let front = c.in-Some.ensures in
    let later = c.loop-link.place - (c.in-Some.link.skipped + 1) in
    record {
      has = front.0;
      same = c.loop-link.invariant.same
          ∙ place-later ls l c.in-Some.link front.1 c.loop-link.place later (omega (arith, c.if-place-link.false));
    }

pub loop-link-smaller : goal.loop-link-smaller
loop-link-smaller c =
    let ls = c.args.self.now in
    let l = list_at ls c.loop-link.list in
    let front = c.in-Some.ensures in
    omega (arith, length-rest ls l c.in-Some.link front.1)
