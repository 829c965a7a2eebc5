use Rattle.std.proofs.Common.{◌-◌, ◌+◌, sym, subst, arith}
use Rattle.ot_log_nodes.specs.Lists.{list_at, types_of, IsSplit}
use Rattle.ot_log_nodes.proofs.ListLemmas.{split-here, split-later, length-rest}
use Rattle.ot_log_nodes.proofs.table.lists.Lists.behind.Goals as goal

pub returns-then-place-link : goal.returns-then-place-link
returns-then-place-link c =
    let ls = c.args.self.now in
    let l = list_at ls c.loop-link.list in
    let link = c.in-Some.link in
    let front = c.in-Some.ensures in
    c.loop-link.invariant.split link.ty link.rest
    (subst (λ k. IsSplit ls (types_of ls c.loop-link.list) k link.ty link.rest) (sym c.if-place-link.true)
    (split-here ls l link front.0 front.1))

pub loop-link-preserved : goal.loop-link-preserved
loop-link-preserved c =
    let ls = c.args.self.now in
    let l = list_at ls c.loop-link.list in
    let link = c.in-Some.link in
    let front = c.in-Some.ensures in
    let later = c.loop-link.place - (link.skipped + 1) in
    record {
      has = front.0;
      split = λ t b h. c.loop-link.invariant.split t b
          (split-later ls l link c.loop-link.place later t b front.1
          (omega (arith, c.if-place-link.false, c.if-place-link-2.false)) h);
    }

pub loop-link-smaller : goal.loop-link-smaller
loop-link-smaller c =
    let ls = c.args.self.now in
    let l = list_at ls c.loop-link.list in
    let front = c.in-Some.ensures in
    omega (arith, length-rest ls l c.in-Some.link front.1)
