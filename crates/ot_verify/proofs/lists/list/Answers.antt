use Rattle.std.specs.Prelude.{Vec}
use Rattle.std.proofs.Common.{◌≡◌, ◌+◌, ◌-◌, suc, ◌∙◌, refl, arith, Global}
use Rattle.ot_io.proofs.Keeping.{KeepsSource-then}
use Rattle.ot_verify.proofs.Collecting.{collects-start, collects-next, collects-end}
use Rattle.ot_verify.proofs.Collecting.{collects-stop, collects-none, collects-memory, advances-then}
use Rattle.ot_verify.proofs.Meeting.{meets-nothing, meets-then}
use Rattle.ot_verify.proofs.lists.list.Goals as goal

pub each-init : goal.each-init
each-init g c = record {
  so_far =
      collects-start g.T.Operand.ask c.new-read.ensures.items (omega arith)
      (c.in_ok-count.ensures.answered c.args.log.now.state);
  meets = meets-nothing c.args.log.now;
  unchanged = λ _. refl;
  advances = c.in_ok-count.ensures.reads.advances;
  kept = c.count.ensures.reads.kept;
}

pub each-preserved : goal.each-preserved
each-preserved g c = record {
  so_far =
      collects-next g.T.Operand.ask
      (λ x y. g.met.T.Operand.later c.each.log c.read.new.log x y c.in_ok-item.ensures.meets)
      c.each.invariant.meets.state c.in_ok-push.ensures.items (omega arith)
      c.each.invariant.so_far c.in_ok-item.ensures.answered;
  meets = meets-then c.args.log.now c.each.log c.read.new.log c.each.invariant.meets c.in_ok-item.ensures.meets;
  unchanged = λ none. c.in_ok-item.ensures.unchanged none ∙ c.each.invariant.unchanged none;
  advances =
      advances-then c.args.reader.now c.each.reader c.read.new.reader c.each.invariant.advances
      c.in_ok-item.ensures.reads.advances;
  kept = KeepsSource-then c.each.invariant.kept c.read.ensures.reads.kept;
}

pub returns-in_err-count-clause-answered : goal.returns-in_err-count-clause-answered
returns-in_err-count-clause-answered g c =
    collects-none g.T.Operand.ask c.from_residual.result c.from_residual.ensures.1
    (c.in_err-count.ensures.answered c.args.log.now.state)

pub returns-in_err-item-clause-answered : goal.returns-in_err-item-clause-answered
returns-in_err-item-clause-answered g c =
    let less : c.in_ok-count.count - c.each.done ≡ suc (c.in_ok-count.count - (c.each.done + 1)) = omega arith in
    collects-stop g.T.Operand.ask c.from_residual-in_err-item.result c.from_residual-in_err-item.ensures.1 c.each.invariant.meets.state less
    c.each.invariant.so_far c.in_err-item.ensures.answered

pub returns-clause-answered : goal.returns-clause-answered
returns-clause-answered g c =
    collects-end g.T.Operand.ask (λ (v : Vec g.row.T-Item.Denot Global). v.items) c.each.read (omega arith)
    c.each.invariant.so_far

pub returns-in_err-push-clause-answered : goal.returns-in_err-push-clause-answered
returns-in_err-push-clause-answered g c =
    collects-memory g.T.Operand.ask c.from_residual-in_err-push.result c.from_residual-in_err-push.ensures.1 c.each.invariant.so_far
    c.in_ok-item.ensures.answered
