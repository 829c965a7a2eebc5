use Rattle.std.specs.List.{All}
use Rattle.std.proofs.Common.{subst, take, sym, arith}
use Rattle.std.proofs.lemmas.List.{take_all}
use Rattle.std.proofs.lemmas.List.Elements.{All-nil, All-push, All-map}
use Rattle.ot_kernel.specs.State.{theorem_at}
use Rattle.ot_pretty.specs.Back.{ReadsBackAs}
use Rattle.ot_pretty.proofs.Roots.{take-item}
use Rattle.ot_pretty.proofs.laws.each_reads_back.Goals as goal

pub loop-th-init : goal.loop-th-init
loop-th-init c = λ hidden is. All-nil (λ th. ReadsBackAs hidden (theorem_at c.args.kernel.now th))

pub loop-th-preserved : goal.loop-th-preserved
loop-th-preserved c = λ hidden is.
    subst (All (λ th. ReadsBackAs hidden (theorem_at c.args.kernel.now th)))
    (sym (take-item c.args.theorems.now c.loop-th.th-index c.th-item.result c.loop-th-test.true c.th-item.is))
    (All-push (λ th. ReadsBackAs hidden (theorem_at c.args.kernel.now th))
    (take c.loop-th.th-index c.args.theorems.now) c.th-item.result (c.loop-th.invariant hidden is)
    (c.one_reads_back.ensures hidden is))

pub returns : goal.returns
returns c = λ hidden is.
    All-map (ReadsBackAs hidden) (theorem_at c.args.kernel.now) c.args.theorems.now
    (subst (All (λ th. ReadsBackAs hidden (theorem_at c.args.kernel.now th)))
    (take_all c.loop-th.th-index c.args.theorems.now (omega arith)) (c.loop-th.invariant hidden is))
