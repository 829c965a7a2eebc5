use Rattle.std.proofs.Common.{[]}
use Rattle.ot_logic.specs.Trees.{Bound}
use Rattle.ot_kernel.specs.State.{theorem_at}
use Rattle.ot_pretty.proofs.Propositions.{propositions}
use Rattle.ot_pretty.proofs.laws.one_reads_back.Goals as goal

pub returns : goal.returns
returns c = λ hidden is.
    let s = c.args.kernel.now in
    let q = theorem_at s c.args.th in
    let theorem = c.sound.ensures.theorems c.args.th (record { hyps = []; concl = Bound 0 }) c.requires in
    c.reads_back.ensures hidden is q
    (propositions s c.terms-terms.result.now c.terms-terms.ensures c.sound.ensures.names q c.hyps-hyps.result.now
    c.concl-concl.result c.hyps-hyps.ensures.hyps c.concl-concl.ensures.concl c.hyps-hyps.ensures.inside
    c.concl-concl.ensures.inside theorem.sequent)
