use Rattle.ot_log_rules.specs.Statements.{sequent_at}
use Rattle.ot_log_words.proofs.Recorded.{two-theorems}
use Rattle.ot_log_words.proofs.words.write_of_theorems.Goals as goal

pub unreachable-requires : goal.unreachable-requires
unreachable-requires c =
    let ts = c.args.nodes.now in
    let d = c.in_default in
    two-theorems c.args.word (sequent_at ts c.args.a.now) (sequent_at ts c.args.b.now) c.requires.value.0
    d.not-EqMp d.not-AppThm d.not-DeductAntisym d.not-Trans d.not-ProveHyp c.requires.value.1
