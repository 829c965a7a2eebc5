use Rattle.ot_log_words.proofs.Defining.{on-ok}
use Rattle.ot_machine.specs.Meaning.{origin_of}
use Rattle.ot_machine.specs.Objects.{theorem}
use Rattle.ot_log_law.specs.Writing.{write}
use Rattle.ot_log.proofs.Closed.{result-moves}
use Rattle.ot_log.proofs.Numbered.{has-place, write-there}
use Rattle.ot_log.proofs.writer.Writer.result.Goals as goal

pub returns-clause-moves : goal.returns-clause-moves
returns-clause-moves c =
    on-ok c.write.result
    (λ m. result-moves c.args.session.now c.args.self.now c.theorem.new.self c.write.new.self c.args.id
    c.place-p.result c.requires.inside c.place-p.ensures.at c.in_ok-theorem.ensures.moves m) c.write.ensures.moves

pub theorem-requires-clause-value : goal.theorem-requires-clause-value
theorem-requires-clause-value c = (theorem c.requires.proof.0, c.requires.proof.1)

pub place-p-requires-clause-there : goal.place-p-requires-clause-there
place-p-requires-clause-there c =
    let s = c.args.session.now in
    let o = origin_of s c.args.id in
    let k = c.requires.ready in
    has-place s k.0 c.theorem.new.self (write o k.1) (c.in_ok-theorem.ensures.moves k.0 k.1 k.2) c.args.id
    c.requires.inside (write-there o k.1 k.3 c.requires.proof.0 c.requires.proof.1)
