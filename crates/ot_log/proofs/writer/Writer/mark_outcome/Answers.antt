use Rattle.ot_trace.specs.Origins.{Outcome}
use Rattle.ot_machine.specs.Meaning.{origin_of}
use Rattle.ot_log_words.proofs.Defining.{on-ok}
use Rattle.ot_log.proofs.Outcomes.{outcome-marked, outcome-unmarked, outcome-writer}
use Rattle.ot_log.proofs.writer.Writer.mark_outcome.Goals as goal

pub returns-in-Some-clause-writer : goal.returns-in-Some-clause-writer
returns-in-Some-clause-writer c =
    let s = c.args.session.now in
    let w = c.args.self.now in
    let b = c.count_sequent.new.self in
    let found = c.in-Some.ensures.some in
    on-ok c.mark.result
    (λ k. outcome-writer s c.requires.session w b c.requires.writer c.mark.new.self c.in-Some.step _
    (Outcome c.args.place (origin_of s c.args.id)) found.0 found.1 k c.requires.has c.requires.makes) c.mark.ensures

pub returns-in-Some-clause-nodes : goal.returns-in-Some-clause-nodes
returns-in-Some-clause-nodes c = on-ok c.mark.result (λ k. k.nodes) c.mark.ensures

pub returns-in-Some-clause-moves : goal.returns-in-Some-clause-moves
returns-in-Some-clause-moves c =
    let s = c.args.session.now in
    let w = c.args.self.now in
    let b = c.count_sequent.new.self in
    let found = c.in-Some.ensures.some in
    on-ok c.mark.result
    (λ k. outcome-marked s c.requires.session w b c.requires.writer c.mark.new.self c.in-Some.step _
    (Outcome c.args.place (origin_of s c.args.id)) (c.in_ok-count_sequent.ensures.moves w.nodes) found.0 found.1
    c.sequents-number.ensures k) c.mark.ensures

pub returns-in-None-clause-moves : goal.returns-in-None-clause-moves
returns-in-None-clause-moves c =
    let s = c.args.session.now in
    let w = c.args.self.now in
    outcome-unmarked s c.requires.session w c.count_sequent.new.self c.requires.writer
    (Outcome c.args.place (origin_of s c.args.id)) (c.in_ok-count_sequent.ensures.moves w.nodes)
    c.in-None.ensures.none
