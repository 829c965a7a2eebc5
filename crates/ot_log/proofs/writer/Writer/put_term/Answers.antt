use Rattle.std.proofs.Common.{[], ◌∷◌}
use Rattle.std.proofs.lemmas.Result.{IfOk-weaker}
use Rattle.ot_log_nodes.proofs.TypingLemmas.{typings-grown}
use Rattle.ot_log.proofs.Putting.{one-applied, term-puts}
use Rattle.ot_log_nodes.specs.Items.{term_at}
use Rattle.ot_trace.specs.Origins.{NoOrigins}
use Rattle.ot_machine.specs.Meaning.{origin_of}
use Rattle.ot_machine.specs.Objects.{term}
use Rattle.ot_log_values.specs.Steps.{origins_of}
use Rattle.ot_log.proofs.Accepted.{typed-term}
use Rattle.ot_log.proofs.Valued.{has-first, has-values}
use Rattle.ot_log.proofs.Taken.{term-taken}
use Rattle.ot_log.proofs.writer.Writer.put_term.Goals as goal

pub write_of_one_term-requires-clause-known : goal.write_of_one_term-requires-clause-known
write_of_one_term-requires-clause-known c =
    typings-grown c.args.self.now.nodes c.term.new.nodes c.in_ok-t.ensures.extends
    c.args.self.now.typings.known.entries c.requires.writer.typings

pub returns-clause-puts : goal.returns-clause-puts
returns-clause-puts c =
    let t = c.in_ok-t.ensures in
    let d = c.write_of_one_term in
    IfOk-weaker d.result _ _
    (λ m r. term-puts c.args.session.now c.args.self.now c.requires.writer c.term.new.nodes d.new.nodes
    c.term.new.self d.new.typings d.new.sheet t.extends d.ensures.extends t.known d.ensures.known
    c.args.word c.args.a c.in_ok-t.t m c.requires.value t.made r) d.ensures.records

pub returns-clause-accepts : goal.returns-clause-accepts
returns-clause-accepts c =
    let s = c.args.session.now in
    let a = c.args.a in
    let t = term_at c.term.new.nodes c.in_ok-t.t in
    let is = c.in_ok-t.ensures.made.made in
    let has = has-first (origin_of s a) NoOrigins (has-values c.args.word (origins_of s (a ∷ [])) c.requires.value) in
    c.write_of_one_term.ensures.accepts (typed-term (origin_of s a) t has is)
    (one-applied s c.args.word a (term t) c.requires.value is)

pub term-requires-clause-value : goal.term-requires-clause-value
term-requires-clause-value c = term-taken c.args.session.now c.args.word c.args.a c.requires.takes c.requires.value
