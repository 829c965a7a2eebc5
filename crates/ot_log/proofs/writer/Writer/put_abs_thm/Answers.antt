use Rattle.std.proofs.lemmas.Result.{IfOk-weaker}
use Rattle.ot_logic.proofs.TableLemmas.{Extends-trans}
use Rattle.ot_log_nodes.proofs.TypingLemmas.{typings-grown}
use Rattle.ot_log_rules.specs.Statements.{sequent_at}
use Rattle.ot_log.proofs.Placed.{placed-later}
use Rattle.ot_log.proofs.Putting.{abs_thm-puts, two-applied}
use Rattle.ot_logic.specs.declared.command.Cmd.TheVariants as words
use Rattle.ot_log_nodes.specs.Changing.{variable_at}
use Rattle.ot_machine.specs.Objects.{variable, theorem}
use Rattle.ot_log.proofs.Taken.{abs_thm-proof, abs_thm-taken}
use Rattle.ot_log.proofs.writer.Writer.put_abs_thm.Goals as goal

pub write_abs_thm-requires-clause-a : goal.write_abs_thm-requires-clause-a
write_abs_thm-requires-clause-a c =
    (placed-later c.args.session.now c.args.self.now c.requires.writer c.variable.new.nodes
    c.in_ok-variable.ensures.extends
    c.args.a c.place-p.result c.index.result.now c.place-p.ensures.at c.index.ensures).0

pub returns-clause-puts : goal.returns-clause-puts
returns-clause-puts c =
    let s = c.args.session.now in
    let w = c.args.self.now in
    let ts = c.variable.new.nodes in
    let v = c.in_ok-variable.ensures in
    let d = c.write_abs_thm in
    let q = placed-later s w c.requires.writer ts v.extends c.args.a c.place-p.result c.index.result.now
    c.place-p.ensures.at
    c.index.ensures in
    IfOk-weaker d.result _ _
    (λ m r. abs_thm-puts s w c.requires.writer ts d.new.nodes c.variable.new.self w.typings d.new.sheet
    v.extends d.ensures.extends v.known
    (typings-grown w.nodes d.new.nodes (Extends-trans v.extends d.ensures.extends) w.typings.known.entries
    c.requires.writer.typings)
    c.args.v c.args.a c.in_ok-variable.variable c.place-p.result (sequent_at ts c.index.result.now) m c.requires.value
    v.made
    c.place-p.ensures.at q.1 r) d.ensures.records

pub returns-clause-accepts : goal.returns-clause-accepts
returns-clause-accepts c =
    let s = c.args.session.now in
    let ts = c.variable.new.nodes in
    let v = c.in_ok-variable.ensures in
    let q = placed-later s c.args.self.now c.requires.writer ts v.extends c.args.a c.place-p.result c.index.result.now
    c.place-p.ensures.at c.index.ensures in
    c.write_abs_thm.ensures.accepts
    (two-applied s words.AbsThm c.args.v c.args.a (variable (variable_at ts c.in_ok-variable.variable))
    (theorem (sequent_at ts c.index.result.now))
    c.requires.value v.made.made q.1)

pub variable-requires-clause-value : goal.variable-requires-clause-value
variable-requires-clause-value c = abs_thm-taken c.args.session.now c.args.v c.args.a c.requires.value

pub place-p-requires-clause-there : goal.place-p-requires-clause-there
place-p-requires-clause-there c =
    let p = abs_thm-proof c.args.session.now c.args.v c.args.a c.requires.value in c.requires.there.1.0 p.0 p.1
