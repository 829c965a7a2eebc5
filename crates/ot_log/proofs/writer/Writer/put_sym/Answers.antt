use Rattle.std.proofs.lemmas.Result.{IfOk-weaker}
use Rattle.ot_logic.specs.declared.command.Cmd.TheVariants as words
use Rattle.ot_logic.proofs.TableLemmas.{Extends-refl}
use Rattle.ot_log_nodes.proofs.TypingLemmas.{typings-grown}
use Rattle.ot_log_rules.specs.Statements.{sequent_at}
use Rattle.ot_log.proofs.Placed.{placed-later}
use Rattle.ot_log.proofs.Putting.{one-applied, one-puts}
use Rattle.ot_machine.specs.Objects.{theorem}
use Rattle.ot_log.proofs.Taken.{sym-proof}
use Rattle.ot_log.proofs.writer.Writer.put_sym.Goals as goal

pub write_symmetric-requires-clause-a : goal.write_symmetric-requires-clause-a
write_symmetric-requires-clause-a c =
    let ts = c.args.self.now.nodes in
    (placed-later c.args.session.now c.args.self.now c.requires.writer ts (Extends-refl ts) c.args.a c.place-p.result
    c.index.result.now c.place-p.ensures.at c.index.ensures).0

pub write_symmetric-requires-clause-value : goal.write_symmetric-requires-clause-value
write_symmetric-requires-clause-value c =
    let ts = c.args.self.now.nodes in
    one-applied c.args.session.now words.Sym c.args.a (theorem (sequent_at ts c.index.result.now)) c.requires.value
    (placed-later c.args.session.now c.args.self.now c.requires.writer ts (Extends-refl ts) c.args.a c.place-p.result
    c.index.result.now c.place-p.ensures.at c.index.ensures).1

pub returns-clause-puts : goal.returns-clause-puts
returns-clause-puts c =
    let s = c.args.session.now in
    let w = c.args.self.now in
    let ts = w.nodes in
    let d = c.write_symmetric in
    let q = placed-later s w c.requires.writer ts (Extends-refl ts) c.args.a c.place-p.result c.index.result.now
    c.place-p.ensures.at
    c.index.ensures in
    IfOk-weaker d.result _ _ (λ m r. one-puts s w c.requires.writer ts d.new.nodes w.values w.typings d.new.sheet
    (Extends-refl ts) d.ensures.extends c.requires.writer.known
    (typings-grown ts d.new.nodes d.ensures.extends w.typings.known.entries c.requires.writer.typings)
    words.Sym c.args.a c.place-p.result (sequent_at ts c.index.result.now) m c.requires.value c.place-p.ensures.at q.1 r)
    d.ensures.records

pub place-p-requires-clause-there : goal.place-p-requires-clause-there
place-p-requires-clause-there c =
    let p = sym-proof c.args.session.now c.args.a c.requires.value in c.requires.there.0 p.0 p.1
