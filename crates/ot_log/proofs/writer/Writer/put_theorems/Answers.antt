use Rattle.std.proofs.lemmas.Result.{IfOk-weaker}
use Rattle.ot_logic.proofs.TableLemmas.{Extends-refl}
use Rattle.ot_log_nodes.proofs.TypingLemmas.{typings-grown}
use Rattle.ot_log_rules.specs.Statements.{sequent_at}
use Rattle.ot_log.proofs.Placed.{placed-later}
use Rattle.ot_log.proofs.Putting.{two-applied, two-puts}
use Rattle.ot_machine.specs.Objects.{theorem}
use Rattle.ot_log.proofs.Taken.{theorems-proofs}
use Rattle.ot_log.proofs.writer.Writer.put_theorems.Goals as goal

pub write_of_theorems-requires-clause-a : goal.write_of_theorems-requires-clause-a
write_of_theorems-requires-clause-a c =
    let ts = c.args.self.now.nodes in
    (placed-later c.args.session.now c.args.self.now c.requires.writer ts (Extends-refl ts) c.args.a c.place-p.result
    c.index.result.now c.place-p.ensures.at c.index.ensures).0

pub write_of_theorems-requires-clause-b : goal.write_of_theorems-requires-clause-b
write_of_theorems-requires-clause-b c =
    let ts = c.args.self.now.nodes in
    (placed-later c.args.session.now c.args.self.now c.requires.writer ts (Extends-refl ts) c.args.b c.place-q.result
    c.index-2.result.now c.place-q.ensures.at c.index-2.ensures).0

pub write_of_theorems-requires-clause-value : goal.write_of_theorems-requires-clause-value
write_of_theorems-requires-clause-value c =
    let s = c.args.session.now in
    let w = c.args.self.now in
    let ts = w.nodes in
    two-applied s c.args.word c.args.a c.args.b (theorem (sequent_at ts c.index.result.now))
    (theorem (sequent_at ts c.index-2.result.now)) c.requires.value
    (placed-later s w c.requires.writer ts (Extends-refl ts) c.args.a c.place-p.result c.index.result.now
    c.place-p.ensures.at
    c.index.ensures).1
    (placed-later s w c.requires.writer ts (Extends-refl ts) c.args.b c.place-q.result c.index-2.result.now
    c.place-q.ensures.at
    c.index-2.ensures).1

pub returns-clause-puts : goal.returns-clause-puts
returns-clause-puts c =
    let s = c.args.session.now in
    let w = c.args.self.now in
    let ts = w.nodes in
    let d = c.write_of_theorems in
    let q = placed-later s w c.requires.writer ts (Extends-refl ts) c.args.a c.place-p.result c.index.result.now
    c.place-p.ensures.at
    c.index.ensures in
    let r = placed-later s w c.requires.writer ts (Extends-refl ts) c.args.b c.place-q.result c.index-2.result.now
    c.place-q.ensures.at
    c.index-2.ensures in
    IfOk-weaker d.result _ _ (λ m x. two-puts s w c.requires.writer ts d.new.nodes w.values w.typings d.new.sheet
    (Extends-refl ts) d.ensures.extends c.requires.writer.known
    (typings-grown ts d.new.nodes d.ensures.extends w.typings.known.entries c.requires.writer.typings)
    c.args.word c.args.a c.args.b c.place-p.result c.place-q.result (sequent_at ts c.index.result.now)
    (sequent_at ts c.index-2.result.now)
    m c.requires.value c.place-p.ensures.at c.place-q.ensures.at q.1 r.1 x) d.ensures.records

pub place-p-requires-clause-there : goal.place-p-requires-clause-there
place-p-requires-clause-there c =
    let p = theorems-proofs c.args.session.now c.args.word c.args.a c.args.b c.requires.takes c.requires.value in
    c.requires.there.0 p.0.0 p.0.1

pub place-q-requires-clause-there : goal.place-q-requires-clause-there
place-q-requires-clause-there c =
    let p = theorems-proofs c.args.session.now c.args.word c.args.a c.args.b c.requires.takes c.requires.value in
    c.requires.there.1.0 p.1.0 p.1.1
