use Rattle.std.proofs.Common.{sym, subst}
use Rattle.ot_log_nodes.proofs.TypingLemmas.{typings-grown}
use Rattle.ot_log_rules.specs.Statements.{sequent_at}
use Rattle.ot_log_values.specs.Lists.{AreMapsOf}
use Rattle.ot_log.proofs.Placed.{placed-later}
use Rattle.ot_log.proofs.Putting.{subst-puts, if-each, reads-maps, two-applied}
use Rattle.ot_logic.specs.declared.command.Cmd.TheVariants as words
use Rattle.ot_machine.specs.Objects.{list, theorem}
use Rattle.ot_log.proofs.Taken.{subst-proof, subst-taken}
use Rattle.ot_log.proofs.writer.Writer.put_subst.Goals as goal

pub write_subst-requires-clause-a : goal.write_subst-requires-clause-a
write_subst-requires-clause-a c =
    (placed-later c.args.session.now c.args.self.now c.requires.writer c.maps.new.nodes c.in_ok-types.ensures.extends
    c.args.a
    c.place-p.result c.index.result.now c.place-p.ensures.at c.index.ensures).0

pub write_subst-requires-clause-known : goal.write_subst-requires-clause-known
write_subst-requires-clause-known c =
    typings-grown c.args.self.now.nodes c.maps.new.nodes c.in_ok-types.ensures.extends
    c.args.self.now.typings.known.entries c.requires.writer.typings

pub returns-clause-puts : goal.returns-clause-puts
returns-clause-puts c =
    let s = c.args.session.now in
    let w = c.args.self.now in
    let ts = c.maps.new.nodes in
    let d = c.write_subst in
    let t = c.in_ok-types.ensures in
    let q = placed-later s w c.requires.writer ts t.extends c.args.a c.place-p.result c.index.result.now
    c.place-p.ensures.at
    c.index.ensures in
    let are = subst (λ l. AreMapsOf s ts c.args.list l c.deref-2.result.now) (sym c.deref.ensures.value)
    (subst (AreMapsOf s ts c.args.list c.in_ok-types.types.items) (sym c.deref-2.ensures.value) t.made) in
    if-each _ _ _ d.result
    (λ m r. subst-puts s w c.requires.writer ts d.new.nodes c.maps.new.self d.new.typings d.new.sheet
    t.extends d.ensures.extends t.known d.ensures.known
    c.args.list c.args.a c.deref.result.now c.deref-2.result.now c.place-p.result (sequent_at ts c.index.result.now) m
    c.requires.value
    are c.place-p.ensures.at q.1 r) d.ensures.records

pub returns-clause-accepts : goal.returns-clause-accepts
returns-clause-accepts c =
    let s = c.args.session.now in
    let ts = c.maps.new.nodes in
    let t = c.in_ok-types.ensures in
    let q = placed-later s c.args.self.now c.requires.writer ts t.extends c.args.a c.place-p.result c.index.result.now
    c.place-p.ensures.at c.index.ensures in
    let th = sequent_at ts c.index.result.now in
    let are = subst (λ l. AreMapsOf s ts c.args.list l c.deref-2.result.now) (sym c.deref.ensures.value)
    (subst (AreMapsOf s ts c.args.list c.in_ok-types.types.items) (sym c.deref-2.ensures.value) t.made) in
    let l = reads-maps s ts c.args.list c.args.a c.deref.result.now c.deref-2.result.now th c.requires.value are
    q.1 in
    c.write_subst.ensures.accepts l.0 l.2
    (two-applied s words.Subst c.args.list c.args.a (list l.0) (theorem th) c.requires.value l.1 q.1)

pub maps-requires-clause-value : goal.maps-requires-clause-value
maps-requires-clause-value c = subst-taken c.args.session.now c.args.list c.args.a c.requires.value

pub place-p-requires-clause-there : goal.place-p-requires-clause-there
place-p-requires-clause-there c =
    let p = subst-proof c.args.session.now c.args.list c.args.a c.requires.value in c.requires.there.1.0 p.0 p.1
