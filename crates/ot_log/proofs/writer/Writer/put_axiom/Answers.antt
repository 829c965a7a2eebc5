use Rattle.std.proofs.Common.{[], ◌∷◌, sym, subst}
use Rattle.ot_logic.proofs.TableLemmas.{Extends-trans}
use Rattle.ot_log_nodes.proofs.TypingLemmas.{typings-grown}
use Rattle.ot_log_values.specs.Lists.{AreTermsOf}
use Rattle.ot_log_values.proofs.Later.{terms-later}
use Rattle.ot_log.proofs.Putting.{axiom-puts, if-each, two-applied}
use Rattle.ot_logic.specs.declared.command.Cmd.TheVariants as words
use Rattle.ot_log_nodes.specs.Items.{term_at}
use Rattle.ot_log_rules.specs.Statements.{terms_at}
use Rattle.ot_trace.specs.Origins.{NoOrigins, MoreOrigins}
use Rattle.ot_machine.specs.Meaning.{origin_of}
use Rattle.ot_machine.specs.Objects.{list, term}
use Rattle.ot_machine.specs.Places.{as_each, as_term}
use Rattle.ot_log_values.specs.Steps.{origins_of}
use Rattle.ot_log.proofs.Valued.{has-first, has-values, reads-list}
use Rattle.ot_log.proofs.Taken.{axiom-taken}
use Rattle.ot_log.proofs.writer.Writer.put_axiom.Goals as goal

pub write_axiom-requires-clause-known : goal.write_axiom-requires-clause-known
write_axiom-requires-clause-known c =
    typings-grown c.args.self.now.nodes c.term.new.nodes
    (Extends-trans c.in_ok-hyps.ensures.extends c.in_ok-concl.ensures.extends) c.args.self.now.typings.known.entries
    c.requires.writer.typings

pub returns-clause-puts : goal.returns-clause-puts
returns-clause-puts c =
    let s = c.args.session.now in
    let w = c.args.self.now in
    let ts = c.term.new.nodes in
    let d = c.write_axiom in
    let h = c.in_ok-hyps.ensures in
    let t = c.in_ok-concl.ensures in
    let e = Extends-trans h.extends t.extends in
    let are = subst (AreTermsOf s ts c.args.list) (sym c.deref.ensures.value)
    (terms-later s c.terms.new.nodes ts t.extends c.args.list c.in_ok-hyps.hyps.items h.made) in
    if-each _ _ _ d.result
    (λ m r. axiom-puts s w c.requires.writer ts d.new.nodes c.term.new.self d.new.typings d.new.sheet e
    d.ensures.extends t.known d.ensures.known
    c.args.list c.args.p c.deref.result.now c.in_ok-concl.concl m c.requires.value are t.made r) d.ensures.records

pub returns-clause-accepts : goal.returns-clause-accepts
returns-clause-accepts c =
    let s = c.args.session.now in
    let ts = c.term.new.nodes in
    let a = c.args.list in
    let d = c.args.p in
    let t = c.in_ok-concl.ensures in
    let are = subst (AreTermsOf s ts a) (sym c.deref.ensures.value)
    (terms-later s c.terms.new.nodes ts t.extends a c.in_ok-hyps.hyps.items c.in_ok-hyps.ensures.made) in
    let has = has-first (origin_of s a) (MoreOrigins (origin_of s d) NoOrigins)
    (has-values words.Axiom (origins_of s (a ∷ d ∷ [])) c.requires.value) in
    let l = reads-list (as_each as_term) (origin_of s a) (terms_at ts c.deref.result.now) are.read has in
    c.write_axiom.ensures.accepts l.0 l.2
    (two-applied s words.Axiom a d (list l.0) (term (term_at ts c.in_ok-concl.concl)) c.requires.value l.1
    t.made.made)

pub terms-requires-clause-value : goal.terms-requires-clause-value
terms-requires-clause-value c = (axiom-taken c.args.session.now c.args.list c.args.p c.requires.value).0

pub term-requires-clause-value : goal.term-requires-clause-value
term-requires-clause-value c = (axiom-taken c.args.session.now c.args.list c.args.p c.requires.value).1
