use Rattle.std.proofs.Common.{[], ◌∷◌, refl, sym, subst}
use Rattle.ot_logic.proofs.TableLemmas.{Extends-trans}
use Rattle.ot_logic.specs.declared.command.Cmd.TheVariants as words
use Rattle.ot_log_nodes.proofs.TypingLemmas.{typings-grown}
use Rattle.ot_log_rules.specs.Statements.{sequent_at}
use Rattle.ot_log_rules.specs.Definitions.{pairs_at}
use Rattle.ot_trace.specs.Origins.{NoOrigins, MoreOrigins}
use Rattle.ot_machine.specs.Meaning.{origin_of}
use Rattle.ot_machine.specs.Objects.{list, theorem}
use Rattle.ot_machine.specs.DefinitionLists.{pairs_of}
use Rattle.ot_log_values.specs.Steps.{origins_of}
use Rattle.ot_log_values.specs.Lists.{ArePairsOf}
use Rattle.ot_log.proofs.Accepted.{defines-something, typed-theorem}
use Rattle.ot_log.proofs.Outcomes.{definable-values}
use Rattle.ot_log.proofs.Placed.{placed-later}
use Rattle.ot_log.proofs.Putting.{constants-puts, if-each}
use Rattle.ot_log.proofs.Valued.{has-first, has-rest, more-are, none-are, reads-list}
use Rattle.ot_log.proofs.Taken.{constants-proof, constants-taken}
use Rattle.ot_log.proofs.writer.Writer.put_constants.Goals as goal

pub write_constants-requires-clause-premise : goal.write_constants-requires-clause-premise
write_constants-requires-clause-premise c =
    (placed-later c.args.session.now c.args.self.now c.requires.writer c.pairs.new.nodes c.in_ok-pairs.ensures.extends
    c.args.a
    c.place-p.result c.index.result.now c.place-p.ensures.at c.index.ensures).0

pub write_constants-requires-clause-typed : goal.write_constants-requires-clause-typed
write_constants-requires-clause-typed c =
    let s = c.args.session.now in
    let ts = c.pairs.new.nodes in
    let o = origin_of s c.args.list in
    let up = origin_of s c.args.a in
    let hs = definable-values _ words.DefineConstList (origins_of s (c.args.list ∷ c.args.a ∷ [])) refl
    c.requires.definable in
    let q = placed-later s c.args.self.now c.requires.writer ts c.in_ok-pairs.ensures.extends c.args.a
    c.place-p.result c.index.result.now c.place-p.ensures.at c.index.ensures in
    typed-theorem up (sequent_at ts c.index.result.now)
    (has-first up NoOrigins (has-rest o (MoreOrigins up NoOrigins) hs)) q.1

pub returns-clause-puts : goal.returns-clause-puts
returns-clause-puts c =
    let s = c.args.session.now in
    let w = c.args.self.now in
    let ts = c.pairs.new.nodes in
    let d = c.write_constants in
    let x = d.ensures in
    let t = c.in_ok-pairs.ensures in
    let q = placed-later s w c.requires.writer ts t.extends c.args.a c.place-p.result c.index.result.now
    c.place-p.ensures.at
    c.index.ensures in
    let hs = definable-values _ words.DefineConstList (origins_of s (c.args.list ∷ c.args.a ∷ [])) refl
    c.requires.definable in
    let are = subst (ArePairsOf s ts c.args.list) (sym c.deref.ensures.value) t.made in
    let typings = typings-grown w.nodes d.new.nodes (Extends-trans t.extends x.extends) w.typings.known.entries
    c.requires.writer.typings in
    if-each _ _ _ d.result
    (λ v r. constants-puts s w c.requires.writer ts d.new.nodes c.pairs.new.self w.typings d.new.sheet
    t.extends x.extends t.known typings c.args.list c.args.a c.deref.result.now c.place-p.result
    (sequent_at ts c.index.result.now)
    v.items hs are c.place-p.ensures.at q.1 r) x.defined

pub returns-clause-accepts : goal.returns-clause-accepts
returns-clause-accepts c =
    let s = c.args.session.now in
    let w = c.args.self.now in
    let ts = c.pairs.new.nodes in
    let t = c.in_ok-pairs.ensures in
    let is = c.args.list ∷ c.args.a ∷ [] in
    let o = origin_of s c.args.list in
    let up = origin_of s c.args.a in
    let q = placed-later s w c.requires.writer ts t.extends c.args.a c.place-p.result c.index.result.now
    c.place-p.ensures.at
    c.index.ensures in
    let th = theorem (sequent_at ts c.index.result.now) in
    let hs = definable-values _ words.DefineConstList (origins_of s is) refl c.requires.definable in
    let are = subst (ArePairsOf s ts c.args.list) (sym c.deref.ensures.value) t.made in
    let l = reads-list pairs_of o (pairs_at ts c.deref.result.now) are.read
    (has-first o (MoreOrigins up NoOrigins) hs) in
    let d = defines-something s words.DefineConstList is (list l.0 ∷ th ∷ []) c.requires.definable
    (more-are o (MoreOrigins up NoOrigins) (list l.0) (th ∷ []) l.1 (more-are up NoOrigins th [] q.1 none-are) hs) in
    c.write_constants.ensures.accepts l.0 l.2 d.0 d.1

pub pairs-requires-clause-value : goal.pairs-requires-clause-value
pairs-requires-clause-value c = constants-taken c.args.session.now c.args.list c.args.a c.requires.definable

pub place-p-requires-clause-there : goal.place-p-requires-clause-there
place-p-requires-clause-there c =
    let p = constants-proof c.args.session.now c.args.list c.args.a c.requires.definable in
    c.requires.there.1.0 p.0 p.1
