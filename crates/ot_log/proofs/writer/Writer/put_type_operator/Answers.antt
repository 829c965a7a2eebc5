use Rattle.std.proofs.Common.{[], ◌∷◌, refl, sym, subst}
use Rattle.ot_logic.proofs.TableLemmas.{Extends-trans}
use Rattle.ot_logic.specs.declared.command.Cmd.TheVariants as words
use Rattle.ot_log_nodes.specs.Items.{name_at}
use Rattle.ot_log_nodes.proofs.TypingLemmas.{typings-grown}
use Rattle.ot_log_rules.specs.Statements.{sequent_at}
use Rattle.ot_log_rules.specs.Definitions.{names_at}
use Rattle.ot_trace.specs.Origins.{NoOrigins, MoreOrigins}
use Rattle.ot_machine.specs.Meaning.{origin_of}
use Rattle.ot_machine.specs.Objects.{list, name, theorem}
use Rattle.ot_machine.specs.Places.{as_each, as_name}
use Rattle.ot_log_values.specs.Steps.{origins_of}
use Rattle.ot_log_values.specs.Lists.{AreNamesOf}
use Rattle.ot_log_values.proofs.Later.{known-later, name-later}
use Rattle.ot_log.proofs.Accepted.{defines-something, typed-theorem}
use Rattle.ot_log.proofs.Outcomes.{definable-values}
use Rattle.ot_log.proofs.Placed.{placed-later}
use Rattle.ot_log.proofs.Putting.{if-each, type_operator-puts, type_operator-values}
use Rattle.ot_log.proofs.Valued.{has-first, has-rest, reads-list}
use Rattle.ot_log.proofs.Taken.{type_operator-taken}
use Rattle.ot_log.proofs.writer.Writer.put_type_operator.Goals as goal

pub write_type_operator-requires-clause-n : goal.write_type_operator-requires-clause-n
write_type_operator-requires-clause-n c =
    let f = Extends-trans c.in_ok-from.ensures.extends c.in_ok-vars.ensures.extends in
    let g = Extends-trans c.in_ok-to.ensures.extends f in
    (name-later c.args.session.now _ c.names.new.nodes g c.args.n c.in_ok-operator.operator
    c.in_ok-operator.ensures.made).has

pub write_type_operator-requires-clause-abs : goal.write_type_operator-requires-clause-abs
write_type_operator-requires-clause-abs c =
    let f = Extends-trans c.in_ok-from.ensures.extends c.in_ok-vars.ensures.extends in
    (name-later c.args.session.now _ c.names.new.nodes f c.args.abs c.in_ok-to.to c.in_ok-to.ensures.made).has

pub write_type_operator-requires-clause-rep : goal.write_type_operator-requires-clause-rep
write_type_operator-requires-clause-rep c =
    (name-later c.args.session.now _ c.names.new.nodes c.in_ok-vars.ensures.extends c.args.rep c.in_ok-from.from
    c.in_ok-from.ensures.made).has

pub write_type_operator-requires-clause-premise : goal.write_type_operator-requires-clause-premise
write_type_operator-requires-clause-premise c =
    let e = Extends-trans (Extends-trans (Extends-trans c.in_ok-operator.ensures.extends c.in_ok-to.ensures.extends)
    c.in_ok-from.ensures.extends) c.in_ok-vars.ensures.extends in
    (placed-later c.args.session.now c.args.self.now c.requires.writer c.names.new.nodes e c.args.a
    c.place-p.result c.index.result.now c.place-p.ensures.at c.index.ensures).0

pub write_type_operator-requires-clause-typed : goal.write_type_operator-requires-clause-typed
write_type_operator-requires-clause-typed c =
    let s = c.args.session.now in
    let ts = c.names.new.nodes in
    let e = Extends-trans (Extends-trans (Extends-trans c.in_ok-operator.ensures.extends c.in_ok-to.ensures.extends)
    c.in_ok-from.ensures.extends) c.in_ok-vars.ensures.extends in
    let q = placed-later s c.args.self.now c.requires.writer ts e c.args.a
    c.place-p.result c.index.result.now c.place-p.ensures.at c.index.ensures in
    let is = c.args.n ∷ c.args.abs ∷ c.args.rep ∷ c.args.list ∷ c.args.a ∷ [] in
    let hs = definable-values _ words.DefineTypeOp (origins_of s is) refl c.requires.definable in
    let up = origin_of s c.args.a in
    let r4 = MoreOrigins up NoOrigins in
    let r3 = MoreOrigins (origin_of s c.args.list) r4 in
    let r2 = MoreOrigins (origin_of s c.args.rep) r3 in
    let r1 = MoreOrigins (origin_of s c.args.abs) r2 in
    typed-theorem up (sequent_at ts c.index.result.now)
    (has-first up NoOrigins (has-rest (origin_of s c.args.list) r4 (has-rest (origin_of s c.args.rep) r3
    (has-rest (origin_of s c.args.abs) r2 (has-rest (origin_of s c.args.n) r1 hs))))) q.1

pub write_type_operator-requires-clause-known : goal.write_type_operator-requires-clause-known
write_type_operator-requires-clause-known c =
    let e = Extends-trans (Extends-trans (Extends-trans c.in_ok-operator.ensures.extends c.in_ok-to.ensures.extends)
    c.in_ok-from.ensures.extends) c.in_ok-vars.ensures.extends in
    typings-grown c.args.self.now.nodes c.names.new.nodes e c.args.self.now.typings.known.entries
    c.requires.writer.typings

pub returns-clause-puts : goal.returns-clause-puts
returns-clause-puts c =
    let s = c.args.session.now in
    let w = c.args.self.now in
    let ts = c.names.new.nodes in
    let d = c.write_type_operator in
    let x = d.ensures in
    let f = Extends-trans c.in_ok-from.ensures.extends c.in_ok-vars.ensures.extends in
    let g = Extends-trans c.in_ok-to.ensures.extends f in
    let e = Extends-trans c.in_ok-operator.ensures.extends g in
    let n = name-later s _ ts g c.args.n c.in_ok-operator.operator c.in_ok-operator.ensures.made in
    let to = name-later s _ ts f c.args.abs c.in_ok-to.to c.in_ok-to.ensures.made in
    let from = name-later s _ ts c.in_ok-vars.ensures.extends c.args.rep c.in_ok-from.from
    c.in_ok-from.ensures.made in
    let q = placed-later s w c.requires.writer ts e c.args.a c.place-p.result c.index.result.now c.place-p.ensures.at
    c.index.ensures in
    let is = c.args.n ∷ c.args.abs ∷ c.args.rep ∷ c.args.list ∷ c.args.a ∷ [] in
    let hs = definable-values _ words.DefineTypeOp (origins_of s is) refl c.requires.definable in
    let are = subst (AreNamesOf s ts c.args.list) (sym c.deref.ensures.value) c.in_ok-vars.ensures.made in
    if-each _ _ _ d.result
    (λ v r. type_operator-puts s w c.requires.writer ts d.new.nodes w.values d.new.typings d.new.sheet
    e x.extends (known-later s w.nodes ts e w.values c.requires.writer.known) x.known
    c.args.n c.args.abs c.args.rep c.args.list c.args.a c.in_ok-operator.operator c.in_ok-to.to c.in_ok-from.from
    c.deref.result.now
    c.place-p.result (sequent_at ts c.index.result.now) v.items hs n to from are c.place-p.ensures.at q.1 r) x.defined

pub returns-clause-accepts : goal.returns-clause-accepts
returns-clause-accepts c =
    let s = c.args.session.now in
    let ts = c.names.new.nodes in
    let f = Extends-trans c.in_ok-from.ensures.extends c.in_ok-vars.ensures.extends in
    let g = Extends-trans c.in_ok-to.ensures.extends f in
    let e = Extends-trans c.in_ok-operator.ensures.extends g in
    let n = name-later s _ ts g c.args.n c.in_ok-operator.operator c.in_ok-operator.ensures.made in
    let to = name-later s _ ts f c.args.abs c.in_ok-to.to c.in_ok-to.ensures.made in
    let from = name-later s _ ts c.in_ok-vars.ensures.extends c.args.rep c.in_ok-from.from
    c.in_ok-from.ensures.made in
    let q = placed-later s c.args.self.now c.requires.writer ts e c.args.a
    c.place-p.result c.index.result.now c.place-p.ensures.at c.index.ensures in
    let th = sequent_at ts c.index.result.now in
    let is = c.args.n ∷ c.args.abs ∷ c.args.rep ∷ c.args.list ∷ c.args.a ∷ [] in
    let hs = definable-values _ words.DefineTypeOp (origins_of s is) refl c.requires.definable in
    let are = subst (AreNamesOf s ts c.args.list) (sym c.deref.ensures.value) c.in_ok-vars.ensures.made in
    let og = origin_of s c.args.list in
    let r4 = MoreOrigins (origin_of s c.args.a) NoOrigins in
    let r3 = MoreOrigins og r4 in
    let r2 = MoreOrigins (origin_of s c.args.rep) r3 in
    let r1 = MoreOrigins (origin_of s c.args.abs) r2 in
    let has = has-first og r4
    (has-rest (origin_of s c.args.rep) r3
    (has-rest (origin_of s c.args.abs) r2 (has-rest (origin_of s c.args.n) r1 hs))) in
    let l = reads-list (as_each as_name) og (names_at ts c.deref.result.now) are.read has in
    let vs = name (name_at ts c.in_ok-operator.operator) ∷ name (name_at ts c.in_ok-to.to)
    ∷ name (name_at ts c.in_ok-from.from)
    ∷ list l.0 ∷ theorem th ∷ [] in
    let d = defines-something s words.DefineTypeOp is vs c.requires.definable
    (type_operator-values s ts c.args.n c.args.abs c.args.rep c.args.list c.args.a
    c.in_ok-operator.operator c.in_ok-to.to c.in_ok-from.from l.0 th hs n to from l.1 q.1) in
    c.write_type_operator.ensures.accepts l.0 l.2 d.0 d.1

pub name-requires-clause-value : goal.name-requires-clause-value
name-requires-clause-value c =
    (type_operator-taken c.args.session.now c.args.n c.args.abs c.args.rep c.args.list c.args.a
    c.requires.definable).operator

pub name-requires-2-clause-value : goal.name-requires-2-clause-value
name-requires-2-clause-value c =
    (type_operator-taken c.args.session.now c.args.n c.args.abs c.args.rep c.args.list c.args.a
    c.requires.definable).to

pub name-requires-3-clause-value : goal.name-requires-3-clause-value
name-requires-3-clause-value c =
    (type_operator-taken c.args.session.now c.args.n c.args.abs c.args.rep c.args.list c.args.a
    c.requires.definable).from

pub names-requires-clause-value : goal.names-requires-clause-value
names-requires-clause-value c =
    (type_operator-taken c.args.session.now c.args.n c.args.abs c.args.rep c.args.list c.args.a
    c.requires.definable).vars

pub place-p-requires-clause-there : goal.place-p-requires-clause-there
place-p-requires-clause-there c =
    let p = (type_operator-taken c.args.session.now c.args.n c.args.abs c.args.rep c.args.list c.args.a
    c.requires.definable).proof in
    c.requires.there.1.1.1.1.0 p.0 p.1
