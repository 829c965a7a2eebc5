use Rattle.std.specs.Prelude.{◌≢◌}
use Rattle.std.proofs.Common.{Err, sym, ap, rules}
use Rattle.ot_subst.proofs.Catching.{no-answer, uncaught-outside, found-within, caught-found, caught-itself}
use Rattle.ot_subst.proofs.Taken.{if_ok}
use Rattle.ot_subst.proofs.clash.is_caught.Goals as goal

pub is_free-requires-clause-term : goal.is_free-requires-clause-term
is_free-requires-clause-term g c =
    let other : c.args.x.now ≢ c.args.v.now = search rules in
    found-within (g.N.Nodes.table c.args.terms.now) c.args.work.now.subst.now c.requires.table c.requires.subst
    c.args.v.now c.args.w.now c.args.x.now c.requires.new c.requires.variable other
    (g.N.Nodes.table c.type_inst.new.self) c.in-Ok.ty c.in-Ok.ensures.grown (rw c.types.ensures at c.in-Ok.ensures.ok)
    c.in-Some.id (sym c.in-Some.ensures)

pub returns-in-Some-clause-ok : goal.returns-in-Some-clause-ok
returns-in-Some-clause-ok g c =
    let other : c.args.x.now ≢ c.args.v.now = search rules in
    if_ok c.is_free.result _ _
    (caught-found (g.N.Nodes.table c.args.terms.now) c.args.work.now.subst.now c.requires.table c.requires.subst
    c.args.v.now c.args.w.now c.args.x.now c.requires.new c.requires.variable other
    (g.N.Nodes.table c.type_inst.new.self) c.in-Ok.ty c.in-Ok.ensures.grown (rw c.types.ensures at c.in-Ok.ensures.ok)
    c.in-Some.id (sym c.in-Some.ensures)) c.is_free.ensures

pub returns-in-None-clause-ok : goal.returns-in-None-clause-ok
returns-in-None-clause-ok g c =
    let other : c.args.x.now ≢ c.args.v.now = search rules in
    caught-itself (g.N.Nodes.table c.args.terms.now) c.args.work.now.subst.now c.requires.table c.requires.subst
    c.args.v.now c.args.w.now c.args.x.now c.requires.new c.requires.variable other
    (g.N.Nodes.table c.type_inst.new.self) c.in-Ok.ty c.in-Ok.ensures.grown (rw c.types.ensures at c.in-Ok.ensures.ok)
    (sym c.in-None.ensures) c.eq-in-None.result (search rules)

pub returns-in-Err-Nesting-clause-ok : goal.returns-in-Err-Nesting-clause-ok
returns-in-Err-Nesting-clause-ok g c =
    no-answer
    (uncaught-outside (g.N.Nodes.table c.args.terms.now) c.args.work.now.subst.now c.requires.table c.requires.subst
    c.args.v.now c.args.w.now c.args.x.now c.requires.new c.requires.variable
    (rw c.types.ensures at (c.in-Err-Nesting.ensures.nesting (ap Err c.in-Err-Nesting.field-0-is))))
