use Rattle.std.proofs.Common.{arith, ap, sym, Err}
use Rattle.std.proofs.lemmas.Option.{slice_get_within}
use Rattle.ot_term.proofs.Growing.{grown_within}
use Rattle.ot_subst.specs.Renamed.{pairs_of}
use Rattle.ot_subst.proofs.Variables.{renamed-lookup, bound-lookup, becomes-renamed}
use Rattle.ot_subst.proofs.Variables.{becomes-deep, becomes-found, becomes-kept}
use Rattle.ot_subst.proofs.images.image_of.Goals as goal
use Rattle.ot_logic.proofs.Results.{same_Err}

pub var-requires : goal.var-requires
var-requires g c = renamed-lookup (g.N.Nodes.table c.args.terms.now) c.args.subst.now c.args.v c.in-Some.new
    (pairs_of c.args.renamed.now) c.requires.ready.binders (sym c.in-Some.ensures)

pub returns-in-Some-clause-ok : goal.returns-in-Some-clause-ok
returns-in-Some-clause-ok g c = becomes-renamed (g.N.Nodes.table c.args.terms.now) c.args.subst.now
    (pairs_of c.args.renamed.now) c.args.v c.requires.ready c.requires.variable (g.N.Nodes.table c.var.new.self)
    c.in-Some.new c.in_ok-var.field-0 (sym c.in-Some.ensures) c.in_ok-var.ensures.ok

pub returns-in-Some-clause-grown : goal.returns-in-Some-clause-grown
returns-in-Some-clause-grown g c =
    grown_within _ _ _ _ c.var.ensures.grown
    (let low = bound-lookup c.args.v c.in-Some.new (pairs_of c.args.renamed.now) (sym c.in-Some.ensures) in
    omega (arith, low))

pub returns-in_err-ty-clause-nesting : goal.returns-in_err-ty-clause-nesting
returns-in_err-ty-clause-nesting g c p = becomes-deep (g.N.Nodes.table c.args.terms.now) c.args.subst.now
    (pairs_of c.args.renamed.now) c.args.v c.requires.ready c.requires.variable (sym c.in_default.ensures)
    (rw c.types.ensures at
    (c.in_err-ty.ensures.nesting
    (ap Err (same_Err c.from_residual-in_err-ty.result _ _ c.from_residual-in_err-ty.ensures.1 p))))

pub var-requires-in-None : goal.var-requires-in-None
var-requires-in-None g c = slice_get_within (g.N.Nodes.table c.type_inst.new.self).types c.in_ok-ty.ty _
    c.in_ok-ty.ensures.ok

pub returns-in-Some-get-clause-ok : goal.returns-in-Some-get-clause-ok
returns-in-Some-get-clause-ok g c =
    becomes-found (g.N.Nodes.table c.args.terms.now) c.args.subst.now (pairs_of c.args.renamed.now) c.args.v
    c.requires.ready c.requires.variable (sym c.in_default.ensures)
    (g.N.Nodes.table c.type_inst.new.self) c.in_ok-ty.ty c.in_ok-ty.ensures.grown
    (rw c.types.ensures at c.in_ok-ty.ensures.ok) c.in-Some-get.id (sym c.in-Some-get.ensures)

pub returns-in_ok-var-in-None-clause-ok : goal.returns-in_ok-var-in-None-clause-ok
returns-in_ok-var-in-None-clause-ok g c =
    becomes-kept (g.N.Nodes.table c.args.terms.now) c.args.subst.now (pairs_of c.args.renamed.now) c.args.v
    c.requires.ready c.requires.variable (sym c.in_default.ensures)
    (g.N.Nodes.table c.type_inst.new.self) c.in_ok-ty.ty c.in_ok-ty.ensures.grown
    (rw c.types.ensures at c.in_ok-ty.ensures.ok) (g.N.Nodes.table c.var-in-None.new.self)
    c.in_ok-var-in-None.field-0 (sym c.in-None.ensures) c.in_ok-var-in-None.ensures.ok
