use Rattle.std.proofs.lemmas.Result.{err_from_is_err_and}
use Rattle.ot_kernel.specs.Numbered.{numbered_sequent}
use Rattle.ot_kernel.proofs.Equating.{outer_derives, outer_refused, union_of}
use Rattle.ot_kernel.proofs.equations.trans.Goals as goal

pub returns-in_err-left-clause-derives : goal.returns-in_err-left-clause-derives
returns-in_err-left-clause-derives c =
    let p = err_from_is_err_and c.from_residual.result c.from_residual.ensures.1 in
    rw (p.1, p.2) c.in_err-left.ensures

pub returns-in_err-concl-clause-derives : goal.returns-in_err-concl-clause-derives
returns-in_err-concl-clause-derives c =
    let p = err_from_is_err_and c.from_residual-in_err-concl.result c.from_residual-in_err-concl.ensures.1 in
    let t = c.args.terms.now in
    let (ty, o) = c.in_ok-left.ensures in
    rw (p.1, p.2)
    (outer_refused t (numbered_sequent t.terms c.args.lower.now) (numbered_sequent t.terms c.args.top.now) ty
    c.in_ok-left.left c.in_ok-left.right o _ c.in_err-concl.ensures.makes)

pub returns-clause-derives : goal.returns-clause-derives
returns-clause-derives c =
    let t = c.args.terms.now in
    let lower = c.args.lower.now in
    let top = c.args.top.now in
    let (ty, o) = c.in_ok-left.ensures in
    let hyps = union_of t.terms lower top c.in_ok-hyps.hyps c.deref.result.now c.deref-2.result.now
    c.in_ok-hyps.ensures.union c.deref.ensures.value c.deref-2.ensures.value in
    outer_derives t (numbered_sequent t.terms lower) (numbered_sequent t.terms top) ty c.in_ok-left.left
    c.in_ok-left.right o c.equate.new.terms c.types-types.ensures.table c.equate.ensures.grown.grows
    (record { hyps = c.in_ok-hyps.hyps; concl = c.in_ok-concl.concl })
    c.in_ok-hyps.ensures.inside
    hyps
    c.in_ok-concl.ensures.makes
