use Rattle.std.proofs.lemmas.Result.{err_from_is_err_and}
use Rattle.ot_kernel.proofs.Discharged.{deduced, not_deduced}
use Rattle.ot_kernel.proofs.discharge.deduct_antisym.Goals as goal

pub returns-in_err-concl-clause-derives : goal.returns-in_err-concl-clause-derives
returns-in_err-concl-clause-derives c =
    let p = err_from_is_err_and c.from_residual-in_err-concl.result c.from_residual-in_err-concl.ensures.1 in
    rw (p.1, p.2) (not_deduced c.args.terms.now c.args.lower.now c.args.top.now c.requires.lower_sequent _
    c.in_err-concl.ensures.makes)

pub returns-clause-derives : goal.returns-clause-derives
returns-clause-derives c =
    deduced c.args.terms.now c.args.lower.now c.args.top.now c.requires.lower_sequent c.equate.new.terms
    c.types-types.ensures.table c.equate.ensures.grown.grows c.in_ok-lower_hyps.lower_hyps.items
    c.in_ok-top_hyps.top_hyps.items (record { hyps = c.in_ok-hyps.hyps; concl = c.in_ok-concl.concl })
    (rw c.deref.ensures.value at c.in_ok-lower_hyps.ensures.minus)
    (rw c.deref-2.ensures.value at c.in_ok-top_hyps.ensures.minus)
    (rw (c.deref-3.ensures.value, c.deref-4.ensures.value) at c.in_ok-hyps.ensures.union)
    c.in_ok-hyps.ensures.inside c.in_ok-concl.ensures.makes
