use Rattle.std.specs.List.{All}
use Rattle.std.proofs.Common.{◌<◌, length, sym, ap, subst, ◌∙◌}
use Rattle.std.proofs.lemmas.Result.{err_from_is_err_and}
use Rattle.ot_logic.specs.Naming.{numbers}
use Rattle.ot_kernel.specs.Numbered.{tm_at, tms_at, numbered_sequent}
use Rattle.ot_kernel.proofs.EquationRules.{sym-is}
use Rattle.ot_kernel.proofs.Equating.{equated_derives, equated_refused}
use Rattle.ot_kernel.proofs.equations.sym.Goals as goal

pub returns-in_err-concl-clause-derives : goal.returns-in_err-concl-clause-derives
returns-in_err-concl-clause-derives c =
    let p = err_from_is_err_and c.from_residual-in_err-concl.result c.from_residual-in_err-concl.ensures.1 in
    let ts = c.args.terms.now.terms in
    let q = numbered_sequent ts c.args.th.now in
    let (ty, s) = c.in_ok-t.ensures.ok in
    rw (p.1, p.2) (equated_refused _ q.hyps (tm_at ts c.in_ok-t.u) (tm_at ts c.in_ok-t.t) ty _ s.typed.right
    c.in_err-concl.ensures.makes (sym-is numbers q ty (tm_at ts c.in_ok-t.t) (tm_at ts c.in_ok-t.u) s.sides))

pub returns-clause-derives : goal.returns-clause-derives
returns-clause-derives c =
    let t = c.args.terms.now in
    let q = numbered_sequent t.terms c.args.th.now in
    let (ty, s) = c.in_ok-t.ensures.ok in
    let same = c.in_ok-hyps.ensures.items ∙ c.deref.ensures.value in
    let inside = subst (All (λ i. i < length t.terms)) (sym same) c.requires.hyps in
    equated_derives t c.equate.new.terms c.types-types.ensures.table c.equate.ensures.grown.grows
    (record { hyps = c.in_ok-hyps.hyps; concl = c.in_ok-concl.concl }) q.hyps (tm_at t.terms c.in_ok-t.u)
    (tm_at t.terms c.in_ok-t.t) ty _
    inside
    (ap (tms_at t.terms) same)
    s.typed.right
    c.in_ok-concl.ensures.makes
    (sym-is numbers q ty (tm_at t.terms c.in_ok-t.t) (tm_at t.terms c.in_ok-t.u) s.sides)
