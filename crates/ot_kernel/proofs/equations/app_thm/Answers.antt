use Rattle.std.proofs.Common.{sym, ◌∙◌}
use Rattle.std.proofs.lemmas.Result.{err_from_is_err_and}
use Rattle.ot_logic.specs.Hol.{union}
use Rattle.ot_logic.specs.Naming.{numbers}
use Rattle.ot_laws.proofs.Tests.{tells_numbers}
use Rattle.ot_kernel.specs.Numbered.{tm_at, numbered_sequent}
use Rattle.ot_kernel.proofs.EquationRules.{app_thm-left}
use Rattle.ot_kernel.proofs.Equating.{union_of, equated_derives, equated_refused, grown_then}
use Rattle.ot_kernel.proofs.BothSides.{right_application_refused, both_applications}
use Rattle.ot_kernel.proofs.equations.app_thm.Goals as goal

pub returns-in_err-left-clause-derives : goal.returns-in_err-left-clause-derives
returns-in_err-left-clause-derives c =
    let p = err_from_is_err_and c.from_residual-in_err-left.result c.from_residual-in_err-left.ensures.1 in
    let ts = c.args.terms.now.terms in
    let (ty, s) = c.in_ok-f.ensures.ok in
    let (uy, r) = c.in_ok-x.ensures.ok in
    rw (p.1, p.2)
    (app_thm-left numbers tells_numbers (numbered_sequent ts c.args.lower.now)
    (numbered_sequent ts c.args.top.now) ty uy (tm_at ts c.in_ok-f.f) (tm_at ts c.in_ok-f.g)
    (tm_at ts c.in_ok-x.x) (tm_at ts c.in_ok-x.y) s.sides r.sides _ s.typed.left r.typed.left
    c.in_err-left.ensures.makes)

pub returns-in_err-right-clause-derives : goal.returns-in_err-right-clause-derives
returns-in_err-right-clause-derives c =
    let p = err_from_is_err_and c.from_residual-in_err-right.result c.from_residual-in_err-right.ensures.1 in
    let (ty, s) = c.in_ok-f.ensures.ok in
    let (uy, r) = c.in_ok-x.ensures.ok in
    rw (p.1, p.2)
    (right_application_refused c.args.terms.now c.apply.new.terms c.args.lower.now c.args.top.now ty uy
    c.in_ok-f.f c.in_ok-f.g c.in_ok-x.x c.in_ok-x.y c.in_ok-left.left s r c.apply.ensures.grown.grows
    c.in_ok-left.ensures.makes _ c.in_err-right.ensures.makes)

pub returns-in_err-right-clause-grown : goal.returns-in_err-right-clause-grown
returns-in_err-right-clause-grown c = grown_then 2 _ _ _ c.apply.ensures.grown c.apply-2.ensures.grown

pub equate-requires-clause-typed : goal.equate-requires-clause-typed
equate-requires-clause-typed c =
    let t = c.args.terms.now in
    let lower = c.args.lower.now in
    let top = c.args.top.now in
    let w = c.apply-2.new.terms in
    let (ty, s) = c.in_ok-f.ensures.ok in
    let (uy, r) = c.in_ok-x.ensures.ok in
    let (b, a) = both_applications t c.apply.new.terms lower top ty uy c.in_ok-f.f c.in_ok-f.g c.in_ok-x.x c.in_ok-x.y
    c.in_ok-left.left s r c.apply.ensures.grown.grows c.in_ok-left.ensures.makes w c.in_ok-right.right
    c.apply-2.ensures.grown.grows c.in_ok-right.ensures.makes in
    a.left ∙ sym a.right

pub returns-in_err-concl-clause-derives : goal.returns-in_err-concl-clause-derives
returns-in_err-concl-clause-derives c =
    let p = err_from_is_err_and c.from_residual-in_err-concl.result c.from_residual-in_err-concl.ensures.1 in
    let t = c.args.terms.now in
    let lower = c.args.lower.now in
    let top = c.args.top.now in
    let w = c.apply-2.new.terms in
    let (ty, s) = c.in_ok-f.ensures.ok in
    let (uy, r) = c.in_ok-x.ensures.ok in
    let (b, a) = both_applications t c.apply.new.terms lower top ty uy c.in_ok-f.f c.in_ok-f.g c.in_ok-x.x c.in_ok-x.y
    c.in_ok-left.left s r c.apply.ensures.grown.grows c.in_ok-left.ensures.makes w c.in_ok-right.right
    c.apply-2.ensures.grown.grows c.in_ok-right.ensures.makes in
    let g = union numbers (numbered_sequent t.terms lower).hyps (numbered_sequent t.terms top).hyps in
    rw (p.1, p.2) (equated_refused _ g (tm_at w.terms c.in_ok-left.left) (tm_at w.terms c.in_ok-right.right) b _
    a.left c.in_err-concl.ensures.makes a.rule)

pub returns-in_err-concl-clause-grown : goal.returns-in_err-concl-clause-grown
returns-in_err-concl-clause-grown c =
    grown_then 2 _ _ _ (grown_then 2 _ _ _ c.apply.ensures.grown c.apply-2.ensures.grown) c.equate.ensures.grown

pub returns-clause-derives : goal.returns-clause-derives
returns-clause-derives c =
    let t = c.args.terms.now in
    let lower = c.args.lower.now in
    let top = c.args.top.now in
    let w = c.apply-2.new.terms in
    let (ty, s) = c.in_ok-f.ensures.ok in
    let (uy, r) = c.in_ok-x.ensures.ok in
    let (b, a) = both_applications t c.apply.new.terms lower top ty uy c.in_ok-f.f c.in_ok-f.g c.in_ok-x.x c.in_ok-x.y
    c.in_ok-left.left s r c.apply.ensures.grown.grows c.in_ok-left.ensures.makes w c.in_ok-right.right
    c.apply-2.ensures.grown.grows c.in_ok-right.ensures.makes in
    let g = union numbers (numbered_sequent t.terms lower).hyps (numbered_sequent t.terms top).hyps in
    let hyps = union_of t.terms lower top c.in_ok-hyps.hyps c.deref.result.now c.deref-2.result.now
    c.in_ok-hyps.ensures.union c.deref.ensures.value c.deref-2.ensures.value in
    let grown = grown_then 2 _ _ _ (grown_then 2 _ _ _ c.apply.ensures.grown c.apply-2.ensures.grown)
    c.equate.ensures.grown in
    equated_derives t c.equate.new.terms c.types-types.ensures.table grown.grows
    (record { hyps = c.in_ok-hyps.hyps; concl = c.in_ok-concl.concl }) g (tm_at w.terms c.in_ok-left.left)
    (tm_at w.terms c.in_ok-right.right) b _
    c.in_ok-hyps.ensures.inside
    hyps
    a.left
    c.in_ok-concl.ensures.makes
    a.rule

pub returns-clause-grown : goal.returns-clause-grown
returns-clause-grown c = grown_then 2 _ _ _ (grown_then 2 _ _ _ c.apply.ensures.grown c.apply-2.ensures.grown)
    c.equate.ensures.grown
