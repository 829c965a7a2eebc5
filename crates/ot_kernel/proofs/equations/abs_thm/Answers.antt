use Rattle.std.specs.List.{All}
use Rattle.std.proofs.Common.{◌≡◌, ℕ, ◌<◌, Bool, false, List, length, sym, ap, subst, ◌∙◌}
use Rattle.std.proofs.lemmas.Result.{err_from_is_err_and}
use Rattle.ot_logic.specs.Hol.{fun_ty, is_free_in_some}
use Rattle.ot_logic.specs.Naming.{numbers}
use Rattle.ot_laws.proofs.Tests.{tells_numbers}
use Rattle.ot_term.specs.Term.{TermTable}
use Rattle.ot_term.specs.TermTable.{variable_of}
use Rattle.ot_term.specs.declared.term.VarKey.{VarKey}
use Rattle.ot_kernel.specs.declared.theorem.Theorem.{Theorem}
use Rattle.ot_kernel.specs.Numbered.{tm_at, tms_at, numbered_sequent, IsGrownBy}
use Rattle.ot_kernel.proofs.EquationRules.{abs_thm-left}
use Rattle.ot_kernel.proofs.Equating.{equated_derives, equated_refused, grown_then, grown_more}
use Rattle.ot_kernel.proofs.BothSides.{right_abstraction_refused, both_abstractions}
use Rattle.ot_kernel.proofs.equations.abs_thm.Goals as goal

-- the test was on the theorem's hypotheses
not_free : (t : TermTable) (v : VarKey) (th : Theorem) (is : List ℕ) (b : Bool)
    → b ≡ is_free_in_some numbers (variable_of t.types v) (tms_at t.terms is) → b ≡ false → is ≡ th.hyps
    → is_free_in_some numbers (variable_of t.types v) (numbered_sequent t.terms th).hyps ≡ false
not_free t v th is b tested off same =
    ap (λ (js : List ℕ). is_free_in_some numbers (variable_of t.types v) (tms_at t.terms js)) (sym same) ∙ sym tested
    ∙ off

-- three steps
all_grown : (n : ℕ) (s t u w : TermTable) → IsGrownBy n s t → IsGrownBy n t u → IsGrownBy 2 u w → IsGrownBy n s w
all_grown n s t u w g h k = grown_then n s u w (grown_then n s t u g h) (grown_more n u w k)

pub returns-in_err-left-clause-derives : goal.returns-in_err-left-clause-derives
returns-in_err-left-clause-derives c =
    let p = err_from_is_err_and c.from_residual-in_err-left.result c.from_residual-in_err-left.ensures.1 in
    let t = c.args.terms.now in
    let th = c.args.th.now in
    let (ty, s) = c.in_ok-t.ensures.ok in
    let off = not_free t c.args.v th _ _ c.in_ok-is_free_in_some.ensures c.if-branch.false c.deref.ensures.value in
    rw (p.1, p.2) (abs_thm-left numbers tells_numbers (variable_of t.types c.args.v) (numbered_sequent t.terms th) ty
    (tm_at t.terms c.in_ok-t.t) (tm_at t.terms c.in_ok-t.u) s.sides off _ c.in_err-left.ensures.makes)

pub returns-in_err-right-clause-derives : goal.returns-in_err-right-clause-derives
returns-in_err-right-clause-derives c =
    let p = err_from_is_err_and c.from_residual-in_err-right.result c.from_residual-in_err-right.ensures.1 in
    let t = c.args.terms.now in
    let th = c.args.th.now in
    let (ty, s) = c.in_ok-t.ensures.ok in
    let off = not_free t c.args.v th _ _ c.in_ok-is_free_in_some.ensures c.if-branch.false c.deref.ensures.value in
    rw (p.1, p.2)
    (right_abstraction_refused t c.abstract_from.new.terms c.args.v th ty c.in_ok-t.t c.in_ok-t.u
    c.in_ok-left.left c.requires.ty s off c.abstract_from.ensures.grown.grows c.in_ok-left.ensures.makes _
    c.in_err-right.ensures.makes)

pub returns-in_err-right-clause-grown : goal.returns-in_err-right-clause-grown
returns-in_err-right-clause-grown c =
    grown_then c.args.v.name _ _ _ c.abstract_from.ensures.grown c.abstract_from-2.ensures.grown

pub equate-requires-clause-typed : goal.equate-requires-clause-typed
equate-requires-clause-typed c =
    let t = c.args.terms.now in
    let v = variable_of t.types c.args.v in
    let th = c.args.th.now in
    let u = c.abstract_from.new.terms in
    let w = c.abstract_from-2.new.terms in
    let (ty, s) = c.in_ok-t.ensures.ok in
    let a = both_abstractions t u c.args.v th ty c.in_ok-t.t c.in_ok-t.u c.in_ok-left.left c.requires.ty s
    (not_free t c.args.v th _ _ c.in_ok-is_free_in_some.ensures c.if-branch.false c.deref.ensures.value)
    c.abstract_from.ensures.grown.grows c.in_ok-left.ensures.makes w c.in_ok-right.right
    c.abstract_from-2.ensures.grown.grows c.in_ok-right.ensures.makes in
    a.left ∙ sym a.right

pub returns-in_err-concl-clause-derives : goal.returns-in_err-concl-clause-derives
returns-in_err-concl-clause-derives c =
    let p = err_from_is_err_and c.from_residual-in_err-concl.result c.from_residual-in_err-concl.ensures.1 in
    let t = c.args.terms.now in
    let v = variable_of t.types c.args.v in
    let th = c.args.th.now in
    let u = c.abstract_from.new.terms in
    let w = c.abstract_from-2.new.terms in
    let (ty, s) = c.in_ok-t.ensures.ok in
    let a = both_abstractions t u c.args.v th ty c.in_ok-t.t c.in_ok-t.u c.in_ok-left.left c.requires.ty s
    (not_free t c.args.v th _ _ c.in_ok-is_free_in_some.ensures c.if-branch.false c.deref.ensures.value)
    c.abstract_from.ensures.grown.grows c.in_ok-left.ensures.makes w c.in_ok-right.right
    c.abstract_from-2.ensures.grown.grows c.in_ok-right.ensures.makes in
    rw (p.1, p.2) (equated_refused _ (numbered_sequent t.terms th).hyps (tm_at w.terms c.in_ok-left.left)
    (tm_at w.terms c.in_ok-right.right) (fun_ty numbers v.ty ty) _ a.left c.in_err-concl.ensures.makes a.rule)

pub returns-in_err-concl-clause-grown : goal.returns-in_err-concl-clause-grown
returns-in_err-concl-clause-grown c = all_grown c.args.v.name _ _ _ _ c.abstract_from.ensures.grown
    c.abstract_from-2.ensures.grown c.equate.ensures.grown

pub returns-in_err-hyps-clause-grown : goal.returns-in_err-hyps-clause-grown
returns-in_err-hyps-clause-grown c = all_grown c.args.v.name _ _ _ _ c.abstract_from.ensures.grown
    c.abstract_from-2.ensures.grown c.equate.ensures.grown

pub returns-clause-derives : goal.returns-clause-derives
returns-clause-derives c =
    let t = c.args.terms.now in
    let v = variable_of t.types c.args.v in
    let th = c.args.th.now in
    let u = c.abstract_from.new.terms in
    let w = c.abstract_from-2.new.terms in
    let (ty, s) = c.in_ok-t.ensures.ok in
    let a = both_abstractions t u c.args.v th ty c.in_ok-t.t c.in_ok-t.u c.in_ok-left.left c.requires.ty s
    (not_free t c.args.v th _ _ c.in_ok-is_free_in_some.ensures c.if-branch.false c.deref.ensures.value)
    c.abstract_from.ensures.grown.grows c.in_ok-left.ensures.makes w c.in_ok-right.right
    c.abstract_from-2.ensures.grown.grows c.in_ok-right.ensures.makes in
    let same = c.in_ok-hyps.ensures.items ∙ c.deref-2.ensures.value in
    let inside = subst (All (λ i. i < length t.terms)) (sym same) c.requires.inside.hyps in
    let grown = all_grown c.args.v.name _ _ _ _ c.abstract_from.ensures.grown c.abstract_from-2.ensures.grown
    c.equate.ensures.grown in
    equated_derives t c.equate.new.terms c.types-types.ensures.table grown.grows
    (record { hyps = c.in_ok-hyps.hyps; concl = c.in_ok-concl.concl }) (numbered_sequent t.terms th).hyps
    (tm_at w.terms c.in_ok-left.left) (tm_at w.terms c.in_ok-right.right) (fun_ty numbers v.ty ty) _
    inside
    (ap (tms_at t.terms) same)
    a.left
    c.in_ok-concl.ensures.makes
    a.rule

pub returns-clause-grown : goal.returns-clause-grown
returns-clause-grown c = all_grown c.args.v.name _ _ _ _ c.abstract_from.ensures.grown c.abstract_from-2.ensures.grown
    c.equate.ensures.grown
