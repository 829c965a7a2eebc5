use Rattle.std.proofs.lemmas.Result.{err_from_is_err_and}
use Rattle.ot_term.specs.Term.{TermTable}
use Rattle.std.proofs.Common.{ℕ}
use Rattle.ot_kernel.specs.Numbered.{IsGrownBy}
use Rattle.ot_kernel.proofs.Equating.{grown_then, grown_more}
use Rattle.ot_kernel.proofs.NewFunctions.{left_abstraction_refused, right_abstraction_refused}
use Rattle.ot_kernel.proofs.NewFunctions.{one_type, functions_refused, functions_derived}
use Rattle.ot_kernel.proofs.defining.equal_functions.Goals as goal

-- three steps
all_grown : (n : ℕ) (s t u w : TermTable) → IsGrownBy n s t → IsGrownBy n t u → IsGrownBy 2 u w → IsGrownBy n s w
all_grown n s t u w g h k = grown_then n s u w (grown_then n s t u g h) (grown_more n u w k)

pub returns-in_err-left-clause-derives : goal.returns-in_err-left-clause-derives
returns-in_err-left-clause-derives c =
    let p = err_from_is_err_and c.from_residual.result c.from_residual.ensures.1 in
    rw (p.1, p.2) (left_abstraction_refused c.args.terms.now c.types-types.ensures.table c.args.v.now c.args.a
    c.args.b c.requires.ty c.requires.a c.requires.b c.requires.typed _ c.in_err-left.ensures.makes)

pub returns-in_err-right-clause-derives : goal.returns-in_err-right-clause-derives
returns-in_err-right-clause-derives c =
    let p = err_from_is_err_and c.from_residual-in_err-right.result c.from_residual-in_err-right.ensures.1 in
    rw (p.1, p.2)
    (right_abstraction_refused c.args.terms.now c.types-types.ensures.table c.args.v.now c.args.a c.args.b
    c.requires.ty c.requires.a c.requires.b c.requires.typed c.abstract_from.new.terms
    c.abstract_from.ensures.grown.grows _ c.in_err-right.ensures.makes)

pub equate-requires-clause-typed : goal.equate-requires-clause-typed
equate-requires-clause-typed c =
    one_type c.args.terms.now c.types-types.ensures.table c.args.v.now c.args.a c.args.b c.requires.ty c.requires.a
    c.requires.b c.requires.typed c.abstract_from.new.terms c.abstract_from.ensures.grown.grows
    c.abstract_from-2.new.terms c.abstract_from-2.ensures.grown.grows c.in_ok-left.left c.in_ok-right.right
    c.in_ok-left.ensures.makes c.in_ok-right.ensures.makes

pub returns-in_err-concl-clause-derives : goal.returns-in_err-concl-clause-derives
returns-in_err-concl-clause-derives c =
    let p = err_from_is_err_and c.from_residual-in_err-concl.result c.from_residual-in_err-concl.ensures.1 in
    rw (p.1, p.2)
    (functions_refused c.args.terms.now c.types-types.ensures.table c.args.v.now c.args.a c.args.b c.requires.ty
    c.requires.a c.requires.b c.requires.typed c.abstract_from.new.terms c.abstract_from.ensures.grown.grows
    c.abstract_from-2.new.terms c.abstract_from-2.ensures.grown.grows c.in_ok-left.left c.in_ok-right.right
    c.in_ok-left.ensures.makes c.in_ok-right.ensures.makes _ c.in_err-concl.ensures.makes)

pub returns-in_err-concl-clause-grown : goal.returns-in_err-concl-clause-grown
returns-in_err-concl-clause-grown c = all_grown c.args.v.now.name _ _ _ _ c.abstract_from.ensures.grown
    c.abstract_from-2.ensures.grown c.equate.ensures.grown

pub returns-clause-derives : goal.returns-clause-derives
returns-clause-derives c =
    functions_derived c.args.terms.now c.types-types.ensures.table c.args.v.now c.args.a c.args.b c.requires.ty
    c.requires.a c.requires.b c.requires.typed c.abstract_from.new.terms c.abstract_from.ensures.grown.grows
    c.abstract_from-2.new.terms c.abstract_from-2.ensures.grown.grows c.in_ok-left.left c.in_ok-right.right
    c.in_ok-left.ensures.makes c.in_ok-right.ensures.makes
    c.equate.new.terms c.abstract_from-2.ensures.grown.table c.equate.ensures.grown.grows
    (record { hyps = c.none.result; concl = c.in_ok-concl.concl }) c.none.ensures.items c.in_ok-concl.ensures.makes

pub returns-clause-grown : goal.returns-clause-grown
returns-clause-grown c = all_grown c.args.v.now.name _ _ _ _ c.abstract_from.ensures.grown
    c.abstract_from-2.ensures.grown c.equate.ensures.grown
