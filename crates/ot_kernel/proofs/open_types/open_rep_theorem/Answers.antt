use Rattle.std.proofs.Common.{sym}
use Rattle.std.proofs.lemmas.Result.{err_from_is_err_and}
use Rattle.ot_logic.specs.Trees.{Free, App}
use Rattle.ot_term.specs.TermTable.{variable_of}
use Rattle.ot_kernel.specs.Numbered.{tm_at}
use Rattle.ot_kernel.proofs.Equating.{grown_then, grown_more}
use Rattle.ot_kernel.proofs.RoundTrips.{sides_typed, tests_typed, open_deep_refused, open_same_refused}
use Rattle.ot_kernel.proofs.RoundTrips.{open_holds_refused, open_concl_refused, open_concl_derived}
use Rattle.ot_kernel.proofs.open_types.open_rep_theorem.Goals as goal

pub returns-in_err-x-clause-derives : goal.returns-in_err-x-clause-derives
returns-in_err-x-clause-derives c =
    let p = err_from_is_err_and c.from_residual.result c.from_residual.ensures.1 in
    rw (p.1, p.2)
    (open_deep_refused c.args.terms.now c.args.v.now c.args.abs c.args.rep c.requires.abs c.requires.rep
    c.requires.typed _
    (App (tm_at c.args.terms.now.terms c.args.p) (Free (variable_of c.args.terms.now.types c.args.v.now)))
    c.in_err-x.ensures.makes)

pub equate-requires-clause-typed : goal.equate-requires-clause-typed
equate-requires-clause-typed c =
    sides_typed c.args.terms.now c.args.v.now c.args.abs c.args.rep c.requires.abs c.requires.rep c.requires.typed
    c.round_trip.new.terms c.round_trip.ensures.grown.grows c.requires.ty c.in_ok-x.x c.in_ok-x.image
    c.in_ok-x.ensures.makes

pub returns-in_err-same-clause-derives : goal.returns-in_err-same-clause-derives
returns-in_err-same-clause-derives c =
    let p = err_from_is_err_and c.from_residual-in_err-same.result c.from_residual-in_err-same.ensures.1 in
    rw (p.1, p.2)
    (open_same_refused c.args.terms.now c.args.v.now c.args.abs c.args.rep c.requires.abs c.requires.rep
    c.requires.typed c.round_trip.new.terms c.round_trip.ensures.grown.grows c.requires.ty c.in_ok-x.x
    c.in_ok-x.image c.in_ok-x.ensures.makes c.args.p c.requires.p c.requires.predicate _
    c.in_err-same.ensures.makes)

pub returns-in_err-holds-clause-derives : goal.returns-in_err-holds-clause-derives
returns-in_err-holds-clause-derives c =
    let p = err_from_is_err_and c.from_residual-in_err-holds.result c.from_residual-in_err-holds.ensures.1 in
    rw (p.1, p.2)
    (open_holds_refused c.args.terms.now c.args.v.now c.args.abs c.args.rep c.requires.abs c.requires.rep
    c.requires.typed c.round_trip.new.terms c.round_trip.ensures.grown.grows c.requires.ty c.in_ok-x.x
    c.in_ok-x.image c.in_ok-x.ensures.makes c.args.p c.requires.p c.requires.predicate c.equate.new.terms
    c.equate.ensures.grown.grows c.in_ok-same.same c.in_ok-same.ensures.makes _ c.in_err-holds.ensures.makes)

pub returns-in_err-holds-clause-grown : goal.returns-in_err-holds-clause-grown
returns-in_err-holds-clause-grown c =
    let name = c.args.v.now.name in
    grown_then name _ _ _ c.round_trip.ensures.grown
    (grown_more name _ _ (grown_then 2 _ _ _ c.equate.ensures.grown c.apply.ensures.grown))

pub equate-requires-2-clause-typed : goal.equate-requires-2-clause-typed
equate-requires-2-clause-typed c =
    sym (tests_typed c.args.terms.now c.args.v.now c.args.abs c.args.rep c.requires.abs c.requires.rep
    c.requires.typed c.round_trip.new.terms c.round_trip.ensures.grown.grows c.requires.ty c.in_ok-x.x
    c.in_ok-x.image c.in_ok-x.ensures.makes c.args.p c.requires.p c.requires.predicate c.equate.new.terms
    c.equate.ensures.grown.grows c.in_ok-same.same c.in_ok-same.ensures.makes c.apply.new.terms
    c.apply.ensures.grown.grows c.in_ok-holds.holds c.in_ok-holds.ensures.makes)

pub returns-in_err-concl-clause-derives : goal.returns-in_err-concl-clause-derives
returns-in_err-concl-clause-derives c =
    let p = err_from_is_err_and c.from_residual-in_err-concl.result c.from_residual-in_err-concl.ensures.1 in
    rw (p.1, p.2)
    (open_concl_refused c.args.terms.now c.args.v.now c.args.abs c.args.rep c.requires.abs c.requires.rep
    c.requires.typed c.round_trip.new.terms c.round_trip.ensures.grown.grows c.requires.ty c.in_ok-x.x
    c.in_ok-x.image c.in_ok-x.ensures.makes c.args.p c.requires.p c.requires.predicate c.equate.new.terms
    c.equate.ensures.grown.grows c.in_ok-same.same c.in_ok-same.ensures.makes c.apply.new.terms
    c.apply.ensures.grown.grows c.in_ok-holds.holds c.in_ok-holds.ensures.makes _ c.in_err-concl.ensures.makes)

pub returns-in_err-concl-clause-grown : goal.returns-in_err-concl-clause-grown
returns-in_err-concl-clause-grown c =
    let name = c.args.v.now.name in
    grown_then name _ _ _ c.round_trip.ensures.grown
    (grown_more name _ _ (grown_then 2 _ _ _ (grown_then 2 _ _ _ c.equate.ensures.grown c.apply.ensures.grown)
    c.equate-2.ensures.grown))

pub returns-clause-derives : goal.returns-clause-derives
returns-clause-derives c =
    open_concl_derived c.args.terms.now c.args.v.now c.args.abs c.args.rep c.requires.abs c.requires.rep
    c.requires.typed c.round_trip.new.terms c.round_trip.ensures.grown.grows c.requires.ty c.in_ok-x.x
    c.in_ok-x.image c.in_ok-x.ensures.makes c.args.p c.requires.p c.requires.predicate c.equate.new.terms
    c.equate.ensures.grown.grows c.in_ok-same.same c.in_ok-same.ensures.makes c.apply.new.terms
    c.apply.ensures.grown.grows c.in_ok-holds.holds c.in_ok-holds.ensures.makes c.equate-2.new.terms
    c.apply.ensures.grown.table c.equate-2.ensures.grown.grows
    (record { hyps = c.none.result; concl = c.in_ok-concl.concl }) c.none.ensures.items c.in_ok-concl.ensures.makes

pub returns-clause-grown : goal.returns-clause-grown
returns-clause-grown c =
    let name = c.args.v.now.name in
    grown_then name _ _ _ c.round_trip.ensures.grown
    (grown_more name _ _ (grown_then 2 _ _ _ (grown_then 2 _ _ _ c.equate.ensures.grown c.apply.ensures.grown)
    c.equate-2.ensures.grown))
