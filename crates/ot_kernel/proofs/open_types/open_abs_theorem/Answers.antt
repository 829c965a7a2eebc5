use Rattle.std.proofs.lemmas.Result.{err_from_is_err_and}
use Rattle.ot_kernel.proofs.Equating.{grown_then, grown_more}
use Rattle.ot_kernel.proofs.RoundTrips.{sides_typed, open_trip_refused, open_test_refused, open_test_derived}
use Rattle.ot_kernel.proofs.open_types.open_abs_theorem.Goals as goal

pub returns-in_err-x-clause-derives : goal.returns-in_err-x-clause-derives
returns-in_err-x-clause-derives c =
    let p = err_from_is_err_and c.from_residual.result c.from_residual.ensures.1 in
    rw (p.1, p.2) (open_trip_refused c.args.terms.now c.args.v.now c.args.rep c.args.abs c.requires.rep c.requires.abs
    c.requires.typed _ c.in_err-x.ensures.makes)

pub equate-requires-clause-typed : goal.equate-requires-clause-typed
equate-requires-clause-typed c =
    sides_typed c.args.terms.now c.args.v.now c.args.rep c.args.abs c.requires.rep c.requires.abs c.requires.typed
    c.round_trip.new.terms c.round_trip.ensures.grown.grows c.requires.ty c.in_ok-x.x c.in_ok-x.image
    c.in_ok-x.ensures.makes

pub returns-in_err-concl-clause-derives : goal.returns-in_err-concl-clause-derives
returns-in_err-concl-clause-derives c =
    let p = err_from_is_err_and c.from_residual-in_err-concl.result c.from_residual-in_err-concl.ensures.1 in
    rw (p.1, p.2)
    (open_test_refused c.args.terms.now c.args.v.now c.args.rep c.args.abs c.requires.rep c.requires.abs
    c.requires.typed c.round_trip.new.terms c.round_trip.ensures.grown.grows c.requires.ty c.in_ok-x.x
    c.in_ok-x.image c.in_ok-x.ensures.makes _ c.in_err-concl.ensures.makes)

pub returns-clause-derives : goal.returns-clause-derives
returns-clause-derives c =
    open_test_derived c.args.terms.now c.args.v.now c.args.rep c.args.abs c.requires.rep c.requires.abs
    c.requires.typed c.round_trip.new.terms c.round_trip.ensures.grown.grows c.requires.ty c.in_ok-x.x
    c.in_ok-x.image c.in_ok-x.ensures.makes c.equate.new.terms c.round_trip.ensures.grown.table
    c.equate.ensures.grown.grows (record { hyps = c.none.result; concl = c.in_ok-concl.concl }) c.none.ensures.items
    c.in_ok-concl.ensures.makes

pub returns-clause-grown : goal.returns-clause-grown
returns-clause-grown c =
    let name = c.args.v.now.name in
    grown_then name _ _ _ c.round_trip.ensures.grown (grown_more name _ _ c.equate.ensures.grown)
