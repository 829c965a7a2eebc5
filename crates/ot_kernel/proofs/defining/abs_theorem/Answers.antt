use Rattle.std.proofs.Common.{subst, Result}
use Rattle.std.proofs.lemmas.Result.{err_from_is_err_and}
use Rattle.std.proofs.Common.{ℕ}
use Rattle.ot_logic.specs.Faults.{Fault}
use Rattle.ot_logic.specs.Trees.{Sequent}
use Rattle.ot_kernel.specs.Numbered.{Derives}
use Rattle.ot_kernel.proofs.Equating.{grown_then}
use Rattle.ot_kernel.proofs.RoundTrips.{trip_refused, sides_typed, trip_rule}
use Rattle.ot_kernel.proofs.defining.abs_theorem.Goals as goal

pub returns-in_err-x-clause-derives : goal.returns-in_err-x-clause-derives
returns-in_err-x-clause-derives c =
    let p = err_from_is_err_and c.from_residual.result c.from_residual.ensures.1 in
    rw (p.1, p.2) (trip_refused c.args.terms.now c.args.v.now c.args.rep c.args.abs c.requires.rep c.requires.abs
    c.requires.typed _ c.in_err-x.ensures.makes)

pub equal_functions-requires-clause-typed : goal.equal_functions-requires-clause-typed
equal_functions-requires-clause-typed c =
    sides_typed c.args.terms.now c.args.v.now c.args.rep c.args.abs c.requires.rep c.requires.abs c.requires.typed
    c.round_trip.new.terms c.round_trip.ensures.grown.grows c.requires.ty c.in_ok-x.x c.in_ok-x.image
    c.in_ok-x.ensures.makes

pub returns-clause-derives : goal.returns-clause-derives
returns-clause-derives c =
    subst (λ (z : Result (Sequent ℕ) (Fault ℕ)). Derives c.equal_functions.result z c.equal_functions.new.terms.terms)
    (trip_rule c.args.terms.now c.args.v.now c.args.rep c.args.abs c.requires.rep c.requires.abs c.requires.typed
    c.round_trip.new.terms c.round_trip.ensures.grown.grows c.requires.ty c.in_ok-x.x c.in_ok-x.image
    c.in_ok-x.ensures.makes)
    c.equal_functions.ensures.derives

pub returns-clause-grown : goal.returns-clause-grown
returns-clause-grown c = grown_then c.args.v.now.name _ _ _ c.round_trip.ensures.grown c.equal_functions.ensures.grown
