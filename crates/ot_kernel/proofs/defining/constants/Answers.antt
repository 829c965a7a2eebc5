use Rattle.std.proofs.Common.{◌≡◌, ◌∷◌, [], length, length-append, rules, sym, subst}
use Rattle.std.specs.Slice.Iter.{iter_rest}
use Rattle.std.specs.Iterator.Adapters.{zip_first, zip_second}
use Rattle.std.proofs.lemmas.Slice.Zip.{zip_turn}
use Rattle.ot_kernel.proofs.PutConstants.{PutsConstants, fits_then, grown_then, constant_added}
use Rattle.ot_kernel.proofs.defining.constants.Goals as goal

pub loop-name-preserved : goal.loop-name-preserved
loop-name-preserved c =
    let first : iter_rest (zip_first c.into_iter-name-iterator.result) ≡ c.args.cs.now = search rules in
    let second : iter_rest (zip_second c.into_iter-name-iterator.result) ≡ c.args.vars.now = search rules in
    let (hc, hv, name, var) =
    zip_turn c.args.cs.now c.args.vars.now c.loop-name.yielded c.into_iter-name-iterator.result
    c.loop-name.name-iterator c.next.new.self c.next.result first second c.loop-name.yielded_by
    (c.in-Some.name, c.in-Some.v) c.in-Some.is c.next.ensures.steps in
    let k = length c.loop-name.yielded in
    let fits = fits_then c.args.terms.now c.loop-name.terms c.args.cs.now c.args.vars.now k c.loop-name.s
    c.loop-name.invariant c.in-Some.name.now c.in-Some.v.now hc hv (name c.in-Some.name.now) (var c.in-Some.v.now)
    c.requires.vars
    c.constant.new.self c.in_ok-constant.constant c.constant.ensures.grown c.constant.ensures.types
    c.in_ok-constant.ensures.ok in
    subst (λ n. PutsConstants c.args.terms.now c.constant.new.self c.args.cs.now c.args.vars.now n c.add.new.self)
    (sym (length-append c.loop-name.yielded ((c.in-Some.name, c.in-Some.v) ∷ [])))
    (constant_added c.args.terms.now c.loop-name.terms c.args.cs.now c.args.vars.now k c.loop-name.s
    c.loop-name.invariant c.in-Some.name.now c.in-Some.v.now hc hv (name c.in-Some.name.now) (var c.in-Some.v.now)
    c.requires.vars
    c.constant.new.self c.in_ok-constant.constant c.constant.ensures.grown c.constant.ensures.types
    c.in_ok-constant.ensures.ok
    c.add.new.self c.in_ok-add.ensures.ok (c.in_ok-add.ensures.fits fits) c.requires.distinct)

pub returns-in_err-add-clause-grown : goal.returns-in_err-add-clause-grown
returns-in_err-add-clause-grown c =
    let first : iter_rest (zip_first c.into_iter-name-iterator.result) ≡ c.args.cs.now = search rules in
    let second : iter_rest (zip_second c.into_iter-name-iterator.result) ≡ c.args.vars.now = search rules in
    let (hc, hv, name, var) =
    zip_turn c.args.cs.now c.args.vars.now c.loop-name.yielded c.into_iter-name-iterator.result
    c.loop-name.name-iterator c.next.new.self c.next.result first second c.loop-name.yielded_by
    (c.in-Some.name, c.in-Some.v) c.in-Some.is c.next.ensures.steps in
    grown_then c.args.terms.now c.loop-name.terms c.args.cs.now c.args.vars.now (length c.loop-name.yielded)
    c.loop-name.s c.loop-name.invariant c.in-Some.name.now c.in-Some.v.now hc hv (name c.in-Some.name.now)
    (var c.in-Some.v.now) c.requires.vars
    c.constant.new.self c.in_ok-constant.constant c.constant.ensures.grown c.constant.ensures.types
    c.in_ok-constant.ensures.ok
