use Rattle.std.proofs.Common.{[], ◌∙◌}
use Rattle.std.proofs.lemmas.Result.{err_from_is_err_and}
use Rattle.ot_logic.specs.Naming.{numbers}
use Rattle.ot_laws.proofs.Tests.{tells_numbers}
use Rattle.ot_laws.proofs.Typing.{type-nameless}
use Rattle.ot_type.specs.TypeTable.{type_at}
use Rattle.ot_term.specs.TermTable.{term_at}
use Rattle.ot_kernel.specs.Numbered.{tm_at}
use Rattle.ot_kernel.proofs.Equating.{equated_refused}
use Rattle.ot_kernel.proofs.NewFunctions.{bare_derives, constant_typed, constant_sides, constant_rule}
use Rattle.ot_kernel.proofs.defining.const_theorem.Goals as goal

pub equate-requires-clause-typed : goal.equate-requires-clause-typed
equate-requires-clause-typed c =
    let t = c.args.terms.now in
    let typed = type-nameless numbers tells_numbers (term_at t.terms c.args.t) ∙ c.type_of-ty.ensures.typed in
    constant_sides t c.constant.new.self c.constant.ensures.grown.grows c.args.t c.args.name c.in_ok-constant.constant
    c.type_of-ty.result c.requires.inside c.in_ok-constant.ensures.ok typed

pub returns-in_err-concl-clause-derives : goal.returns-in_err-concl-clause-derives
returns-in_err-concl-clause-derives c =
    let p = err_from_is_err_and c.from_residual-in_err-concl.result c.from_residual-in_err-concl.ensures.1 in
    let t = c.args.terms.now in
    let m = c.constant.new.self in
    let k = c.in_ok-constant.constant in
    let ty = c.type_of-ty.result in
    let typed = type-nameless numbers tells_numbers (term_at t.terms c.args.t) ∙ c.type_of-ty.ensures.typed in
    rw (p.1, p.2) (equated_refused _ [] (tm_at m.terms k) (tm_at m.terms c.args.t) (type_at t.types ty) _
    (constant_typed t m c.constant.ensures.grown.grows c.args.t c.args.name k ty c.requires.inside
    c.in_ok-constant.ensures.ok)
    c.in_err-concl.ensures.makes
    (constant_rule t m c.constant.ensures.grown.grows c.args.t c.args.name k ty c.requires.inside
    c.in_ok-constant.ensures.ok typed))

pub returns-clause-derives : goal.returns-clause-derives
returns-clause-derives c =
    let t = c.args.terms.now in
    let m = c.constant.new.self in
    let k = c.in_ok-constant.constant in
    let ty = c.type_of-ty.result in
    let typed = type-nameless numbers tells_numbers (term_at t.terms c.args.t) ∙ c.type_of-ty.ensures.typed in
    bare_derives m c.equate.new.terms c.constant.ensures.grown.table c.equate.ensures.grown.grows
    (record { hyps = c.none.result; concl = c.in_ok-concl.concl }) (tm_at m.terms k) (tm_at m.terms c.args.t)
    (type_at t.types ty) _
    c.none.ensures.items
    (constant_typed t m c.constant.ensures.grown.grows c.args.t c.args.name k ty c.requires.inside
    c.in_ok-constant.ensures.ok)
    c.in_ok-concl.ensures.makes
    (constant_rule t m c.constant.ensures.grown.grows c.args.t c.args.name k ty c.requires.inside
    c.in_ok-constant.ensures.ok typed)
