use Rattle.std.proofs.Common.{[]}
use Rattle.std.proofs.lemmas.Result.{err_from_is_err_and}
use Rattle.ot_logic.specs.Hol.{type_of, equation}
use Rattle.ot_logic.specs.Naming.{numbers}
use Rattle.ot_kernel.specs.Numbered.{tm_at}
use Rattle.ot_kernel.proofs.EquationRules.{within-refused}
use Rattle.ot_kernel.proofs.equations.refl.Goals as goal

pub returns-in_err-concl-clause-derives : goal.returns-in_err-concl-clause-derives
returns-in_err-concl-clause-derives c =
    let p = err_from_is_err_and c.from_residual.result c.from_residual.ensures.1 in
    let t = tm_at c.args.terms.now.terms c.args.t in
    rw (p.1, p.2)
    (within-refused numbers _ [] (equation numbers (type_of numbers t) t t) c.in_err-concl.ensures.makes)
