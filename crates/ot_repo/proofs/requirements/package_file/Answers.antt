use Rattle.std.proofs.Common.{◌≡◌}
use Rattle.std.proofs.lemmas.Result.{err_from_is_err_and}
use Rattle.ot_blocks.specs.Paths.{package_path}
use Rattle.ot_repo.proofs.Reached.{inside_fails}
use Rattle.ot_repo.proofs.requirements.package_file.Goals as goal

pub returns-in_err-theory-clause-failure : goal.returns-in_err-theory-clause-failure
returns-in_err-theory-clause-failure g c =
    let p = err_from_is_err_and c.from_residual-in_err-theory.result c.from_residual-in_err-theory.ensures.1 in
    rw (p.1, p.2) (inside_fails (λ failed. failed ≡ package_path c.args.setting.packages.now c.args.full.now)
    c.in_err-theory.field-0.0 c.in_err-theory.ensures.inside)
