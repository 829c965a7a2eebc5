use Rattle.std.proofs.lemmas.Result.{err_from_is_err_and}
use Rattle.ot_program.proofs.Worlds.{world_none}
use Rattle.ot_program.proofs.reading.run_reading.Goals as goal

pub returns-in_err-session-clause-verdict : goal.returns-in_err-session-clause-verdict
returns-in_err-session-clause-verdict g c =
    let p = err_from_is_err_and c.from_residual.result c.from_residual.ensures.1 in
    rw p.1 (world_none (g.F.Source.folder c.args.files.now) (g.S.Source.left c.args.input.now) _ (λ May. tt))
