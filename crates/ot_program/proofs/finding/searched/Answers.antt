use Rattle.std.proofs.Common.{rules}
use Rattle.std.proofs.lemmas.Result.{err_from_is_err_and}
use Rattle.ot_program.proofs.Worlds.{world_none}
use Rattle.ot_program.proofs.finding.searched.Goals as goal

-- where there is no memory for a session nothing was read
pub returns-in_err-session-clause-searched : goal.returns-in_err-session-clause-searched
returns-in_err-session-clause-searched g c =
    let p = err_from_is_err_and c.from_residual.result c.from_residual.ensures.1 in
    λ told may.
    rw (p.1, p.2) (world_none told (g.S.Source.left c.args.input.now) _ (λ May. record { ended = tt; searched = tt }))

pub returns-clause-searched : goal.returns-clause-searched
returns-clause-searched g c = c.search_in.ensures.searched
