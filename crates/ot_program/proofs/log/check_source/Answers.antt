use Rattle.std.proofs.Common.{ap}
use Rattle.ot_io.proofs.Reading.{HasRead-map}
use Rattle.ot_program.proofs.LogLemmas.{log_accepted}
use Rattle.ot_program.proofs.log.check_source.Goals as goal

pub returns-in-Ok-clause-checked : goal.returns-in-Ok-clause-checked
returns-in-Ok-clause-checked g c =
    let limit = ap (λ l. l.article_bytes) c.standard-limit.ensures in
    HasRead-map c.in-Ok.ensures.checked (λ ok. ok)
    (λ bytes rest h path. log_accepted c.in-Ok.verified _ bytes limit h)

-- where it failed, or memory ran out, nothing is said of the log
pub returns-in-Err-ReadFault-clause-checked : goal.returns-in-Err-ReadFault-clause-checked
returns-in-Err-ReadFault-clause-checked g c =
    HasRead-map c.in-Err-ReadFault.ensures.checked (λ ok. ok) (λ bytes rest h path. tt)

pub returns-in-Err-Memory-clause-checked : goal.returns-in-Err-Memory-clause-checked
returns-in-Err-Memory-clause-checked g c =
    HasRead-map c.in-Err-Memory.ensures.checked (λ ok. ok) (λ bytes rest h path. tt)
