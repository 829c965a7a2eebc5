use Rattle.std.proofs.Common.{rules, arith, ◌<◌, ◌≤◌, length}
use Rattle.ot_io.proofs.Readings.{Files-none, Files-missing}
use Rattle.ot_io.proofs.Fronts.{file-whole, file-large}
use Rattle.ot_io.proofs.whole.read_file.Goals as goal

pub returns-then-len-max_bytes-clause-reads : goal.returns-then-len-max_bytes-clause-reads
returns-then-len-max_bytes-clause-reads g c =
    file-whole _ _ _ _ _ _ _ c.in-Ok.ensures.ok c.in-Ok-read_front.ensures.read (omega arith)

pub returns-else-len-max_bytes-clause-reads : goal.returns-else-len-max_bytes-clause-reads
returns-else-len-max_bytes-clause-reads g c =
    file-large _ _ _ _ _ _ _ c.in-Ok.ensures.ok c.in-Ok-read_front.ensures.read (omega arith)

pub returns-in-Err-Failed-read_front-clause-reads : goal.returns-in-Err-Failed-read_front-clause-reads
returns-in-Err-Failed-read_front-clause-reads g c = Files-none _ _ (λ folder. tt)

pub returns-in-Err-Memory-clause-reads : goal.returns-in-Err-Memory-clause-reads
returns-in-Err-Memory-clause-reads g c = Files-none _ _ (λ folder. tt)

pub returns-in-Err-Missing-clause-reads : goal.returns-in-Err-Missing-clause-reads
returns-in-Err-Missing-clause-reads g c =
    Files-missing _ c.args.path.now (c.in-Err-Missing.ensures.missing (search rules))

pub returns-in-Err-Failed-clause-reads : goal.returns-in-Err-Failed-clause-reads
returns-in-Err-Failed-clause-reads g c = Files-none _ _ (λ folder. tt)
