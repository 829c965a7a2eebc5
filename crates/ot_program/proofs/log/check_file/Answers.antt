use Rattle.std.proofs.Common.{rules}
use Rattle.ot_io.proofs.Readings.{Files-map, Files-none}
use Rattle.ot_program.proofs.LogLemmas.{opened_checked, missing_checked}
use Rattle.ot_program.proofs.log.check_file.Goals as goal

pub returns-in-Ok-clause-checked : goal.returns-in-Ok-clause-checked
returns-in-Ok-clause-checked g c =
    opened_checked (g.F.Source.folder c.args.files.now) c.args.path.now (g.F.Source.left c.open_file.new.self) _ _
    c.check_source-checked.result c.in-Ok.ensures.ok c.check_source-checked.ensures.checked

pub returns-in-Err-Missing-clause-checked : goal.returns-in-Err-Missing-clause-checked
returns-in-Err-Missing-clause-checked g c =
    missing_checked (g.F.Source.folder c.args.files.now) c.args.path.now (c.in-Err-Missing.ensures.missing (search rules))

pub returns-in-Err-Failed-clause-checked : goal.returns-in-Err-Failed-clause-checked
returns-in-Err-Failed-clause-checked g c = Files-none (g.F.Source.folder c.args.files.now) _ (λ folder. tt)
