use Rattle.std.proofs.Common.{rules}
use Rattle.std.specs.Prelude.{string_bytes}
use Rattle.ot_io.proofs.Readings.{Files-none}
use Rattle.ot_program.specs.Endings.{end_of}
use Rattle.ot_program.proofs.InputLemmas.{opened_ran, missing_ran}
use Rattle.ot_program.proofs.input.run_article_file.Goals as goal

pub returns-in-Ok-clause-ran : goal.returns-in-Ok-clause-ran
returns-in-Ok-clause-ran g c =
    opened_ran (g.F.Source.folder c.args.files.now) c.args.path.now (g.F.Source.left c.open_file.new.self)
    (g.F.Source.left c.run_article_from-ran.new.source) _
    (end_of c.run_article_from-ran.new.session c.run_article_from-ran.result) c.in-Ok.ensures.ok
    c.run_article_from-ran.ensures.ran

pub returns-in_ok-path-in-Err-Missing-clause-ran : goal.returns-in_ok-path-in-Err-Missing-clause-ran
returns-in_ok-path-in-Err-Missing-clause-ran g c =
    missing_ran (g.F.Source.folder c.args.files.now) c.args.path.now (string_bytes c.in_ok-path-in-Err-Missing.path)
    c.in_ok-path-in-Err-Missing.ensures.ok (c.in-Err-Missing.ensures.missing (search rules))

pub returns-in_ok-path-in-Err-Failed-clause-ran : goal.returns-in_ok-path-in-Err-Failed-clause-ran
returns-in_ok-path-in-Err-Failed-clause-ran g c = Files-none (g.F.Source.folder c.args.files.now) _ (λ folder. tt)
