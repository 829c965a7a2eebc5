use Rattle.std.proofs.lemmas.Result.{err_from_is_err_and}
use Rattle.ot_io.proofs.Readings.{Files-none}
use Rattle.ot_program.specs.Endings.{noted_of}
use Rattle.ot_program.proofs.ReadingLemmas.{text_refused}
use Rattle.ot_program.proofs.reading.read_text.Goals as goal

-- where memory ran out nothing is said of the text
pub returns-clause-read : goal.returns-clause-read
returns-clause-read g c = Files-none (g.F.Source.folder c.args.files.now) _ (λ folder. tt)

pub returns-in_err-bytes-clause-read : goal.returns-in_err-bytes-clause-read
returns-in_err-bytes-clause-read g c =
    let p = err_from_is_err_and c.from_residual.result c.from_residual.ensures.1 in
    rw (p.1, p.2)
    (text_refused c.args.text.now (g.F.Source.folder c.args.files.now) (noted_of c.args.session.now c.args.run.now)
    c.in_err-bytes.field-0.0 c.in_err-bytes.ensures.read)
