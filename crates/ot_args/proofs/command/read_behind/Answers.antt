use Rattle.std.proofs.Common.{sym, ◌∙◌}
use Rattle.std.specs.Prelude.{None, Some}
use Rattle.std.proofs.lemmas.Result.{err_from_is_err_and}
use Rattle.ot_args.specs.Grammar.{texts_of}
use Rattle.ot_args.specs.Reading.{given_value}
use Rattle.ot_args.proofs.Steps.{given_read}
use Rattle.ot_args.proofs.command.read_behind.Goals as goal

pub returns : goal.returns
returns c =
    c.command_with.ensures
    ∙ sym
    (given_read c.args.verb (texts_of c.args.words.now) (Some (given_value c.in_ok-given.given)) c.in_ok-given.ensures)

pub returns-in_err-given : goal.returns-in_err-given
returns-in_err-given c =
    let p = err_from_is_err_and c.from_residual.result c.from_residual.ensures.1 in
    rw p.1 (sym (given_read c.args.verb (texts_of c.args.words.now) None c.in_err-given.ensures))
