use Rattle.std.proofs.Common.{sym, ◌∙◌}
use Rattle.std.specs.Prelude.{Some}
use Rattle.ot_args.specs.Grammar.{texts_of}
use Rattle.ot_args.proofs.Steps.{command_read}
use Rattle.ot_args.proofs.Written.{operands_fit}
use Rattle.ot_args.proofs.command.Command.read.Goals as goal

pub returns-in-Some-clause-operands : goal.returns-in-Some-clause-operands
returns-in-Some-clause-operands c =
    operands_fit (texts_of c.args.words.now) c.read_behind.result
    (c.read_behind.ensures
    ∙ sym (command_read c.args.words.now c.word-item.result c.as_str.result.now (Some c.in-Some.verb)
    c.in-len1-up.len_at_least c.word-item.is c.as_str.ensures.value c.in-Some.ensures))
