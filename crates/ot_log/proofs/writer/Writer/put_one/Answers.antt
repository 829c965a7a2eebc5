use Rattle.std.proofs.Common.{[], ◌∷◌, sym}
use Rattle.ot_log_values.proofs.Taking.{made-long}
use Rattle.ot_log.proofs.Taken.{takes-term}
use Rattle.ot_log.proofs.writer.Writer.put_one.Goals as goal

pub put_term-requires-clause-takes : goal.put_term-requires-clause-takes
put_term-requires-clause-takes c =
    takes-term c.args.word c.requires.makes
    (sym (made-long c.args.session.now c.args.word (c.args.a ∷ []) c.requires.value)) c.in_default.not-Sym
