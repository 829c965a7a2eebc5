use Rattle.std.proofs.Common.{[], ◌∷◌, sym}
use Rattle.ot_log_values.proofs.Taking.{made-long}
use Rattle.ot_log.proofs.Taken.{takes-theorems}
use Rattle.ot_log.proofs.writer.Writer.put_two.Goals as goal

pub put_theorems-requires-clause-takes : goal.put_theorems-requires-clause-takes
put_theorems-requires-clause-takes c =
    takes-theorems c.args.word c.requires.makes
    (sym (made-long c.args.session.now c.args.word (c.args.a ∷ c.args.b ∷ []) c.requires.value))
    c.in_default.not-Axiom c.in_default.not-AbsThm c.in_default.not-Subst
