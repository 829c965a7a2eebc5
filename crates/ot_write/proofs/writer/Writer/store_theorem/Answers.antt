use Rattle.std.proofs.Common.{refl}
use Rattle.ot_logic.specs.declared.command.Cmd.TheVariants as words
use Rattle.ot_written.specs.Written as w
use Rattle.ot_write.specs.Emitting.{given}
use Rattle.ot_write.proofs.Moving.{put-behind}
use Rattle.ot_write.proofs.writer.Writer.store_theorem.Goals as goal

pub returns-clause-moves : goal.returns-clause-moves
returns-clause-moves c = λ ns. put-behind c.put_word.result (given ns c.args.trace.now c.args.counts.now) _
    c.store_used.new.self _ (w.Order words.Pop) _ (c.in_ok-store_used.ensures.moves ns) c.put_word.ensures refl
