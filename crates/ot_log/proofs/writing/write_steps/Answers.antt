use Rattle.ot_log.proofs.writing.write_steps.Goals as goal

pub returns : goal.returns
returns c = c.finish.ensures c.in_ok-writer.writer.nodes c.args.max _ c.in_ok-writer.ensures.log
