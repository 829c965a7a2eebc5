use Rattle.ot_args.proofs.Written.{is_read}
use Rattle.ot_args.proofs.command.one_reading.Goals as goal

pub returns : goal.returns
returns c = is_read
