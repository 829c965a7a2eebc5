use Rattle.std.proofs.Common.{inl}
use Rattle.ot_uses.proofs.text.put_exports.Goals as goal

pub returns-in-Err : goal.returns-in-Err
returns-in-Err c = record { state = inl c.stop.ensures }
