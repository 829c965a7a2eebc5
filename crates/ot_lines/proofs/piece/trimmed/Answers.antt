use Rattle.std.proofs.Common.{refl}
use Rattle.ot_lines.proofs.Trimming.{bare_text}
use Rattle.ot_lines.proofs.piece.trimmed.Goals as goal

pub returns-in-10 : goal.returns-in-10
returns-in-10 c = bare_text c.args.piece.now c.in-10.len_at_least (cc) (c.if-is_bare.ensures refl)
