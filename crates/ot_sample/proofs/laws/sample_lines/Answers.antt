use Rattle.ot_sample.proofs.Counting.{newlines-sample}
use Rattle.ot_sample.proofs.laws.sample_lines.Goals as goal

pub returns : goal.returns
returns c = newlines-sample
