use Rattle.std.proofs.Common.{◌≡◌, ◌++◌, take}
use Rattle.ot_sample.specs.Sample.{lines}
use Rattle.ot_sample.proofs.sample.push_lines.Given as goal

abbrev pub invariant-loop-byte : goal.invariant-loop-byte
invariant-loop-byte l = l.out.items ≡ l.initial.out.items ++ lines (take l.byte-index l.words)
