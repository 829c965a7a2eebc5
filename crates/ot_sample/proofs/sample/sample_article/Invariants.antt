use Rattle.std.proofs.Common.{◌≡◌, ◌++◌}
use Rattle.ot_sample.specs.Sample.{opening, doublings}
use Rattle.ot_sample.proofs.sample.sample_article.Given as goal

abbrev pub invariant-loop-k : goal.invariant-loop-k
invariant-loop-k l = l.text.items ≡ opening ++ doublings l.k
