use Rattle.std.proofs.Common.{arith}
use Rattle.std.proofs.lemmas.List.{take_rest}
use Rattle.ot_io.proofs.KnownBytes.{Appends-take_more}
use Rattle.ot_io.proofs.sink.write_whole.Goals as goal

pub loop-done-preserved : goal.loop-done-preserved
loop-done-preserved g c = record {
  in_range = omega (arith, c.in-Ok.ensures.bound);
  later = omega (arith, c.in-Ok.ensures.cause.later);
  same_flushed = cc;
  added = Appends-take_more _ _ _ _ _ _ c.loop-done.invariant.added (rw take_rest at c.in-Ok.ensures.bytes);
}
