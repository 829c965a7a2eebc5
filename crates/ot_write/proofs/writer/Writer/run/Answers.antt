use Rattle.ot_write.specs.Emitting.{given, rest}
use Rattle.ot_write.proofs.Moving.{leads-more, pop-cheaper}
use Rattle.ot_write.proofs.writer.Writer.run.Goals as goal

pub tasks-smaller : goal.tasks-smaller
tasks-smaller c = let e = c.in_ok-perform.ensures in
    pop-cheaper _ _ _ _ c.in-Some.task c.in-Some.ensures.items e.cheaper

pub tasks-preserved : goal.tasks-preserved
tasks-preserved c =
    let e = c.in_ok-perform.ensures in
    let g = given c.args.names.now c.args.trace.now c.args.counts.now in
    record {
      ready = e.ready;
      inside = e.work;
      so_far = leads-more g c.args.self.now (rest g c.args.work.items) c.tasks.self c.perform.new.self _ _ _
          c.in-Some.task c.in-Some.ensures.items c.tasks.invariant.so_far e.moves;
    }
