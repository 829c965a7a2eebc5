use Rattle.std.proofs.Common.{◌≡◌, [], rules, arith}
use Rattle.std.proofs.lemmas.Grind.{common_steps}
use Rattle.ot_log.specs.Working.{rest}
use Rattle.ot_log.proofs.Worked.{leads-more, leads-all, more-ready, pop-cheaper, task-ready}
use Rattle.ot_log.proofs.writer.Writer.run.Goals as goal

pub tasks-smaller : goal.tasks-smaller
tasks-smaller c = pop-cheaper c.args.session.now _ _ _ c.in-Some.task c.in-Some.ensures.items
    c.in_ok-perform.ensures.cheaper

pub perform-requires-clause-ready : goal.perform-requires-clause-ready
perform-requires-clause-ready c = task-ready c.args.session.now c.tasks.self _ _ c.in-Some.task
    c.in-Some.ensures.items c.tasks.invariant.ready

pub tasks-preserved : goal.tasks-preserved
tasks-preserved c =
    let e = c.in_ok-perform.ensures in
    record {
      writer = e.writer;
      tasks = e.work;
      ready = more-ready c.args.session.now c.tasks.self c.perform.new.self _ _ _ c.in-Some.task
          c.in-Some.ensures.items c.tasks.invariant.ready e.moves;
      so_far = leads-more c.args.session.now c.args.self.now c.tasks.self c.perform.new.self
          (rest c.args.session.now c.args.work.items) _ _ _ c.in-Some.task c.in-Some.ensures.items
          c.tasks.invariant.so_far
          e.moves;
    }

pub returns-clause-moves : goal.returns-clause-moves
returns-clause-moves c =
    let empty : c.tasks.work.items ≡ [] = first_of (search rules, grind (arith, common_steps)) in
    leads-all c.args.session.now c.args.self.now c.tasks.self (rest c.args.session.now c.args.work.items)
    c.tasks.work.items empty
    c.tasks.invariant.so_far
