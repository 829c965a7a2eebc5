use Rattle.std.proofs.Common.{rules, ◌≡◌, ◌++◌, [], ◌∙◌, ap, sym, subst, map, reverse}
use Rattle.ot_log_words.proofs.Defining.{on-ok}
use Rattle.ot_log.specs.Keeping.{Holds}
use Rattle.ot_log.specs.Ready.{Knows}
use Rattle.ot_log.specs.Working.{AreTasks, CanDoAll, rest}
use Rattle.ot_log.specs.declared.worklist.Task.TheVariants as task
use Rattle.ot_log.proofs.Worked.{can-steps, steps-tasks, rest-steps}
use Rattle.ot_log.proofs.writer.Writer.theorems.Goals as goal

pub run-requires-clause-work : goal.run-requires-clause-work
run-requires-clause-work c =
    let s = c.args.session.now in
    let empty : c.new-work.result.items ≡ [] = search rules in
    let all : c.push_back.new.work.items ≡ reverse (map task.Write c.args.ids.now) = c.in_ok-push_back.ensures
    ∙ ap (λ z. z ++ reverse (map task.Write c.args.ids.now)) empty in
    subst (AreTasks s) (sym all) (steps-tasks s c.args.ids.now c.requires.inside c.requires.values)

pub returns-clause-moves : goal.returns-clause-moves
returns-clause-moves c =
    let s = c.args.session.now in
    let empty : c.new-work.result.items ≡ [] = search rules in
    let all : c.push_back.new.work.items ≡ reverse (map task.Write c.args.ids.now) = c.in_ok-push_back.ensures
    ∙ ap (λ z. z ++ reverse (map task.Write c.args.ids.now)) empty in
    on-ok c.run.result (λ m. λ max x h. subst (Holds s max c.run.new.self)
    (ap (λ l. rest s l x) all ∙ rest-steps s c.args.ids.now x) (m max x h)) c.run.ensures.moves

pub run-requires-clause-ready : goal.run-requires-clause-ready
run-requires-clause-ready c =
    let s = c.args.session.now in
    let empty : c.new-work.result.items ≡ [] = search rules in
    let all : c.push_back.new.work.items ≡ reverse (map task.Write c.args.ids.now) = c.in_ok-push_back.ensures
    ∙ ap (λ z. z ++ reverse (map task.Write c.args.ids.now)) empty in
    let k = c.requires.ready in
    subst (λ l. Knows s c.args.self.now (CanDoAll s l)) (sym all)
    (k.0, k.1, k.2, can-steps s c.args.ids.now k.1 k.3)
