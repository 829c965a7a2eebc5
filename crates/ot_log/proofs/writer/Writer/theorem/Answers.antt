use Rattle.std.proofs.Common.{rules, ◌≡◌, ◌++◌, ◌∷◌, [], ◌∙◌, ap, subst, sym, OnOk}
use Rattle.ot_log.specs.Keeping.{Moves}
use Rattle.ot_log.specs.Working.{CanDoAll, rest}
use Rattle.ot_log.specs.declared.worklist.Task.TheVariants as task
use Rattle.ot_log.specs.Ready.{Knows}
use Rattle.ot_log.proofs.writer.Writer.theorem.Goals as goal

pub returns-clause-moves : goal.returns-clause-moves
returns-clause-moves c =
    let s = c.args.session.now in
    let empty : c.new-work.result.items ≡ [] = search rules in
    subst (λ l. OnOk c.run.result (Moves s c.args.self.now c.run.new.self (rest s l)))
    (c.in_ok-push.ensures.items ∙ ap (λ z. z ++ task.Write c.args.id ∷ []) empty) c.run.ensures.moves

pub run-requires-clause-ready : goal.run-requires-clause-ready
run-requires-clause-ready c =
    let s = c.args.session.now in
    let empty : c.new-work.result.items ≡ [] = search rules in
    let k = c.requires.ready in
    subst (λ l. Knows s c.args.self.now (CanDoAll s l))
    (sym (c.in_ok-push.ensures.items ∙ ap (λ z. z ++ task.Write c.args.id ∷ []) empty)) (k.0, k.1, k.2, (k.3, tt))
