use Rattle.std.proofs.Common.{rules, ◌≡◌, ◌++◌, ◌∷◌, [], ◌∙◌, ap, map, reverse, subst}
use Rattle.ot_written.specs.Written as w
use Rattle.ot_write.specs.declared.writer.Task.TheVariants as task
use Rattle.ot_trace.specs.declared.step.Step.TheVariants as step
use Rattle.ot_trace.specs.Trace.{origin_at}
use Rattle.ot_write.specs.Emitting.{given, keep, used, same, rest}
use Rattle.ot_write.proofs.Moving.{tree-is, moves-same, definition-text, nothing-moves, asked-work}
use Rattle.ot_write.proofs.Moving.{operands-inside, define-number, define-name, define-make, define-outcome}
use Rattle.ot_write.proofs.writer.Writer.define.Goals as goal

pub run-requires-clause-work : goal.run-requires-clause-work
run-requires-clause-work c =
    let empty : c.new-work.result.items ≡ [] = search rules in
    let a : c.ask.new.work.items ≡ ([] ++ task.Close c.args.id ∷ []) ++ reverse (map task.Write c.in-Define.operands.value.items) = subst (λ l. c.ask.new.work.items ≡ ([] ++ task.Close c.args.id ∷ []) ++ reverse (map task.Write l)) (c.as_slice.ensures.value ∙ ap (λ v. v.items) c.deref.ensures) (c.in_ok-ask-in-Define.ensures ∙ ap (λ z. (z ++ task.Close c.args.id ∷ []) ++ reverse (map task.Write c.as_slice.result.now)) empty) in
    asked-work _ _ c.args.id _ c.requires.inside
    (operands-inside _ c.args.id _ (step.Define c.in-Define.field-0 c.in-Define.operands c.in-Define.field-2)
    c.step.ensures.below c.in-Define.is c.requires.inside) a

pub returns-in_ok-ask-in-Define-clause-moves : goal.returns-in_ok-ask-in-Define-clause-moves
returns-in_ok-ask-in-Define-clause-moves c =
    let g = given c.args.names.now c.args.trace.now c.args.counts.now in
    let empty : c.new-work.result.items ≡ [] = search rules in
    let a : c.ask.new.work.items ≡ ([] ++ task.Close c.args.id ∷ []) ++ reverse (map task.Write c.in-Define.operands.value.items) = subst (λ l. c.ask.new.work.items ≡ ([] ++ task.Close c.args.id ∷ []) ++ reverse (map task.Write l)) (c.as_slice.ensures.value ∙ ap (λ v. v.items) c.deref.ensures) (c.in_ok-ask-in-Define.ensures ∙ ap (λ z. (z ++ task.Close c.args.id ∷ []) ++ reverse (map task.Write c.as_slice.result.now)) empty) in
    let e = tree-is _ c.args.id _ (step.Define c.in-Define.field-0 c.in-Define.operands c.in-Define.field-2)
    c.step.ensures.origin c.in-Define.is in
    moves-same c.run.result g _ c.run.new.self (rest g c.ask.new.work.items)
    (w.emit_definition same (keep g) (used g) (origin_at g.trees c.args.id))
    (definition-text g c.args.id c.in-Define.field-0 c.in-Define.operands.value.items e _ a) c.run.ensures.moves

pub returns-in-Number-clause-moves : goal.returns-in-Number-clause-moves
returns-in-Number-clause-moves c =
    let g = given c.args.names.now c.args.trace.now c.args.counts.now in
    nothing-moves g _ (w.emit_definition same (keep g) (used g) (origin_at g.trees c.args.id))
    (define-number g _ _
    (tree-is _ c.args.id _ (step.Number c.in-Number.field-0) c.step.ensures.origin c.in-Number.is))

pub returns-in-Name-clause-moves : goal.returns-in-Name-clause-moves
returns-in-Name-clause-moves c =
    let g = given c.args.names.now c.args.trace.now c.args.counts.now in
    nothing-moves g _ (w.emit_definition same (keep g) (used g) (origin_at g.trees c.args.id))
    (define-name g _ _ (tree-is _ c.args.id _ (step.Name c.in-Name.field-0) c.step.ensures.origin c.in-Name.is))

pub returns-in-Make-clause-moves : goal.returns-in-Make-clause-moves
returns-in-Make-clause-moves c =
    let g = given c.args.names.now c.args.trace.now c.args.counts.now in
    nothing-moves g _ (w.emit_definition same (keep g) (used g) (origin_at g.trees c.args.id))
    (define-make g _ _ _
    (tree-is _ c.args.id _ (step.Make c.in-Make.field-0 c.in-Make.field-1) c.step.ensures.origin c.in-Make.is))

pub returns-in-Outcome-clause-moves : goal.returns-in-Outcome-clause-moves
returns-in-Outcome-clause-moves c =
    let g = given c.args.names.now c.args.trace.now c.args.counts.now in
    nothing-moves g _ (w.emit_definition same (keep g) (used g) (origin_at g.trees c.args.id))
    (define-outcome g _ _ _ (tree-is _ c.args.id _ (step.Outcome c.in-Outcome.field-0 c.in-Outcome.field-1)
    c.step.ensures.origin c.in-Outcome.is))
