use Rattle.std.proofs.Common.{refl}
use Rattle.ot_written.specs.Written as w
use Rattle.ot_trace.specs.declared.step.Step.TheVariants as step
use Rattle.ot_trace.specs.Trace.{origin_at, origins_at}
use Rattle.ot_write.specs.Emitting.{close, given}
use Rattle.ot_write.proofs.Moving.{tree-is, finished, moves-same, close-make, defined}
use Rattle.ot_write.proofs.Moving.{nothing-moves, close-number, close-name, close-outcome}
use Rattle.ot_write.proofs.writer.Writer.close.Goals as goal

pub returns-in_ok-put_word-in-Make-clause-moves : goal.returns-in_ok-put_word-in-Make-clause-moves
returns-in_ok-put_word-in-Make-clause-moves c = λ ns.
    let g = given ns c.args.trace.now c.args.counts.now in
    let x = origin_at g.trees c.args.id in
    let e = tree-is _ c.args.id _ (step.Make c.in-Make.word c.in-Make.field-1) c.step.ensures.origin c.in-Make.is in
    moves-same c.store_from.result g _ c.store_from.new.self _ (close g x)
    (close-make g x c.in-Make.word (origins_at g.trees c.in-Make.field-1) e)
    (finished c.store_from.result g _ _ c.store_from.new.self x (w.Order c.in-Make.word)
    c.in_ok-put_word-in-Make.ensures refl (c.store_from.ensures.moves ns))

pub returns-in_ok-store_theorems-in-Define-clause-moves : goal.returns-in_ok-store_theorems-in-Define-clause-moves
returns-in_ok-store_theorems-in-Define-clause-moves c = λ ns.
    let g = given ns c.args.trace.now c.args.counts.now in
    let x = origin_at g.trees c.args.id in
    let e = tree-is _ c.args.id _ (step.Define c.in-Define.word c.in-Define.field-1 c.in-Define.field-2)
    c.step.ensures.origin c.in-Define.is in
    defined c.pops.result g _ _ c.store_theorems.new.self c.pops.new.self x c.in-Define.word
    (origins_at g.trees c.in-Define.field-1.value.items) c.theorems.result c.symbols.result e c.theorems.ensures
    c.symbols.ensures
    c.in_ok-put_word-in-Define.ensures refl (c.in_ok-store_theorems-in-Define.ensures.moves ns)
    (c.pops.ensures.moves g)

pub returns-in-Number-clause-moves : goal.returns-in-Number-clause-moves
returns-in-Number-clause-moves c = λ ns.
    let g = given ns c.args.trace.now c.args.counts.now in
    nothing-moves g _ (close g (origin_at g.trees c.args.id))
    (close-number g _ _
    (tree-is _ c.args.id _ (step.Number c.in-Number.field-0) c.step.ensures.origin c.in-Number.is))

pub returns-in-Name-clause-moves : goal.returns-in-Name-clause-moves
returns-in-Name-clause-moves c = λ ns.
    let g = given ns c.args.trace.now c.args.counts.now in
    nothing-moves g _ (close g (origin_at g.trees c.args.id))
    (close-name g _ _ (tree-is _ c.args.id _ (step.Name c.in-Name.field-0) c.step.ensures.origin c.in-Name.is))

pub returns-in-Outcome-clause-moves : goal.returns-in-Outcome-clause-moves
returns-in-Outcome-clause-moves c = λ ns.
    let g = given ns c.args.trace.now c.args.counts.now in
    nothing-moves g _ (close g (origin_at g.trees c.args.id))
    (close-outcome g _ _ _ (tree-is _ c.args.id _ (step.Outcome c.in-Outcome.field-0 c.in-Outcome.field-1)
    c.step.ensures.origin c.in-Outcome.is))
