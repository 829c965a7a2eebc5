use Rattle.std.proofs.Common.{rules, SFits, ◌≡◌, ◌++◌, ◌∷◌, [], ◌∙◌, ap, sym, map, reverse, OnOk, subst, refl, Some}
use mir.Syntax.{w64}
use Rattle.std.proofs.lemmas.Int.{to_z-of_z}
use Rattle.ot_written.specs.Written as w
use Rattle.ot_write.specs.Emitting.{number_line}
use Rattle.ot_write.specs.Limited as limit
use Rattle.ot_write.specs.declared.writer.Task.TheVariants as task
use Rattle.ot_trace.specs.declared.step.Step.TheVariants as step
use Rattle.ot_trace.specs.Trace.{origin_at, origins_at, origin_of}
use Rattle.ot_write.specs.Emitting.{begin, given}
use Rattle.ot_write.proofs.Moving.{tree-is, at-once, begin-name, begin-number, begin-define, begin-outcome}
use Rattle.ot_write.proofs.Moving.{numbered, finished, nothing, name-line, asked, asked-cheaper}
use Rattle.ot_write.proofs.Moving.{asked-inside, operands-inside, cheaper-same, cheaper-none}
use Rattle.ot_write.proofs.writer.Writer.begin.Goals as goal

pub get-requires : goal.get-requires
get-requires c = c.requires.named c.args.id c.in-Name.n
    (c.step.ensures.origin ∙ ap (λ s. Some (origin_of c.args.trace.now s)) c.in-Name.is)

pub returns-in-Number-clause-moves : goal.returns-in-Number-clause-moves
returns-in-Number-clause-moves c =
    let fits : SFits w64 c.in-Number.k = search rules in
    let g = given c.args.names.now c.args.trace.now c.args.counts.now in
    let x = origin_at g.trees c.args.id in
    at-once c.put_number.result g _ _ _ _ (begin g x)
    (begin-number g x c.in-Number.k
    (tree-is _ c.args.id _ (step.Number c.in-Number.k) c.step.ensures.origin c.in-Number.is))
    (numbered c.put_number.result g _ _ c.in-Number.k
    (subst (λ z. OnOk c.put_number.result
    (limit.limited c.put_number.new.self ≡ limit.put (number_line g.names (w.Numeral z))
    (limit.limited c.args.self.now.text))) (to_z-of_z _ _ fits) c.put_number.ensures) refl)

pub returns-in-Number-clause-cheaper : goal.returns-in-Number-clause-cheaper
returns-in-Number-clause-cheaper c = cheaper-same c.put_number.result _ _ _

pub returns-in_ok-put_name-in-Name-clause-moves : goal.returns-in_ok-put_name-in-Name-clause-moves
returns-in_ok-put_name-in-Name-clause-moves c =
    let g = given c.args.names.now c.args.trace.now c.args.counts.now in
    let x = origin_at g.trees c.args.id in
    let line = name-line c.args.names.now c.in-Name.n c.get.result.now c.get.ensures.table.injective
    c.get.ensures.name in
    at-once c.store_from.result g _ c.store_from.new.self _ _ (begin g x)
    (begin-name g x c.in-Name.n
    (tree-is _ c.args.id _ (step.Name c.in-Name.n) c.step.ensures.origin c.in-Name.is))
    (finished c.store_from.result g c.args.self.now _ c.store_from.new.self x (w.Spelled c.in-Name.n)
    (c.in_ok-put_name-in-Name.ensures ∙ ap (λ z. limit.put z (limit.limited c.args.self.now.text)) (sym line))
    refl (c.store_from.ensures.moves c.args.names.now))

pub returns-in_ok-put_name-in-Name-clause-cheaper : goal.returns-in_ok-put_name-in-Name-clause-cheaper
returns-in_ok-put_name-in-Name-clause-cheaper c = cheaper-same c.store_from.result _ _ _

pub returns-in-Make-clause-moves : goal.returns-in-Make-clause-moves
returns-in-Make-clause-moves c =
    let a : OnOk c.ask.result (c.ask.new.work.items ≡ (c.args.work.now.items ++ task.Close c.args.id ∷ []) ++ reverse (map task.Write c.in-Make.operands)) = subst (λ l. OnOk c.ask.result (c.ask.new.work.items ≡ (c.args.work.now.items ++ task.Close c.args.id ∷ []) ++ reverse (map task.Write l))) c.as_slice.ensures c.ask.ensures in
    asked (given c.args.names.now c.args.trace.now c.args.counts.now) _ _ c.args.id c.in-Make.field-0
    c.in-Make.operands (tree-is _ c.args.id _ (step.Make c.in-Make.field-0 c.in-Make.operands)
    c.step.ensures.origin c.in-Make.is) c.ask.result _ a

pub returns-in-Make-clause-cheaper : goal.returns-in-Make-clause-cheaper
returns-in-Make-clause-cheaper c =
    let a : OnOk c.ask.result (c.ask.new.work.items ≡ (c.args.work.now.items ++ task.Close c.args.id ∷ []) ++ reverse (map task.Write c.in-Make.operands)) = subst (λ l. OnOk c.ask.result (c.ask.new.work.items ≡ (c.args.work.now.items ++ task.Close c.args.id ∷ []) ++ reverse (map task.Write l))) c.as_slice.ensures c.ask.ensures in
    asked-cheaper (given c.args.names.now c.args.trace.now c.args.counts.now) _ _ c.args.id c.in-Make.field-0
    c.in-Make.operands (tree-is _ c.args.id _ (step.Make c.in-Make.field-0 c.in-Make.operands)
    c.step.ensures.origin c.in-Make.is) c.ask.result a

pub returns-in-Make-clause-work : goal.returns-in-Make-clause-work
returns-in-Make-clause-work c =
    let a : OnOk c.ask.result (c.ask.new.work.items ≡ (c.args.work.now.items ++ task.Close c.args.id ∷ []) ++ reverse (map task.Write c.in-Make.operands)) = subst (λ l. OnOk c.ask.result (c.ask.new.work.items ≡ (c.args.work.now.items ++ task.Close c.args.id ∷ []) ++ reverse (map task.Write l))) c.as_slice.ensures c.ask.ensures in
    asked-inside _ c.ask.result _ _ c.args.id _ c.requires.work c.requires.inside
    (operands-inside _ c.args.id _ (step.Make c.in-Make.field-0 c.in-Make.operands) c.step.ensures.below
    c.in-Make.is c.requires.inside) a

pub returns-in-Define-clause-moves : goal.returns-in-Define-clause-moves
returns-in-Define-clause-moves c =
    let g = given c.args.names.now c.args.trace.now c.args.counts.now in
    let x = origin_at g.trees c.args.id in
    nothing g _ _ (begin g x)
    (begin-define g x c.in-Define.field-0 (origins_at g.trees c.in-Define.field-1.value.items)
    (tree-is _ c.args.id _ (step.Define c.in-Define.field-0 c.in-Define.field-1 c.in-Define.field-2)
    c.step.ensures.origin c.in-Define.is))

pub returns-in-Define-clause-cheaper : goal.returns-in-Define-clause-cheaper
returns-in-Define-clause-cheaper c = cheaper-none _ _ _

pub returns-in-Outcome-clause-moves : goal.returns-in-Outcome-clause-moves
returns-in-Outcome-clause-moves c =
    let g = given c.args.names.now c.args.trace.now c.args.counts.now in
    let x = origin_at g.trees c.args.id in
    nothing g _ _ (begin g x)
    (begin-outcome g x c.in-Outcome.field-0 (origin_at g.trees c.in-Outcome.field-1)
    (tree-is _ c.args.id _ (step.Outcome c.in-Outcome.field-0 c.in-Outcome.field-1) c.step.ensures.origin
    c.in-Outcome.is))

pub returns-in-Outcome-clause-cheaper : goal.returns-in-Outcome-clause-cheaper
returns-in-Outcome-clause-cheaper c = cheaper-none _ _ _
