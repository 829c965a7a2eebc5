use Rattle.std.proofs.Common.{[], ◌∷◌, ap, sym, subst, ◌∙◌, length}
use Rattle.ot_trace.specs.Origins.{Outcome, Define}
use Rattle.ot_machine.specs.Meaning.{origin_of}
use Rattle.ot_log_law.specs.Writing.{outcomes, write_all}
use Rattle.ot_log_values.specs.Steps.{origins_of}
use Rattle.ot_log_words.proofs.Defining.{on-ok}
use Rattle.ot_log.specs.Keeping.{IsDefinable}
use Rattle.ot_log.specs.Ready.{HasPremises, HavePlaces}
use Rattle.ot_log.proofs.Accepted.{defined-long, defining-word}
use Rattle.ot_log.proofs.Closed.{defined-origin, defined-inside}
use Rattle.ot_log.proofs.Numbered.{have-places, write_all-there}
use Rattle.ot_log.proofs.Outcomes.{definable-values, define-moves, not-defined, theorems-made, outcomes-long}
use Rattle.ot_log.proofs.writer.Writer.define.Goals as goal

pub theorems-requires-clause-ready : goal.theorems-requires-clause-ready
theorems-requires-clause-ready c =
    let s = c.args.session.now in
    let k = c.requires.ready in (
      k.0,
      k.1,
      k.2,
      subst (HasPremises k.1)
          (defined-origin s c.args.id c.trace.result.now c.step.result.now c.in-Define.word c.in-Define.operands
          c.in-Define.field-2 c.as_slice.result.now c.trace.ensures c.step.ensures.origin c.in-Define.is
          (c.as_slice.ensures.value ∙ ap (λ v. v.items) c.deref.ensures)) k.3,
    )

pub put_definition-requires-clause-there : goal.put_definition-requires-clause-there
put_definition-requires-clause-there c =
    let s = c.args.session.now in
    let ids = c.as_slice.result.now in
    let read = c.as_slice.ensures.value ∙ ap (λ v. v.items) c.deref.ensures in
    let again = c.as_slice-in-Define.ensures.value ∙ ap (λ v. v.items) c.deref-in-Define.ensures in
    let e = defined-origin s c.args.id c.trace.result.now c.step.result.now c.in-Define.word c.in-Define.operands
    c.in-Define.field-2 ids c.trace.ensures c.step.ensures.origin c.in-Define.is read in
    let k = c.requires.ready in
    let os = origins_of s ids in
    subst (HavePlaces s c.theorems.new.self.places.items) (read ∙ sym again)
    (have-places s k.0 c.theorems.new.self (write_all os k.1) (c.in_ok-theorems-in-Define.ensures.moves k.0 k.1 k.2)
    ids
    (defined-inside (length s.trace) c.args.id c.step.result.now c.in-Define.word c.in-Define.operands
    c.in-Define.field-2 ids c.step.ensures.below c.in-Define.is read c.requires.inside)
    (write_all-there os k.1 (subst (HasPremises k.1) e k.3)))

pub theorems-requires-clause-values : goal.theorems-requires-clause-values
theorems-requires-clause-values c =
    let s = c.args.session.now in
    definable-values (origin_of s c.args.id) c.in-Define.word (origins_of s c.as_slice.result.now)
    (defined-origin s c.args.id c.trace.result.now c.step.result.now c.in-Define.word c.in-Define.operands
    c.in-Define.field-2
    c.as_slice.result.now c.trace.ensures c.step.ensures.origin c.in-Define.is
    (c.as_slice.ensures.value ∙ ap (λ v. v.items) c.deref.ensures))
    c.requires.definable

pub put_definition-requires-clause-definable : goal.put_definition-requires-clause-definable
put_definition-requires-clause-definable c =
    subst IsDefinable
    (defined-origin c.args.session.now c.args.id c.trace.result.now c.step.result.now c.in-Define.word
    c.in-Define.operands c.in-Define.field-2 c.as_slice-in-Define.result.now c.trace.ensures c.step.ensures.origin
    c.in-Define.is (c.as_slice-in-Define.ensures.value ∙ ap (λ v. v.items) c.deref-in-Define.ensures)) c.requires.definable

pub put_definition-requires-clause-count : goal.put_definition-requires-clause-count
put_definition-requires-clause-count c =
    let s = c.args.session.now in
    let ids = c.as_slice-in-Define.result.now in
    defined-long s c.in-Define.word ids
    (subst IsDefinable (defined-origin s c.args.id c.trace.result.now c.step.result.now
    c.in-Define.word c.in-Define.operands c.in-Define.field-2 ids c.trace.ensures c.step.ensures.origin c.in-Define.is
    (c.as_slice-in-Define.ensures.value ∙ ap (λ v. v.items) c.deref-in-Define.ensures)) c.requires.definable)

pub unreachable-requires-in_default-word : goal.unreachable-requires-in_default-word
unreachable-requires-in_default-word c =
    let s = c.args.session.now in
    let ids = c.as_slice-in-Define.result.now in
    defining-word s c.in-Define.word ids
    (subst IsDefinable (defined-origin s c.args.id c.trace.result.now c.step.result.now
    c.in-Define.word c.in-Define.operands c.in-Define.field-2 ids c.trace.ensures c.step.ensures.origin c.in-Define.is
    (c.as_slice-in-Define.ensures.value ∙ ap (λ v. v.items) c.deref-in-Define.ensures)) c.requires.definable)
    c.in_default-word.not-DefineConst c.in_default-word.not-DefineConstList c.in_default-word.not-DefineTypeOp

pub unreachable-requires-in_default : goal.unreachable-requires-in_default
unreachable-requires-in_default c =
    not-defined c.args.session.now c.args.id c.trace.result.now c.step.result.now c.trace.ensures
    c.step.ensures.origin
    c.in_default.not-Define c.requires.definable

pub mark_one-requires-clause-theorems : goal.mark_one-requires-clause-theorems
mark_one-requires-clause-theorems c =
    let s = c.args.session.now in
    let ids = c.as_slice-in-Define.result.now in
    theorems-made s c.theorems.new.self c.put_definition.new.self c.in-Define.word c.args.id ids c.in-Ok.made.items
    c.in-Ok.ensures.puts (defined-origin s c.args.id c.trace.result.now c.step.result.now c.in-Define.word
    c.in-Define.operands c.in-Define.field-2 ids c.trace.ensures c.step.ensures.origin c.in-Define.is
    (c.as_slice-in-Define.ensures.value ∙ ap (λ v. v.items) c.deref-in-Define.ensures))

pub mark_one-requires-in-DefineConstList-clause-theorems : goal.mark_one-requires-in-DefineConstList-clause-theorems
mark_one-requires-in-DefineConstList-clause-theorems c =
    let s = c.args.session.now in
    let ids = c.as_slice-in-Define.result.now in
    theorems-made s c.theorems.new.self c.put_definition.new.self c.in-Define.word c.args.id ids c.in-Ok.made.items
    c.in-Ok.ensures.puts (defined-origin s c.args.id c.trace.result.now c.step.result.now c.in-Define.word
    c.in-Define.operands c.in-Define.field-2 ids c.trace.ensures c.step.ensures.origin c.in-Define.is
    (c.as_slice-in-Define.ensures.value ∙ ap (λ v. v.items) c.deref-in-Define.ensures))

pub mark_two-requires-clause-theorems : goal.mark_two-requires-clause-theorems
mark_two-requires-clause-theorems c =
    let s = c.args.session.now in
    let ids = c.as_slice-in-Define.result.now in
    theorems-made s c.theorems.new.self c.put_definition.new.self c.in-Define.word c.args.id ids c.in-Ok.made.items
    c.in-Ok.ensures.puts (defined-origin s c.args.id c.trace.result.now c.step.result.now c.in-Define.word
    c.in-Define.operands c.in-Define.field-2 ids c.trace.ensures c.step.ensures.origin c.in-Define.is
    (c.as_slice-in-Define.ensures.value ∙ ap (λ v. v.items) c.deref-in-Define.ensures))

pub returns-in-DefineConst-clause-moves : goal.returns-in-DefineConst-clause-moves
returns-in-DefineConst-clause-moves c =
    let s = c.args.session.now in
    let ids = c.as_slice-in-Define.result.now in
    let o = origin_of s c.args.id in
    let e = defined-origin s c.args.id c.trace.result.now c.step.result.now c.in-Define.word c.in-Define.operands
    c.in-Define.field-2 ids c.trace.ensures c.step.ensures.origin c.in-Define.is
    (c.as_slice-in-Define.ensures.value ∙ ap (λ v. v.items) c.deref-in-Define.ensures) in
    let inside = defined-inside (length s.trace) c.args.id c.step.result.now c.in-Define.word c.in-Define.operands
    c.in-Define.field-2 ids c.step.ensures.below c.in-Define.is
    (c.as_slice-in-Define.ensures.value ∙ ap (λ v. v.items) c.deref-in-Define.ensures) c.requires.inside in
    on-ok c.mark_one.result
    (λ m. define-moves s c.args.self.now c.theorems.new.self c.put_definition.new.self c.mark_one.new.self
    c.in-Define.word c.args.id c.as_slice.result.now ids c.in-Ok.made.items (Outcome 1 o ∷ [])
    e ((c.as_slice.ensures.value ∙ ap (λ v. v.items) c.deref.ensures)
    ∙ sym (c.as_slice-in-Define.ensures.value ∙ ap (λ v. v.items) c.deref-in-Define.ensures))
    c.in_ok-theorems-in-Define.ensures.moves
    c.in-Ok.ensures.puts inside
    (ap (λ w. outcomes w o) c.in-DefineConst.is) m) c.mark_one.ensures.moves

pub returns-in-DefineConstList-clause-moves : goal.returns-in-DefineConstList-clause-moves
returns-in-DefineConstList-clause-moves c =
    let s = c.args.session.now in
    let ids = c.as_slice-in-Define.result.now in
    let o = origin_of s c.args.id in
    let e = defined-origin s c.args.id c.trace.result.now c.step.result.now c.in-Define.word c.in-Define.operands
    c.in-Define.field-2 ids c.trace.ensures c.step.ensures.origin c.in-Define.is
    (c.as_slice-in-Define.ensures.value ∙ ap (λ v. v.items) c.deref-in-Define.ensures) in
    let inside = defined-inside (length s.trace) c.args.id c.step.result.now c.in-Define.word c.in-Define.operands
    c.in-Define.field-2 ids c.step.ensures.below c.in-Define.is
    (c.as_slice-in-Define.ensures.value ∙ ap (λ v. v.items) c.deref-in-Define.ensures) c.requires.inside in
    on-ok c.mark_one-in-DefineConstList.result
    (λ m. define-moves s c.args.self.now c.theorems.new.self c.put_definition.new.self
    c.mark_one-in-DefineConstList.new.self c.in-Define.word c.args.id c.as_slice.result.now ids c.in-Ok.made.items
    (Outcome 1 o ∷ [])
    e ((c.as_slice.ensures.value ∙ ap (λ v. v.items) c.deref.ensures)
    ∙ sym (c.as_slice-in-Define.ensures.value ∙ ap (λ v. v.items) c.deref-in-Define.ensures))
    c.in_ok-theorems-in-Define.ensures.moves
    c.in-Ok.ensures.puts inside
    (ap (λ w. outcomes w o) c.in-DefineConstList.is) m) c.mark_one-in-DefineConstList.ensures.moves

pub returns-in-DefineTypeOp-clause-moves : goal.returns-in-DefineTypeOp-clause-moves
returns-in-DefineTypeOp-clause-moves c =
    let s = c.args.session.now in
    let ids = c.as_slice-in-Define.result.now in
    let o = origin_of s c.args.id in
    let e = defined-origin s c.args.id c.trace.result.now c.step.result.now c.in-Define.word c.in-Define.operands
    c.in-Define.field-2 ids c.trace.ensures c.step.ensures.origin c.in-Define.is
    (c.as_slice-in-Define.ensures.value ∙ ap (λ v. v.items) c.deref-in-Define.ensures) in
    let inside = defined-inside (length s.trace) c.args.id c.step.result.now c.in-Define.word c.in-Define.operands
    c.in-Define.field-2 ids c.step.ensures.below c.in-Define.is
    (c.as_slice-in-Define.ensures.value ∙ ap (λ v. v.items) c.deref-in-Define.ensures) c.requires.inside in
    on-ok c.mark_two.result
    (λ m. define-moves s c.args.self.now c.theorems.new.self c.put_definition.new.self c.mark_two.new.self
    c.in-Define.word c.args.id c.as_slice.result.now ids c.in-Ok.made.items (Outcome 1 o ∷ Outcome 2 o ∷ [])
    e ((c.as_slice.ensures.value ∙ ap (λ v. v.items) c.deref.ensures)
    ∙ sym (c.as_slice-in-Define.ensures.value ∙ ap (λ v. v.items) c.deref-in-Define.ensures))
    c.in_ok-theorems-in-Define.ensures.moves
    c.in-Ok.ensures.puts inside
    (ap (λ w. outcomes w o) c.in-DefineTypeOp.is) m) c.mark_two.ensures.moves

pub mark_one-requires-clause-count : goal.mark_one-requires-clause-count
mark_one-requires-clause-count c =
    let s = c.args.session.now in
    let ids = c.as_slice-in-Define.result.now in
    let e = defined-origin s c.args.id c.trace.result.now c.step.result.now c.in-Define.word c.in-Define.operands
    c.in-Define.field-2 ids c.trace.ensures c.step.ensures.origin c.in-Define.is
    (c.as_slice-in-Define.ensures.value ∙ ap (λ v. v.items) c.deref-in-Define.ensures) in
    outcomes-long s c.theorems.new.self c.put_definition.new.self c.in-Define.word ids c.in-Ok.made.items
    (subst IsDefinable e c.requires.definable) c.in-Ok.ensures.puts
    ∙ ap (λ w. length (outcomes w (Define c.in-Define.word (origins_of s ids)))) c.in-DefineConst.is

pub mark_one-requires-in-DefineConstList-clause-count : goal.mark_one-requires-in-DefineConstList-clause-count
mark_one-requires-in-DefineConstList-clause-count c =
    let s = c.args.session.now in
    let ids = c.as_slice-in-Define.result.now in
    let e = defined-origin s c.args.id c.trace.result.now c.step.result.now c.in-Define.word c.in-Define.operands
    c.in-Define.field-2 ids c.trace.ensures c.step.ensures.origin c.in-Define.is
    (c.as_slice-in-Define.ensures.value ∙ ap (λ v. v.items) c.deref-in-Define.ensures) in
    outcomes-long s c.theorems.new.self c.put_definition.new.self c.in-Define.word ids c.in-Ok.made.items
    (subst IsDefinable e c.requires.definable) c.in-Ok.ensures.puts
    ∙ ap (λ w. length (outcomes w (Define c.in-Define.word (origins_of s ids)))) c.in-DefineConstList.is

pub mark_two-requires-clause-count : goal.mark_two-requires-clause-count
mark_two-requires-clause-count c =
    let s = c.args.session.now in
    let ids = c.as_slice-in-Define.result.now in
    let e = defined-origin s c.args.id c.trace.result.now c.step.result.now c.in-Define.word c.in-Define.operands
    c.in-Define.field-2 ids c.trace.ensures c.step.ensures.origin c.in-Define.is
    (c.as_slice-in-Define.ensures.value ∙ ap (λ v. v.items) c.deref-in-Define.ensures) in
    outcomes-long s c.theorems.new.self c.put_definition.new.self c.in-Define.word ids c.in-Ok.made.items
    (subst IsDefinable e c.requires.definable) c.in-Ok.ensures.puts
    ∙ ap (λ w. length (outcomes w (Define c.in-Define.word (origins_of s ids)))) c.in-DefineTypeOp.is
