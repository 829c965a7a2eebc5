use Rattle.std.proofs.Common.{◌≡◌, length, ap, sym, subst, ◌∙◌}
use Rattle.std.proofs.lemmas.Result.{on_ok_weaker}
use Rattle.ot_logic.specs.Lists.{IsMember}
use Rattle.ot_trace.specs.Walk.{symbol_numbers}
use Rattle.ot_leads.proofs.ColumnLemmas.{gains-as}
use Rattle.ot_leads.proofs.column.Column.note_symbols.Goals as goal

pub returns-in-Define : goal.returns-in-Define
returns-in-Define c =
    let items = c.as_slice.ensures.value ∙ ap (λ v. v.items) c.deref.ensures in
    on_ok_weaker c.note_all.result
    (λ v. gains-as (length c.args.self.now.of.items) c.args.self.now c.note_all.new.self
    (λ i p. IsMember i c.as_slice.result.now × (p ≡ c.args.place))
    (λ i p. IsMember i (symbol_numbers c.args.step.now) × (p ≡ c.args.place))
    (λ i p h a. (rw c.in-Define.is (subst (IsMember i) items a.0), a.1))
    (λ i p h a. (
      subst (IsMember i) (sym items) (subst (λ s. IsMember i (symbol_numbers s)) c.in-Define.is a.0),
      a.1,
    )) v)
    c.note_all.ensures
