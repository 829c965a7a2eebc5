use Rattle.std.specs.HashMap.{get_by}
use Rattle.std.specs.Str.{bytes_eq}
use Rattle.std.proofs.Common.{◌∙◌, sym, ap, cond, Some}
use Rattle.ot_parse.specs.Bases.{held, holder_of, one_more}
use Rattle.ot_parse.proofs.BaseNames.{other-kind, other-shown, added, looked-up, changed}
use Rattle.ot_parse.proofs.bases.add_holder.Goals as goal

pub returns-then-not-is_one_kind : goal.returns-then-not-is_one_kind
returns-then-not-is_one_kind c = λ text. other-kind c.args.shown.now c.args.kind c.args.symbol.now.0
    c.args.symbol.now.1 text (held c.args.holders.now text) (sym c.is_one_kind.ensures ∙ c.if-not-is_one_kind.true)

pub returns-then-not-is_shown : goal.returns-then-not-is_shown
returns-then-not-is_shown c = λ text. other-shown c.args.shown.now c.args.kind c.args.symbol.now.0 c.args.symbol.now.1
    text (held c.args.holders.now text) (sym c.is_shown.ensures ∙ c.if-not-is_shown.true)

pub returns : goal.returns
returns c = λ text.
    let holder = c.with_name-holder.result in
    let named = looked-up _ _ c.get.ensures.value ∙ ap (held c.args.holders.now) c.base_of-base.ensures in
    added c.args.shown.now c.args.kind c.args.symbol.now.0 c.args.symbol.now.1 text (held c.args.holders.now)
    (holder_of holder) (held c.insert.new.self text) (sym c.is_one_kind.ensures ∙ c.if-not-is_one_kind.false)
    (sym c.is_shown.ensures ∙ c.if-not-is_shown.false)
    (c.with_name-holder.ensures ∙ ap (λ o. one_more o c.args.symbol.now.1) named)
    (
    changed (get_by (λ k. bytes_eq text k.now) c.insert.new.self)
    (get_by (λ k. bytes_eq text k.now) c.args.holders.now) (bytes_eq c.base_of-base.result.now text) holder
    (c.in_ok-insert.ensures.updates.0 (record { ref_ptr = c.base_of-base.result.ref_ptr; now = text }))
    ∙ ap (λ z. cond (bytes_eq z text) (Some (holder_of holder)) (held c.args.holders.now text)) c.base_of-base.ensures
    )
