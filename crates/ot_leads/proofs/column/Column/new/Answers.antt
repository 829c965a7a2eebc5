use Rattle.std.proofs.Common.{◌≡◌, length, replicate, slice_index, ap, ◌∙◌, rules}
use Rattle.std.proofs.lemmas.List.{length-replicate, get_or-replicate}
use Rattle.ot_leads.proofs.ColumnLemmas.{column-new}
use Rattle.ot_leads.proofs.column.Column.new.Goals as goal

pub returns : goal.returns
returns c =
    let empty = c.in_ok-empty.empty in
    let copies : c.in_ok-of.of.items ≡ replicate c.args.count empty =
    c.in_ok-of.ensures.items_if_clones_equal (λ y h. search rules) in
    column-new c.args.count (record { sets = c.empty.new.self; of = c.in_ok-of.of; empty = empty })
    (ap length copies ∙ length-replicate c.args.count empty)
    (λ i h. ap (λ l. slice_index l i) copies ∙ get_or-replicate c.args.count i empty 0 h) c.in_ok-empty.ensures.ok
