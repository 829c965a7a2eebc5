use Rattle.std.proofs.Common.{length, slice_set, slice_index, refl, ap, subst}
use Rattle.std.specs.Vec.{with_item}
use Rattle.ot_sets.specs.Table.{IsUnionAt}
use Rattle.ot_leads.proofs.ColumnLemmas.{joined, read-place}
use Rattle.ot_leads.proofs.column.Column.join.Goals as goal

pub returns : goal.returns
returns c =
    let is = c.args.self.now.of.items in
    let sets = c.join.new.self in
    let union = c.in_ok-self.field-0 in
    let own = read-place is c.index.result c.args.id c.index-2.result.now c.requires.id c.index.ensures
    c.index-2.ensures in
    let other = read-place is c.index-3.result c.args.part c.index-4.result.now c.requires.part c.index-3.ensures
    c.index-4.ensures in
    joined (length is) c.args.self.now (record {
      sets = sets;
      of = with_item c.args.self.now.of c.index-5.result union;
      empty = c.args.self.now.empty;
    }) c.requires.column refl c.args.id c.requires.id union
    (ap (λ k. slice_set is k union) c.index-5.ensures) c.in_ok-self.ensures.extends c.args.part c.requires.part
    (subst (λ a. IsUnionAt sets a (slice_index is c.args.part) union) own
    (subst (λ b. IsUnionAt sets c.index-2.result.now b union) other c.in_ok-self.ensures.ok))
