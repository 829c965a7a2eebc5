use Rattle.std.proofs.Common.{length, slice_set, refl, ap, subst}
use Rattle.std.specs.Vec.{with_item}
use Rattle.ot_sets.specs.Table.{IsUnionAt}
use Rattle.ot_leads.proofs.ColumnLemmas.{noted, read-place}
use Rattle.ot_leads.proofs.column.Column.note.Goals as goal

pub returns : goal.returns
returns c =
    let is = c.args.self.now.of.items in
    let sets = c.join.new.self in
    let union = c.in_ok-self.field-0 in
    let single = c.in_ok-single.single in
    let own = read-place is c.index.result c.args.step c.index-2.result.now c.requires.step c.index.ensures
    c.index-2.ensures in
    noted (length is) c.args.self.now (record {
      sets = sets;
      of = with_item c.args.self.now.of c.index-3.result union;
      empty = c.args.self.now.empty;
    }) c.requires.column refl c.args.step c.requires.step union (ap (λ k. slice_set is k union) c.index-3.ensures)
    c.single.new.self c.in_ok-single.ensures.extends c.in_ok-self.ensures.extends single c.args.place
    c.in_ok-single.ensures.ok (subst (λ a. IsUnionAt sets a single union) own c.in_ok-self.ensures.ok)
