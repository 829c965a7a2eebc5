use Rattle.std.proofs.Common.{◌≡◌, ◌≤◌, ◌∙◌, Bool, true, false, cond, length, is_some, sym, ap, subst, arith}
use Rattle.std.specs.List.{position_or_len}
use Rattle.indexmap.specs.IndexMap.{keys, index_map_len, insert_entry}
use Rattle.ot_near.specs.Table.{nodes_of, IsNear, IsSoughtIn}
use Rattle.ot_near.proofs.Placing.{length-nodes, IsNear-more, IsNear-insert, or_len-sought, insert-sought}
use Rattle.ot_near.proofs.table.NearMap.insert_full.Goals as goal

one_at_most : (b : Bool) → cond b 0 1 ≤ 1
one_at_most true = omega arith
one_at_most false = omega arith

pub invariant_of-self : goal.invariant_of-self
invariant_of-self g c = IsNear-more g.K.PartialEq.eq g.K.Refers.greatest (keys c.self.inside.entries)
    c.self.inside.users.items c.make_count.new.users.items c.make_count.ensures c.self.invariant

pub sought-sought-requires : goal.sought-sought-requires
sought-sought-requires g c =
    subst (IsNear g.K.PartialEq.eq g.K.Refers.greatest (keys c.self.inside.entries)) (sym c.as_slice.ensures.value)
    (IsNear-more g.K.PartialEq.eq g.K.Refers.greatest (keys c.self.inside.entries) c.self.inside.users.items
    c.make_count.new.users.items c.make_count.ensures c.self.invariant)

pub invariant_of-self-2 : goal.invariant_of-self-2
invariant_of-self-2 g c =
    let near = IsNear-more g.K.PartialEq.eq g.K.Refers.greatest (keys c.self.inside.entries)
    c.self.inside.users.items c.make_count.new.users.items c.make_count.ensures c.self.invariant in
    let sought = subst (λ us. IsSoughtIn g.K.PartialEq.eq g.K.Refers.greatest (keys c.self.inside.entries) us
    c.sought-sought.result) c.as_slice.ensures.value c.sought-sought.ensures.sought in
    IsNear-more g.K.PartialEq.eq g.K.Refers.greatest (keys c.insert_full.new.self) c.make_count.new.users.items
    c.count_user.new.users.items c.count_user.ensures
    (IsNear-insert g.K.PartialEq.eq g.K.Refers.greatest g.met.K.Eq.laws c.self.inside.entries
    c.make_count.new.users.items c.sought-sought.result c.args.value near sought c.insert_full.new.self.entries
    c.in_ok-index.ensures.entries)

pub returns-clause-index : goal.returns-clause-index
returns-clause-index g c =
    c.in_ok-index.ensures.index
    ∙ or_len-sought g.K.PartialEq.eq g.K.Refers.greatest c.self.inside.entries.entries c.as_slice.result.now
    c.sought-sought.result c.sought-sought.ensures.sought
    ∙ (λ i. position_or_len (g.K.PartialEq.eq (c.sought-sought.ensures.node i)) (keys (c.self.view_is i)))

pub returns-clause-len : goal.returns-clause-len
returns-clause-len g c =
    let count : length (nodes_of c.self.inside.entries.entries) ≡ index_map_len c.args.self.now =
    ap index_map_len c.self.view_is in
    omega (
      arith,
      length-nodes c.insert_full.new.self.entries,
      length-nodes c.self.inside.entries.entries,
      count,
      c.in_ok-index.ensures.len,
      one_at_most (is_some c.in_ok-index.old),
    )

pub returns-clause-within : goal.returns-clause-within
returns-clause-within g c =
    omega (arith, length-nodes c.insert_full.new.self.entries, c.in_ok-index.ensures.within)

pub returns-clause-entries : goal.returns-clause-entries
returns-clause-entries g c =
    ap nodes_of c.in_ok-index.ensures.entries
    ∙ insert-sought g.K.PartialEq.eq g.K.Refers.greatest c.self.inside.entries.entries c.as_slice.result.now
    c.sought-sought.result c.args.value c.sought-sought.ensures.sought
    ∙ (λ i. insert_entry g.K.PartialEq.eq (c.self.view_is i).entries (c.sought-sought.ensures.node i) c.args.value)
