use Rattle.std.proofs.Common.{◌≡◌, ◌∙◌, Some, slice_get, length, sym, ap, subst, arith, below_more}
use Rattle.std.proofs.lemmas.Option.{same_Some, slice_get_within}
use Rattle.std.specs.Map.{keys_of}
use Rattle.indexmap.specs.IndexMap.{keys, index_of}
use Rattle.ot_near.specs.Table.{NearEntries, nodes_of}
use Rattle.ot_near.proofs.Placing.{key_at, length-keys, position_first, position_none, position_within}
use Rattle.ot_near.proofs.table.NearMap.walk_to.Given as given
use Rattle.ot_near.proofs.table.NearMap.walk_to.Goals as goal

found : (g : given.Over) (c : goal.Then-eq g) → Some c.loop-index.index
    ≡ index_of g.K.PartialEq.eq c.args.self.now c.args.node.now
found g c =
    let at = key_at c.self.inside.entries.entries c.loop-index.index c.in-Some.placed.now _
    (sym c.in-Some.ensures.entry) in
    let here = subst (λ (m : NearEntries _ _). slice_get (keys m) c.loop-index.index ≡ Some c.in-Some.placed.now.node)
    c.self.view_is at in
    sym (position_first (g.K.PartialEq.eq c.args.node.now) (keys c.args.self.now) c.loop-index.index
    c.in-Some.placed.now.node here (sym c.eq.ensures ∙ c.if-eq.true) c.loop-index.invariant)

pub returns-then-eq-clause-index : goal.returns-then-eq-clause-index
returns-then-eq-clause-index g c = found g c

pub returns-then-eq-clause-within : goal.returns-then-eq-clause-within
returns-then-eq-clause-within g c =
    position_within (g.K.PartialEq.eq c.args.node.now) c.args.self.now.entries c.args.node.now
    (Some c.loop-index.index) (found g c)

pub loop-index-preserved : goal.loop-index-preserved
loop-index-preserved g c =
    let at = key_at c.self.inside.entries.entries c.loop-index.index c.in-Some.placed.now _
    (sym c.in-Some.ensures.entry) in
    let here = subst (λ (m : NearEntries _ _). slice_get (keys m) c.loop-index.index ≡ Some c.in-Some.placed.now.node)
    c.self.view_is at in
    below_more _ _ c.loop-index.invariant
    (λ x p. ap (g.K.PartialEq.eq c.args.node.now) (same_Some x c.in-Some.placed.now.node (sym p ∙ here))
    ∙ sym c.eq.ensures ∙ c.if-eq.false)

pub returns-clause-index : goal.returns-clause-index
returns-clause-index g c =
    let count : length (keys_of (nodes_of c.self.inside.entries.entries)) ≡ length (keys c.args.self.now) =
    ap (λ (m : NearEntries _ _). length (keys m)) c.self.view_is in
    sym (position_none (g.K.PartialEq.eq c.args.node.now) (keys c.args.self.now)
    (λ k x p. c.loop-index.invariant k
    (omega (
      arith,
      slice_get_within (keys c.args.self.now) k x p,
      count,
      length-keys c.self.inside.entries.entries,
      c.len-index-end.ensures.len,
      c.loop-index-test.false,
    )) x p))
