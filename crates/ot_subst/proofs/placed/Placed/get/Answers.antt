use Rattle.std.proofs.Common.{nat_eq, ap, ◌∙◌}
use Rattle.std.specs.Map.{lookup}
use Rattle.ot_subst.proofs.ByPlace.{read-past, read-outside, read-own, read-other}
use Rattle.ot_subst.proofs.placed.Placed.get.Goals as goal

pub returns-then-index-len : goal.returns-then-index-len
returns-then-index-len c =
    let s = c.self.inside in
    read-past s.places.items s.pairs.items c.self.invariant c.args.id c.len.result c.index-index.result
    c.index-index.ensures (c.len.ensures ∙ s.places.ok.0) c.if-index-len.true
    ∙ ap (lookup (nat_eq c.args.id)) c.self.view_is

pub returns-then-place-len : goal.returns-then-place-len
returns-then-place-len c =
    let s = c.self.inside in
    read-outside s.places.items s.pairs.items c.self.invariant c.args.id c.len.result c.len-2.result
    c.index-index.result c.index.result.now c.index-index.ensures (c.len.ensures ∙ s.places.ok.0)
    c.if-index-len.false c.index.ensures (c.len-2.ensures ∙ s.pairs.ok.0) c.if-place-len.true
    ∙ ap (lookup (nat_eq c.args.id)) c.self.view_is

pub returns-then-eq : goal.returns-then-eq
returns-then-eq c =
    let s = c.self.inside in
    read-own s.places.items s.pairs.items c.self.invariant c.args.id c.len.result c.len-2.result c.index-index.result
    c.index.result.now c.index-2.result.now c.index-index.ensures (c.len.ensures ∙ s.places.ok.0)
    c.if-index-len.false c.index.ensures (c.len-2.ensures ∙ s.pairs.ok.0) c.if-place-len.false
    c.index-2.ensures c.if-eq.ensures
    ∙ ap (lookup (nat_eq c.args.id)) c.self.view_is

pub returns-else-eq : goal.returns-else-eq
returns-else-eq c =
    let s = c.self.inside in
    read-other s.places.items s.pairs.items c.self.invariant c.args.id c.len.result c.len-2.result
    c.index-index.result c.index.result.now c.index-2.result.now c.index-index.ensures
    (c.len.ensures ∙ s.places.ok.0) c.if-index-len.false c.index.ensures (c.len-2.ensures ∙ s.pairs.ok.0)
    c.if-place-len.false c.index-2.ensures c.if-eq.ensures
    ∙ ap (lookup (nat_eq c.args.id)) c.self.view_is
