use Rattle.std.proofs.Common.{Some, sym, ap, subst, ◌∙◌, eqb-true, arith, rules}
use Rattle.ot_logic.proofs.TableLemmas.{Extends-refl, Extends-trans}
use Rattle.ot_sets.specs.Trees.{Both}
use Rattle.ot_sets.specs.Table.{tree_of, tree_at, IsBelow, IsUnionAt}
use Rattle.ot_sets.proofs.UnionLemmas.{id-within, union-same, union-left, union-right, union-later, union-halved}
use Rattle.ot_sets.proofs.UnionLemmas.{halved-is, halved-later}
use Rattle.ot_sets.proofs.table.Sets.+join.Goals as goal

pub join-returns-then-eq-clause-ok : goal.join-returns-then-eq-clause-ok
join-returns-then-eq-clause-ok t c =
    subst (λ b. IsUnionAt c.args.self.now c.args.a b c.args.a)
    (eqb-true c.args.a c.args.b (sym c.eq.ensures ∙ c.if-eq.true)) (union-same c.args.self.now c.args.a c.requires.a)

pub join-returns-then-eq-clause-extends : goal.join-returns-then-eq-clause-extends
join-returns-then-eq-clause-extends t c = Extends-refl c.args.self.now

pub join-returns-then-is_b_empty-clause-ok : goal.join-returns-then-is_b_empty-clause-ok
join-returns-then-is_b_empty-clause-ok t c =
    union-right c.args.self.now c.args.a c.args.b (c.is_empty-is_b_empty.ensures c.if-is_b_empty.true) c.requires.a

pub join-returns-then-is_b_empty-clause-extends : goal.join-returns-then-is_b_empty-clause-extends
join-returns-then-is_b_empty-clause-extends t c = Extends-refl c.args.self.now

pub join-returns-then-is_a_empty-clause-ok : goal.join-returns-then-is_a_empty-clause-ok
join-returns-then-is_a_empty-clause-ok t c =
    union-left c.args.self.now c.args.a c.args.b (c.is_empty-is_a_empty.ensures c.if-is_a_empty.true) c.requires.b

pub join-returns-then-is_a_empty-clause-extends : goal.join-returns-then-is_a_empty-clause-extends
join-returns-then-is_a_empty-clause-extends t c = Extends-refl c.args.self.now

pub join_full-returns-in-Some-clause-extends : goal.join_full-returns-in-Some-clause-extends
join_full-returns-in-Some-clause-extends t c = Extends-refl c.args.self.now

pub join_nodes-join_halves-requires : goal.join_nodes-join_halves-requires
join_nodes-join_halves-requires t c =
    let below = subst (IsBelow c.args.a) c.in-Both.is c.node.ensures.below in (
      search rules,
      (
        c.node.ensures.tree ∙ ap (λ n. Some (tree_of c.args.self.now n)) c.in-Both.is,
        (below.0, (below.1, c.requires.b)),
      ),
    )

pub join_halves-returns-in_ok-union-in-Both-clause-ok : goal.join_halves-returns-in_ok-union-in-Both-clause-ok
join_halves-returns-in_ok-union-in-Both-clause-ok t c =
    let ts = c.args.self.now in
    let now = c.both.new.self in
    let by_firsts = c.in_ok-firsts-in-Both.ensures.extends in
    let by_seconds = c.in_ok-seconds-in-Both.ensures.extends in
    let by_both = c.in_ok-union-in-Both.ensures.extends in
    let grown = Extends-trans (Extends-trans by_firsts by_seconds) by_both in
    let a_in = id-within ts c.args.a (Both (tree_at ts c.args.first) (tree_at ts c.args.second)) c.requires.a in
    let first_in = c.requires.first in
    let second_in = c.requires.second in
    let b_in = c.requires.b in
    let b_is = c.node.ensures.tree ∙ ap (λ n. Some (tree_of ts n)) c.in-Both.is in
    let below = subst (IsBelow c.args.b) c.in-Both.is c.node.ensures.below in
    let other_first_in = below.0 in
    let other_second_in = below.1 in
    let longer = by_firsts.longer in
    let longest = by_seconds.longer in
    union-halved now c.args.a c.args.b c.args.first c.args.second c.in-Both.other_first c.in-Both.other_second
    c.in_ok-firsts-in-Both.firsts c.in_ok-seconds-in-Both.seconds c.in_ok-union-in-Both.union
    (halved-later ts now grown c.args.a c.args.first c.args.second a_in (omega arith) (omega arith)
    (halved-is ts c.args.a c.args.first c.args.second c.requires.a))
    (halved-later ts now grown c.args.b c.in-Both.other_first c.in-Both.other_second b_in (omega arith) (omega arith)
    (halved-is ts c.args.b c.in-Both.other_first c.in-Both.other_second b_is))
    (union-later c.join.new.self now (Extends-trans by_seconds by_both) c.args.first c.in-Both.other_first
    c.in_ok-firsts-in-Both.firsts (omega arith) (omega arith) c.in_ok-firsts-in-Both.ensures.ok)
    (union-later c.join-in-Both.new.self now by_both c.args.second c.in-Both.other_second
    c.in_ok-seconds-in-Both.seconds (omega arith) (omega arith) c.in_ok-seconds-in-Both.ensures.ok)
    c.in_ok-union-in-Both.ensures.ok
