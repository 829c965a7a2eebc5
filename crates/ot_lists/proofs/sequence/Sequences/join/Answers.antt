use Rattle.std.proofs.Common.{◌≡◌, [], Some, map, length, eqb-true, sym, ap, subst, ◌∙◌}
use Rattle.std.proofs.lemmas.Option.{slice_get_within, slice_get-get_or}
use Rattle.ot_logic.specs.Lists.{IsMember, AreDistinct}
use Rattle.ot_lists.specs.SequenceTable.{sequence_at}
use Rattle.ot_lists.specs.Places.{place_in}
use Rattle.ot_lists.specs.Pieces.{joined_in, whole}
use Rattle.ot_lists.proofs.Seams.{distinct_at, under_at}
use Rattle.ot_lists.proofs.Runs.{fresh, kept}
use Rattle.ot_lists.proofs.JoinLemmas.{joined-nil, joined-same, places-same, joined-new, places-new, after-none}
use Rattle.ot_lists.proofs.sequence.Sequences.join.Goals as goal

pub returns-then-count-eq0-clause-list : goal.returns-then-count-eq0-clause-list
returns-then-count-eq0-clause-list c =
    slice_get-get_or c.args.self.now.lists c.args.f [] c.requires.f
    ∙ ap Some (sym (joined-nil (sequence_at c.args.self.now c.args.f) (sequence_at c.args.self.now c.args.x)
    (sym c.len-count.ensures.count ∙ c.if-count-eq0.true)))

pub push_same-requires : goal.push_same-requires
push_same-requires c = slice_get_within c.empty.new.self c.in_ok-none.none [] c.in_ok-none.ensures.ok

pub returns-then-eq-clause-list : goal.returns-then-eq-clause-list
returns-then-eq-clause-list c =
    let fs = sequence_at c.args.self.now c.args.f in
    let same : c.args.f ≡ c.args.x = eqb-true c.args.f c.args.x (sym c.eq.ensures ∙ c.if-eq.true) in
    let all : fs ≡ joined_in fs (sequence_at c.args.self.now c.args.x) =
    sym (joined-same fs (distinct_at c.args.self.now c.len-count.ensures.table c.args.f c.requires.f))
    ∙ ap (λ j. joined_in fs (sequence_at c.args.self.now j)) same in
    slice_get-get_or c.args.self.now.lists c.args.f [] c.requires.f ∙ ap Some all

pub returns-then-eq-clause-places : goal.returns-then-eq-clause-places
returns-then-eq-clause-places c =
    let fs = sequence_at c.args.self.now c.args.f in
    let same : c.args.f ≡ c.args.x = eqb-true c.args.f c.args.x (sym c.eq.ensures ∙ c.if-eq.true) in
    let count = c.len-count.ensures.count ∙ ap (λ j. length (sequence_at c.args.self.now j)) (sym same) in
    let all : kept 0 c.len-count.result ≡ map (place_in fs) (sequence_at c.args.self.now c.args.x) =
    ap (kept 0) count
    ∙ sym (places-same fs (distinct_at c.args.self.now c.len-count.ensures.table c.args.f c.requires.f))
    ∙ ap (λ j. map (place_in fs) (sequence_at c.args.self.now j)) same in
    c.in_ok-map.ensures.ok
    ∙ after-none c.empty.new.self c.in_ok-none.none (kept 0 c.len-count.result) c.in_ok-none.ensures.ok ∙ ap Some all

pub push_new-requires : goal.push_new-requires
push_new-requires c = slice_get_within c.empty.new.self c.in_ok-none.none [] c.in_ok-none.ensures.ok

pub returns-then-len-eq0-clause-list : goal.returns-then-len-eq0-clause-list
returns-then-len-eq0-clause-list c =
    slice_get-get_or c.args.self.now.lists c.args.x [] c.requires.x
    ∙ ap Some (sym (joined-new (sequence_at c.args.self.now c.args.f) (sequence_at c.args.self.now c.args.x)
    (sym c.len.ensures.count ∙ c.if-len-eq0.true)))

pub returns-then-len-eq0-clause-places : goal.returns-then-len-eq0-clause-places
returns-then-len-eq0-clause-places c =
    c.in_ok-map-2.ensures.ok
    ∙ after-none c.empty.new.self c.in_ok-none.none (fresh c.len-count.result) c.in_ok-none.ensures.ok
    ∙ ap Some (ap fresh c.len-count.ensures.count
    ∙ sym (places-new (sequence_at c.args.self.now c.args.f) (sequence_at c.args.self.now c.args.x)
    (sym c.len.ensures.count ∙ c.if-len-eq0.true)))

pub join_pieces-requires-clause-distinct : goal.join_pieces-requires-clause-distinct
join_pieces-requires-clause-distinct c =
    let fs = sequence_at c.args.self.now c.args.f in
    let all = ap (whole c.args.self.now fs) c.as_slice.ensures.value ∙ c.in_ok-pieces.ensures.whole in
    subst AreDistinct (sym all) (distinct_at c.args.self.now c.len-count.ensures.table c.args.x c.requires.x)

pub join_pieces-requires-clause-under : goal.join_pieces-requires-clause-under
join_pieces-requires-clause-under c =
    let fs = sequence_at c.args.self.now c.args.f in
    let all = ap (whole c.args.self.now fs) c.as_slice.ensures.value ∙ c.in_ok-pieces.ensures.whole in
    λ y m. under_at c.args.self.now c.len-count.ensures.table c.args.x y c.requires.x (subst (IsMember y) all m)
