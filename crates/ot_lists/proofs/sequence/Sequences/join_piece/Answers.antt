use Rattle.std.specs.Prelude.{IfOk}
use Rattle.std.proofs.Common.{◌≡◌, ◌∷◌, [], ◌++◌, List, ℕ, Option, Some, length, slice_get, sym, ap, subst, ◌∙◌}
use Rattle.std.proofs.lemmas.List.{append-nil}
use Rattle.std.proofs.lemmas.Option.{get_or_from_slice_get, slice_get-get_or}
use Rattle.ot_logic.proofs.TableLemmas.{get_or-Extends}
use Rattle.ot_lists.specs.SequenceTable.{sequence_at}
use Rattle.ot_lists.specs.Maps.{map_at}
use Rattle.ot_lists.specs.Pieces.{added, holes}
use Rattle.ot_lists.proofs.Runs.{fresh}
use Rattle.ot_lists.proofs.sequence.Sequences.join_piece.Goals as goal

pub returns-in_ok-map-in-Same-clause-list : goal.returns-in_ok-map-in-Same-clause-list
returns-in_ok-map-in-Same-clause-list c =
    let l = sequence_at c.args.self.now c.args.joined.list in
    slice_get-get_or c.args.self.now.lists c.args.joined.list [] c.requires.list ∙ ap Some (sym (append-nil l))
    ∙ ap (λ p. Some (l ++ added c.args.self.now p)) (sym c.in-Same.is)

pub returns-in_ok-tree-in-NewOne-clause-list : goal.returns-in_ok-tree-in-NewOne-clause-list
returns-in_ok-tree-in-NewOne-clause-list c =
    let old = c.args.self.now in
    let front = get_or-Extends old.lists c.single.new.self.lists c.in_ok-tree-in-NewOne.ensures.grows.lists
    c.args.joined.list [] c.requires.list in
    let tree = get_or_from_slice_get c.single.new.self.lists c.in_ok-tree-in-NewOne.tree (c.in-NewOne.x ∷ []) []
    c.in_ok-tree-in-NewOne.ensures.ok ∙ ap (added old) (sym c.in-NewOne.is) in
    let all : sequence_at c.single.new.self c.args.joined.list
    ++ sequence_at c.single.new.self c.in_ok-tree-in-NewOne.tree
    ≡ sequence_at old c.args.joined.list ++ added old c.args.piece = λ i. front i ++ tree i in
    subst (λ (l : List ℕ). IfOk c.join_new-in-NewOne.result
    (λ j. slice_get c.join_new-in-NewOne.new.self.lists j.list ≡ Some l)) all c.join_new-in-NewOne.ensures.list

pub returns-in_ok-tree-in-NewOne-clause-places : goal.returns-in_ok-tree-in-NewOne-clause-places
returns-in_ok-tree-in-NewOne-clause-places c =
    let run = ap (λ l. fresh (length l))
    (get_or_from_slice_get c.single.new.self.lists c.in_ok-tree-in-NewOne.tree (c.in-NewOne.x ∷ []) []
    c.in_ok-tree-in-NewOne.ensures.ok) ∙ ap (holes c.args.self.now) (sym c.in-NewOne.is) in
    subst (λ (l : List (Option ℕ)). IfOk c.join_new-in-NewOne.result
    (λ j. slice_get c.join_new-in-NewOne.new.maps j.map ≡ Some (map_at c.args.maps.now c.args.joined.map ++ l))) run
    c.join_new-in-NewOne.ensures.places
