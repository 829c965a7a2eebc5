use Rattle.std.proofs.Common.{◌≡◌, ◌∙◌, ◌+◌, ◌++◌, ◌∷◌, [], sym, ap, refl, take, length, arith}
use Rattle.std.proofs.lemmas.List.{length-map, length-take-le}
use Rattle.ot_theory.specs.Answers.{block_of, blocks_of}
use Rattle.ot_blocks.specs.Answers.{places_in}
use Rattle.ot_blocks.specs.Structure.{block_places}
use Rattle.ot_blocks.proofs.Collecting.{map_more}
use Rattle.ot_blocks.proofs.Placing.{place_inserted, place_kept}
use Rattle.ot_blocks.proofs.structure.places_of.Goals as goal
use Rattle.ot_blocks.proofs.structure.places_of.Goals.{then-not-contains_key+in_ok-insert, else-not-contains_key}

pub each-preserved : goal.each-preserved
each-preserved c =
    let bs = c.args.blocks.now in
    let k = c.each.place in
    let b = c.index-blocks-place.result in
    let before = blocks_of (take k bs) in
    let more : blocks_of (take (k + 1) bs) ≡ before ++ block_of b ∷ [] =
    map_more block_of bs k b b c.each-test.true c.index-blocks-place.is in
    let size : k ≡ length before =
    omega (arith, length-map (take k bs) block_of, length-take-le k bs (omega arith)) in
    elim c.if-not-contains_key.branch [
      | then-not-contains_key+in_ok-insert w ↦ λ name.
          ap (λ m. places_in m name) w.places-is
          ∙ place_inserted (places_in c.each.places) (places_in w.insert.new.self) b.name.now k before (block_of b)
          c.each.invariant refl size (sym w.if-not-contains_key.ensures)
          (λ q. w.in_ok-insert.ensures.updates.0 (record { ref_ptr = b.name.ref_ptr; now = q })) name
          ∙ ap (λ z. block_places z name) (sym more)
      | else-not-contains_key w ↦ λ name.
          ap (λ m. places_in m name) w.places-is
          ∙ place_kept (places_in c.each.places) b.name.now before (block_of b) c.each.invariant refl
          (sym w.if-not-contains_key.ensures) name
          ∙ ap (λ z. block_places z name) (sym more)
    ]
