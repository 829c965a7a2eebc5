use Rattle.std.proofs.Common.{◌+◌, [], List, take, drop, sym, subst}
use Rattle.std.proofs.lemmas.Option.{slice_get_within, slice_get-get_or}
use Rattle.ot_lists.specs.SequenceTable.{sequence_at}
use Rattle.ot_lists.specs.declared.sequence.pieces.Piece.{Piece}
use Rattle.ot_lists.proofs.Seams.{distinct_at}
use Rattle.ot_lists.proofs.JoinLemmas.{IsJoined, joined-none, one-more, one-split}
use Rattle.ot_lists.proofs.JoinLemmas.{next-known, next-distinct, joined-next}
use Rattle.ot_lists.proofs.sequence.Sequences.join_pieces.Goals as goal

pub loop-piece-init : goal.loop-piece-init
loop-piece-init c =
    joined-none c.args.self.now c.args.maps.now c.args.none.list c.args.none.map
    (slice_get-get_or c.args.self.now.lists c.args.none.list [] c.requires.list) c.requires.empty c.requires.table
    c.requires.once

pub join_piece-requires-clause-list : goal.join_piece-requires-clause-list
join_piece-requires-clause-list c =
    slice_get_within c.loop-piece.self.lists c.loop-piece.joined.list _ c.loop-piece.invariant.list_is

pub join_piece-requires-clause-front : goal.join_piece-requires-clause-front
join_piece-requires-clause-front c =
    slice_get_within c.loop-piece.maps c.loop-piece.joined.map _ c.loop-piece.invariant.map_is

pub join_piece-requires-clause-piece : goal.join_piece-requires-clause-piece
join_piece-requires-clause-piece c =
    let all = c.args.pieces.now in
    let i = c.loop-piece.piece-index in
    next-known c.args.self.now c.loop-piece.self c.args.maps.now c.loop-piece.maps
    (sequence_at c.args.self.now c.args.none.list) all (take i all) (drop (i + 1) all) c.piece-item.result
    c.loop-piece.joined.list c.loop-piece.joined.map
    (one-split all i c.piece-item.result c.loop-piece-test.true c.piece-item.is) c.loop-piece.invariant
    c.requires.pieces c.requires.under

pub join_piece-requires-clause-distinct : goal.join_piece-requires-clause-distinct
join_piece-requires-clause-distinct c =
    let all = c.args.pieces.now in
    let i = c.loop-piece.piece-index in
    next-distinct c.args.self.now c.loop-piece.self c.args.maps.now c.loop-piece.maps
    (sequence_at c.args.self.now c.args.none.list) all (take i all) (drop (i + 1) all) c.piece-item.result
    c.loop-piece.joined.list c.loop-piece.joined.map
    (one-split all i c.piece-item.result c.loop-piece-test.true c.piece-item.is) c.loop-piece.invariant
    c.requires.pieces (distinct_at c.args.self.now c.requires.table c.args.none.list c.requires.list)
    c.requires.distinct

pub loop-piece-preserved : goal.loop-piece-preserved
loop-piece-preserved c =
    let all = c.args.pieces.now in
    let i = c.loop-piece.piece-index in
    let p = c.piece-item.result in
    subst (λ (ps : List Piece). IsJoined c.args.self.now c.join_piece.new.self c.args.maps.now c.join_piece.new.maps
    (sequence_at c.args.self.now c.args.none.list) ps c.in_ok-joined.joined.list c.in_ok-joined.joined.map)
    (sym (one-more all i p c.loop-piece-test.true c.piece-item.is))
    (joined-next c.args.self.now c.loop-piece.self c.args.maps.now c.loop-piece.maps
    (sequence_at c.args.self.now c.args.none.list) all (take i all) (drop (i + 1) all) p
    c.loop-piece.joined.list c.loop-piece.joined.map
    (one-split all i p c.loop-piece-test.true c.piece-item.is) c.loop-piece.invariant c.requires.pieces
    (distinct_at c.args.self.now c.requires.table c.args.none.list c.requires.list) c.join_piece.new.self
    c.join_piece.new.maps c.in_ok-joined.joined.list c.in_ok-joined.joined.map c.in_ok-joined.ensures.list
    c.in_ok-joined.ensures.places c.in_ok-joined.ensures.grows c.in_ok-joined.ensures.table
    c.in_ok-joined.ensures.maps_extend c.in_ok-joined.ensures.maps_stay_once)
