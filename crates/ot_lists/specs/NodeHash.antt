-- What the hash of a node of a sequence is made of, and of a node of a map: its numbers as one.
use Rattle.std.proofs.Common.{◌≡◌, ◌+◌, ◌*◌, true, ◌&&◌, refl, ap, sym, eqb-true, nat_eq, true≢false}
use Rattle.std.proofs.lemmas.Bool.{and_parts}
use Rattle.std.specs.Hash as fed
use Rattle.std.specs.Hash.{HashWrites}
use Rattle.ot_lists.specs.declared.map.MapNode.{MapNode}
use Rattle.ot_lists.specs.declared.map.MapNode.TheVariants.{Empty, New, Same}
use Rattle.ot_lists.specs.declared.sequence.SequenceNode.{SequenceNode}
use Rattle.ot_lists.specs.declared.sequence.SequenceNode.TheVariants as sequence
use Rattle.ot_lists.specs.contracts.sequence.SequenceNodePartialEq.TheImpl as sequences
use Rattle.ot_lists.specs.contracts.map.MapNodePartialEq.TheImpl as maps

abbrev pub sequence_writes : SequenceNode → HashWrites
sequence_writes sequence.Empty = fed.u8 0
sequence_writes (sequence.Cut a x b) = fed.u128 (a + (x + b * 4294967296) * 4294967296)

abbrev pub map_writes : MapNode → HashWrites
map_writes Empty = fed.u8 0
map_writes (New front n) = fed.u64 (front + n * 4294967296)
map_writes (Same front k n) = fed.u128 (front + (k + n * 4294967296) * 4294967296)

-- nodes that pass the derived test are one
pub same_sequence : (m n : SequenceNode) → sequences.ghosts.eq m n ≡ true → m ≡ n
same_sequence sequence.Empty sequence.Empty p = refl
same_sequence (sequence.Cut a x b) (sequence.Cut c y d) p =
    let parts = and_parts (nat_eq a c) (nat_eq x y && nat_eq b d) p in
    let ends = and_parts (nat_eq x y) (nat_eq b d) parts.1 in
    let first = eqb-true a c parts.0 in
    let second = eqb-true x y ends.0 in
    let third = eqb-true b d ends.1 in
    λ i. sequence.Cut (first i) (second i) (third i)
same_sequence sequence.Empty (sequence.Cut c y d) p = absurd (true≢false (sym p))
same_sequence (sequence.Cut a x b) sequence.Empty p = absurd (true≢false (sym p))

pub same_map : (m n : MapNode) → maps.ghosts.eq m n ≡ true → m ≡ n
same_map Empty Empty p = refl
same_map (New f a) (New g b) p =
    let parts = and_parts (nat_eq f g) (nat_eq a b) p in
    let first = eqb-true f g parts.0 in
    let second = eqb-true a b parts.1 in
    λ i. New (first i) (second i)
same_map (Same f j a) (Same g k b) p =
    let parts = and_parts (nat_eq f g) (nat_eq j k && nat_eq a b) p in
    let ends = and_parts (nat_eq j k) (nat_eq a b) parts.1 in
    let first = eqb-true f g parts.0 in
    let second = eqb-true j k ends.0 in
    let third = eqb-true a b ends.1 in
    λ i. Same (first i) (second i) (third i)
same_map Empty (New g b) p = absurd (true≢false (sym p))
same_map Empty (Same g k b) p = absurd (true≢false (sym p))
same_map (New f a) Empty p = absurd (true≢false (sym p))
same_map (New f a) (Same g k b) p = absurd (true≢false (sym p))
same_map (Same f j a) Empty p = absurd (true≢false (sym p))
same_map (Same f j a) (New g b) p = absurd (true≢false (sym p))

pub sequence_writes-alike : (m n : SequenceNode) → sequences.ghosts.eq m n ≡ true
    → sequence_writes m ≡ sequence_writes n
sequence_writes-alike m n p = ap sequence_writes (same_sequence m n p)

pub map_writes-alike : (m n : MapNode) → maps.ghosts.eq m n ≡ true → map_writes m ≡ map_writes n
map_writes-alike m n p = ap map_writes (same_map m n p)
