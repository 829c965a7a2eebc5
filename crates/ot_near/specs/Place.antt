-- Where the hash table looks for a node: the low bits of a place pick a group, and the high ones are a tag.
use Rattle.std.proofs.Common.{◌≡◌, ◌+◌, ◌*◌, ◌/◌, ◌%◌, ◌^◌, ◌&&◌, ℕ, Bool, true, false, List, [], ◌∷◌}
use Rattle.std.proofs.Common.{Option, Some, None, fold, refl, sym, true≢false}
use mathlib.Core.Bool.{beq}
use Rattle.std.specs.Int.{w32, from_le_bytes}
use Rattle.std.specs.Hash as fed
use Rattle.std.specs.Hash.{HashWrites}
use Rattle.std.specs.Hash.FoldHasher.{initial, write, finish}
use Rattle.ot_near.specs.declared.place.Placed.{Placed}
use Rattle.ot_near.specs.declared.place.PlaceHasher.{PlaceHasher}

-- the mix of all that a node writes
abbrev pub mix_of : HashWrites → ℕ
mix_of writes = finish (fold write initial writes)

-- the group of a number, and a tag of the mix
abbrev pub near_place : ℕ → ℕ → ℕ
near_place n mix = n % 2 ^ 24 + mix / 2 ^ 56 * 2 ^ 24

-- the group and the tag of the mix
abbrev pub far_place : ℕ → ℕ
far_place mix = mix % 2 ^ 32

-- a node that has a greatest number and isn't far is near it
abbrev pub place_by : Option ℕ → Bool → ℕ → ℕ
place_by (Some n) false mix = near_place n mix
place_by (Some n) true mix = far_place mix
place_by None far mix = far_place mix

-- a place is one write of four bytes
abbrev pub written_to : PlaceHasher → List ℕ → PlaceHasher
written_to h (a ∷ b ∷ c ∷ d ∷ []) = record { place = from_le_bytes w32 (a ∷ b ∷ c ∷ d ∷ []) }
written_to h bytes = h

parts : (a b : Bool) → (a && b) ≡ true → (a ≡ true) × (b ≡ true)
parts true true p = (refl, refl)
parts true false p = absurd (true≢false (sym p))
parts false b p = absurd (true≢false (sym p))

same_bool : (a b : Bool) → beq a b ≡ true → a ≡ b
same_bool true true p = refl
same_bool false false p = refl
same_bool true false p = absurd (true≢false (sym p))
same_bool false true p = absurd (true≢false (sym p))

module _ {K : Type 0} (same : K → K → Bool) (greatest : K → Option ℕ) (writes : K → HashWrites)
    (number : (x y : K) → same x y ≡ true → greatest x ≡ greatest y)
    (fed_alike : (x y : K) → same x y ≡ true → writes x ≡ writes y) where
  abbrev place : Placed K → HashWrites
  place p = fed.u32 (place_by (greatest p.node) p.is_far (mix_of (writes p.node)))

  -- equal nodes that are both near, or both far, have one place
  pub place-alike : (p q : Placed K) → (same p.node q.node && beq p.is_far q.is_far) ≡ true → place p ≡ place q
  place-alike p q h =
      let both = parts (same p.node q.node) (beq p.is_far q.is_far) h in
      let numbers = number p.node q.node both.0 in
      let far = same_bool p.is_far q.is_far both.1 in
      let writes_alike = fed_alike p.node q.node both.0 in
      λ i. fed.u32 (place_by (numbers i) (far i) (mix_of (writes_alike i)))
