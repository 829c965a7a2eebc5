-- The place of a key in a hash table: small keys by their order, any other by its mix.
use Rattle.std.specs.Prelude.{◌+◌, ◌*◌, ◌%◌, ◌^◌, ℕ, List, [], ◌∷◌, if◌then◌else◌, nat_lt}
use Rattle.std.specs.Int.{w64, from_le_bytes}
use Rattle.std.specs.Hash as fed
use Rattle.ot_near.specs.Place.{mix_of, far_place}
use Rattle.ot_near.specs.declared.key.KeyHasher.{KeyHasher}

-- neighbours have neighbouring groups, and tags that differ
abbrev pub key_place : ℕ → ℕ
key_place key = if nat_lt key (2 ^ 20) then key + key % 2 ^ 8 * 2 ^ 24 else far_place (mix_of (fed.u64 key))

-- a key is one write of eight bytes
abbrev pub key_taken : KeyHasher → List ℕ → KeyHasher
key_taken s (a ∷ b ∷ c ∷ d ∷ e ∷ f ∷ g ∷ h ∷ []) =
    record { place = key_place (from_le_bytes w64 (a ∷ b ∷ c ∷ d ∷ e ∷ f ∷ g ∷ h ∷ [])) }
key_taken s bytes = s
