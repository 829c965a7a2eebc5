-- Blocks by their places, in the code and as they are stated.
use Rattle.std.specs.Prelude.{Option, Some, None, slice_get, flat_map, position}
use Rattle.std.specs.Option.{option_map}
use Rattle.std.specs.List.{All, position_from}
use Rattle.std.specs.Str.{bytes_eq}
use Rattle.std.specs.HashMap.{HashMap}
use Rattle.std.specs.Global.{Global}
use Rattle.std.specs.Prelude.{Vec}
use Rattle.std.proofs.Common.{◌≡◌, ◌∙◌, ◌<◌, ◌≤◌, ◌+◌, ◌++◌, ℕ, zero, suc, List, [], ◌∷◌}
use Rattle.std.proofs.Common.{length, get_or, map, if◌then◌else◌, refl, sym, ap, subst, arith}
use Rattle.std.proofs.lemmas.Iterator.Adapters.{position_from-zero}
use Rattle.std.proofs.lemmas.List.{map-append, length-map}
use Rattle.std.proofs.lemmas.List.Elements.{All-nil, All-append}
use Rattle.std.proofs.lemmas.Option.{slice_get-get_or}
use Rattle.ot_theory.specs.Theory.{BlockText}
use Rattle.ot_theory.specs.Answers.{block_of, blocks_of}
use Rattle.ot_theory.specs.declared.theory.Block.{Block}
use Rattle.ot_blocks.specs.Structure.{block_places}
use Rattle.ot_machine.specs.Meaning.{export_of, IsExportIn}
use Rattle.ot_machine.specs.declared.session.Session.{Session}
use Rattle.ot_machine.specs.declared.machine.Export.{Export}
use Rattle.ot_link.specs.Link.{exports_at}
use Rattle.ot_link.specs.Holding.{held_at, held_of, done_of}

-- the block at a place
pub block-at : (bs : List Block) (i : ℕ) → slice_get (blocks_of bs) i ≡ option_map block_of (slice_get bs i)
block-at [] i = refl
block-at (b ∷ bs) zero = refl
block-at (b ∷ bs) (suc i) = block-at bs i

get-block : (bs : List Block) (i : ℕ) (d : Block) → get_or (blocks_of bs) i (block_of d) ≡ block_of (get_or bs i d)
get-block [] i d = refl
get-block (b ∷ bs) zero d = refl
get-block (b ∷ bs) (suc i) d = get-block bs i d

module _ (bs : List Block) (i : ℕ) (b : Block) (there : i < length bs) (is : b ≡ get_or bs i b) where
  pub block-there : slice_get (blocks_of bs) i ≡ Some (block_of b)
  block-there = block-at bs i ∙ ap (option_map block_of) (slice_get-get_or bs i b there ∙ ap Some (sym is))

  pub block-all : (P : BlockText → Type 0) → All P (blocks_of bs) → P (block_of b)
  block-all P all = subst P (get-block bs i b ∙ ap block_of (sym is))
      (all i (block_of b) (omega (arith, there, length-map bs block_of)))

-- there is none behind the last
pub block-none : (bs : List Block) (i : ℕ) → length bs ≤ i → slice_get (blocks_of bs) i ≡ None
block-none [] i h = refl
block-none (b ∷ bs) zero h = absurd (omega arith)
block-none (b ∷ bs) (suc i) h = block-none bs i (omega (arith, h))

-- the first block of a name
from-at : (bs : List Block) (name : List ℕ) (i : ℕ) → position_from (λ b. bytes_eq b.name name) i (blocks_of bs)
    ≡ position_from (λ b. bytes_eq b.name.now name) i bs
from-at [] name i = refl
from-at (b ∷ bs) name i = ap (λ o. if bytes_eq b.name.now name then Some i else o) (from-at bs name (i + 1))

pub place-at : (bs : List Block) (name : List ℕ) → block_places (blocks_of bs) name
    ≡ position (λ b. bytes_eq b.name.now name) bs
place-at bs name = position_from-zero (λ b. bytes_eq b.name name) (blocks_of bs) ∙ from-at bs name 0
    ∙ sym (position_from-zero (λ b. bytes_eq b.name.now name) bs)

-- ---- what is held

module _ {S : Type 0} (s : Session) (held : HashMap ℕ (Vec Export Global) S) where
  pub imported-as : (places : List ℕ) → map (export_of s) (flat_map (held_at held) places)
      ≡ flat_map (done_of s held) places
  imported-as [] = refl
  imported-as (b ∷ places) = map-append (export_of s) (held_at held b) (flat_map (held_at held) places)
      ∙ ap (λ es. map (export_of s) (held_at held b) ++ es) (imported-as places)

  pub exports-as : (o : Option ℕ) → map (export_of s) (held_of held o) ≡ exports_at (done_of s held) o
  exports-as None = refl
  exports-as (Some b) = refl

  pub imported-inside : ((b : ℕ) → All (IsExportIn s) (held_at held b)) → (places : List ℕ)
      → All (IsExportIn s) (flat_map (held_at held) places)
  imported-inside inside [] = All-nil (IsExportIn s)
  imported-inside inside (b ∷ places) = All-append (IsExportIn s) (held_at held b) (flat_map (held_at held) places)
      (inside b) (imported-inside inside places)
