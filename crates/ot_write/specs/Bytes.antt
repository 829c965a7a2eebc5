-- The bytes of the article of exports by number.
use Rattle.std.specs.Prelude.{◌≡◌, ◌<◌, ◌≤◌, ℕ, List, ◌++◌, length, map, slice_get, Some, Result, Ok, Err}
use Rattle.ot_logic.specs.Names.{Name}
use Rattle.ot_logic.specs.Naming.{names, name_of}
use Rattle.ot_trace.specs.Origins.{Origin, Named, Roots, map_origin}
use Rattle.ot_trace.specs.Trace.{origin_at}
use Rattle.ot_written.specs.Same.{same_origin}
use Rattle.ot_written.specs.Uses.{article}
use Rattle.ot_written.specs.Bytes.{bytes_of}
use Rattle.ot_written.specs.Laws.{roots_with}
use Rattle.ot_write.specs.declared.roots.Roots as code
use Rattle.ot_write.specs.declared.text.WriteRefusal.{WriteRefusal}
use Rattle.ot_write.specs.declared.text.WriteRefusal.TheVariants as refusals

-- the roots of an export by number
abbrev pub roots_at : List (Origin ℕ) → code.Roots → Roots ℕ
roots_at ts e = record { theorem = origin_at ts e.theorem; list = origin_at ts e.list; term = origin_at ts e.term }

abbrev pub AreRootsInside : ℕ → code.Roots → Type 0
AreRootsInside n e = (e.theorem < n) × (e.list < n) × (e.term < n)

-- the names of the origins are of the table
abbrev pub AreNamed : ℕ → List (Origin ℕ) → Type 0
AreNamed count ts = (i n : ℕ) → slice_get ts i ≡ Some (Named n) → n < count

-- the written article of exports, among definitions, with the names that the numbers stand for
abbrev pub article_bytes : List Name → List (Origin ℕ) → List ℕ → List code.Roots → List ℕ
article_bytes ns ts ds es =
    let definitions : List (Origin Name) = map (map_origin (name_of ns)) (map (origin_at ts) ds) in
    let exports : List (Roots Name) = map (roots_with (name_of ns)) (map (roots_at ts) es) in
    bytes_of (article (same_origin names.same) definitions exports).lines

-- a text of at most max bytes was appended; or it has more; a refusal appends nothing
abbrev pub Writes : Result (Unit {0}) WriteRefusal → List ℕ → ℕ → List ℕ → List ℕ → Type 0
Writes (Ok u) x max old new = (new ≡ old ++ x) × (length x ≤ max)
Writes (Err refusals.TooLarge) x max old new = (new ≡ old) × (max < length x)
Writes (Err (refusals.Memory memory)) x max old new = new ≡ old
