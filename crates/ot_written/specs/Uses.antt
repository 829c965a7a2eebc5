-- How often the needed origins are used, which of them are stored, and the article that is written.
use Rattle.std.specs.Prelude.{◌≡◌, ◌≤◌, ℕ, Bool, true, List, nat_le}
use Rattle.ot_logic.specs.Lists.{IsMember}
use Rattle.ot_trace.specs.Origins.{Origin, Roots}
use Rattle.ot_trace.specs.Uses.{uses}
use Rattle.ot_written.specs.Needed.{needed_origins, needed_definitions}
use Rattle.ot_written.specs.Written.{Text, roots_of, written}

module _ {N : Type 0} (same : Origin N → Origin N → Bool) where
  module _ (roots ds : List (Origin N)) where
    -- the uses of an origin by the roots and by what they need
    abbrev pub use_count : Origin N → ℕ
    use_count = uses same roots (needed_origins same roots ds)

    -- whether a theorem of a definition is stored
    abbrev pub has_use : Origin N → Bool
    has_use o = nat_le 1 (use_count o)

    -- whether an origin is stored that was made: with two uses or more
    abbrev pub is_shared : Origin N → Bool
    is_shared o = nat_le 2 (use_count o)

    -- a set of stored origins that has each needed one with two uses or more
    abbrev pub IsEnough : (Origin N → Bool) → Type 0
    IsEnough keep = (o : Origin N) → IsMember o (needed_origins same roots ds) → 2 ≤ use_count o → keep o ≡ true

  -- the article of exports, among the definitions of their run, where these origins are stored
  abbrev pub article_by : (Origin N → Bool) → List (Origin N) → List (Roots N) → Text N
  article_by keep ds es = written same keep (has_use (roots_of es) ds) (needed_definitions same (roots_of es) ds) es

  -- as it is written: stored is what is shared
  abbrev pub article : List (Origin N) → List (Roots N) → Text N
  article ds es = article_by (is_shared (roots_of es) ds) ds es
