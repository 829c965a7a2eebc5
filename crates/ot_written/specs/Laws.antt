-- The laws of what is needed, and of the written article, that speak of no run.
use Rattle.std.specs.Prelude.{◌≡◌, ◌↔◌, Bool, true, List, map}
use Rattle.std.specs.Bool.{Decides}
use Rattle.ot_logic.specs.Lists.{IsMember}
use Rattle.ot_trace.specs.Origins.{Origin, Roots, map_origin}
use Rattle.ot_trace.specs.Reach.{IsReached}
use Rattle.ot_written.specs.Same.{same_origin}
use Rattle.ot_written.specs.Needed.{needed_definitions, needed_origins, IsNeededSet}
use Rattle.ot_written.specs.Uses.{is_shared, IsEnough, article}
use Rattle.ot_written.specs.Bytes.{line_with}

-- a test that tells origins apart
abbrev pub Tells : {N : Type 0} → (Origin N → Origin N → Bool) → Type 0
Tells {N} same = (a b : Origin N) → Decides (same a b) (a ≡ b)

-- the test of origins is one
abbrev pub SameOriginLaw : Type 0 → Type 0
SameOriginLaw N = (same_name : N → N → Bool) → ((a b : N) → Decides (same_name a b) (a ≡ b))
    → Tells (same_origin same_name)

-- the needed definitions are those that the roots need; among themselves they are all needed; and needed is what is
-- reached
abbrev pub NeededSetLaw : Type 0 → Type 0
NeededSetLaw N = (same : Origin N → Origin N → Bool) → Tells same → (roots ds : List (Origin N))
    → IsNeededSet same roots ds (needed_definitions same roots ds)
    × (needed_definitions same roots (needed_definitions same roots ds) ≡ needed_definitions same roots ds)
    × ((o : Origin N) → IsMember o (needed_origins same roots ds) ↔ IsReached roots ds o)

-- to store what is shared is enough, and so is to store all
abbrev pub StoredEnoughLaw : Type 0 → Type 0
StoredEnoughLaw N = (same : Origin N → Origin N → Bool) (roots ds : List (Origin N))
    → IsEnough same roots ds (is_shared same roots ds) × IsEnough same roots ds (λ o. true)

-- roots with other names
abbrev pub roots_with : {M N : Type 0} → (M → N) → Roots M → Roots N
roots_with f e = record { theorem = map_origin f e.theorem; list = map_origin f e.list; term = map_origin f e.term }

-- the article over names is the article over their numbers, with the names on its lines
abbrev pub RenamedArticleLaw : Type 0 → Type 0 → Type 0
RenamedArticleLaw M N = (f : M → N) → ((x y : M) → f x ≡ f y → x ≡ y)
    → (same : Origin N → Origin N → Bool) (same_one : Origin M → Origin M → Bool) → Tells same → Tells same_one
    → (ds : List (Origin M)) (es : List (Roots M))
    → (article same (map (map_origin f) ds) (map (roots_with f) es)).lines
    ≡ map (line_with f) (article same_one ds es).lines
