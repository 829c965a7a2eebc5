-- How results are held: by place, or hashed.
use Rattle.std.specs.Prelude.{ℕ, List}
use Rattle.ot_subst.specs.declared.results.Found.{Found}
use Rattle.ot_subst.specs.declared.results.Found.TheVariants.{Placed, Hashed}

-- the results
abbrev pub pairs_in : Found → List (ℕ × ℕ)
pairs_in (Placed ps) = ps
pairs_in (Hashed m) = m.entries
