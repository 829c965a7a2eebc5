-- The nesting limit, on named terms.
use Rattle.std.specs.Prelude.{nat_le, Bool, ◌&&◌}
use Rattle.std.specs.List.{list_all}
use Rattle.ot_logic.specs.Trees.{Alphabet, Named}
use Rattle.ot_logic.specs.Hol.{depth_limit, is_shallow_type}
use Rattle.ot_logic.specs.NamedTerms.{named_type, named_depth, parts}

module _ {N : Type 0} (alphabet : Alphabet N) where
  -- whether a named term is within the nesting limit: its depth, and the depth of the type of each part
  abbrev pub is_shallow_named : Named N → Bool
  is_shallow_named t =
      nat_le (named_depth alphabet t) depth_limit && list_all (λ u. is_shallow_type alphabet (named_type alphabet u))
      (parts alphabet t)
