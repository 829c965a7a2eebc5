-- One map of names after another.
use Rattle.std.specs.Prelude.{not}
use Rattle.std.specs.Bool.{Decides}
use Rattle.std.specs.List.{filter}
use Rattle.std.specs.Map.{lookup}
use Rattle.std.proofs.Common.{◌≡◌, Bool, true, false, cond, List, [], ◌∷◌, ◌++◌, map}
use Rattle.std.proofs.Common.{Option, Some, is_some, unwrap_or, refl, sym, ap, ◌∙◌}
use Rattle.std.proofs.lemmas.Map.Entries.{lookup-filter-keys}
use Rattle.ot_logic.specs.Trees.{Alphabet}
use Rattle.ot_interp.specs.Interpretation.{is_held, renamed, InnerThenOuter}

module _ {N : Type 0} (alphabet : Alphabet N) (tells : (x y : N) → Decides (alphabet.same x y) (x ≡ y)) where
  -- a name that inner doesn't hold keeps its pair of outer
  kept : (inner outer : List (N × N)) (n : N) → is_held alphabet inner n ≡ false → lookup (alphabet.same n)
      (filter (λ p. not (is_held alphabet inner p.0)) outer) ≡ lookup (alphabet.same n) outer
  kept inner outer n free = lookup-filter-keys (alphabet.same n) (λ k. not (is_held alphabet inner k)) true
      (λ k e. ap (λ m. not (is_held alphabet inner m)) (sym ((tells n k).0 e)) ∙ ap not free) outer

  choose : (b : Bool) (E : Type 0) (outer : List (N × N)) (to n : N) (l r : Option N)
      → (is_some (cond b (Some to) r) ≡ false → E)
      → ((is_some r ≡ false → E) → unwrap_or l n ≡ renamed alphabet outer (unwrap_or r n))
      → unwrap_or (cond b (Some (renamed alphabet outer to)) l) n
      ≡ renamed alphabet outer (unwrap_or (cond b (Some to) r) n)
  choose true E outer to n l r free rest = refl
  choose false E outer to n l r free rest = rest free

  -- behind the pairs of inner stand some that give what outer gives to the names that inner doesn't hold
  behind : (inner more outer : List (N × N)) (n : N)
      → (is_held alphabet inner n ≡ false → lookup (alphabet.same n) more ≡ lookup (alphabet.same n) outer)
      → renamed alphabet (map (λ p. (p.0, renamed alphabet outer p.1)) inner ++ more) n
      ≡ renamed alphabet outer (renamed alphabet inner n)
  behind [] more outer n same = ap (λ o. unwrap_or o n) (same refl)
  behind (p ∷ ps) more outer n same =
      choose (alphabet.same n p.0) (lookup (alphabet.same n) more ≡ lookup (alphabet.same n) outer) outer p.1 n
      (lookup (alphabet.same n) (map (λ q. (q.0, renamed alphabet outer q.1)) ps ++ more))
      (lookup (alphabet.same n) ps) same (behind ps more outer n)

  pub inner_then_outer : InnerThenOuter alphabet
  inner_then_outer inner outer n = behind inner (filter (λ p. not (is_held alphabet inner p.0)) outer) outer n
      (kept inner outer n)
