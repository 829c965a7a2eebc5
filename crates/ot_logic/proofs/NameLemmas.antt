-- Lemmas on the table of names.
use Rattle.std.proofs.Common.{◌≡◌, ◌<◌, ℕ, zero, suc, true, false, List, [], ◌∷◌, ◌++◌, length, map, if◌then◌else◌}
use Rattle.std.proofs.Common.{refl, ap, arith}
use Rattle.std.proofs.lemmas.List.{length-map}
use Rattle.std.specs.List.{All, IsDistinct, list_any}
use Rattle.std.proofs.lemmas.List.Elements.{All-push}
use Rattle.indexmap.specs.IndexSet.{insert_key}
use Rattle.ot_logic.specs.Names.{Name, same_name, same_name-Decides, IsName}
use Rattle.ot_logic.specs.Naming.{IsNameTable, first_names}
use Rattle.ot_logic.specs.Table.{IsInjective}
use Rattle.ot_logic.proofs.TableLemmas.{injective_from_distinct, Extends-insert_key, Extends-trans, Extends-refl}

pub injective_names : (xs : List Name) → IsDistinct same_name xs → IsInjective xs
injective_names xs d = injective_from_distinct same_name (λ x. (same_name-Decides x x).1 refl) xs d

-- a table with one more name
pub name_table-insert : (ns : List Name) (n : Name) → IsNameTable ns → IsName n
    → IsDistinct same_name (insert_key same_name ns n) → IsNameTable (insert_key same_name ns n)
name_table-insert ns n t h d = record {
  injective = injective_names (insert_key same_name ns n) d;
  each = elim (list_any (same_name n) ns) as (λ b. All IsName (if b then ns else ns ++ n ∷ []))
      [ true ↦ t.each | false ↦ All-push IsName ns n t.each h ];
  first = Extends-trans t.first (Extends-insert_key same_name ns n);
}

-- the table of the first names
pub first_table : IsDistinct same_name first_names → IsNameTable first_names
first_table d = record { injective = injective_names first_names d; each = each; first = Extends-refl first_names }
  where
    each : All IsName first_names
    each zero e h = omega arith
    each (suc zero) e h = omega arith
    each (suc (suc zero)) e h = omega arith
    each (suc (suc (suc zero))) e h = omega arith
    each (suc (suc (suc (suc zero)))) e h = omega arith
    each (suc (suc (suc (suc (suc k))))) e h = absurd (omega arith)

-- a name of components is not empty
pub has-components : {X : Type 0} (f : X → List ℕ) (n : Name) (xs : List X) → map f xs ≡ n → 0 < length xs → IsName n
has-components f n xs p h = let a = length-map xs f in let b = ap length p in omega (arith, a, b, h)
