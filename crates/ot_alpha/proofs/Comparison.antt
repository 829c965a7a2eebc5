-- What a comparison of numbers decides.
use Rattle.std.proofs.Common.{◌≡◌, ℕ, ◌<◌, nat_eq, List, length, ap}
use Rattle.std.specs.Bool.{Decides}
use Rattle.std.proofs.lemmas.Bool.Decides.{same_from_decides, Decides-eqb}
use Rattle.ot_logic.specs.Trees.{Ty, TyVar}
use Rattle.ot_logic.specs.Hol.{same_ty}
use Rattle.ot_logic.specs.Naming.{numbers}
use Rattle.ot_logic.proofs.TableLemmas.{get_or-IsInjective}
use Rattle.ot_type.specs.TypeTable.{type_at, IsTypeTable}
use Rattle.ot_laws.proofs.Tests.{same_ty-is, tells_numbers}

-- two numbers of a table are equal just where their types are
pub same_type : (tys : List (Ty ℕ)) (a b : ℕ) → IsTypeTable tys → a < length tys → b < length tys
    → nat_eq a b ≡ same_ty numbers (type_at tys a) (type_at tys b)
same_type tys a b table la lb = same_from_decides (nat_eq a b) (same_ty numbers (type_at tys a) (type_at tys b))
    (Decides-eqb a b) by_trees
  where
    tree : Decides (same_ty numbers (type_at tys a) (type_at tys b)) (type_at tys a ≡ type_at tys b)
    tree = same_ty-is numbers tells_numbers (type_at tys a) (type_at tys b)

    by_trees : Decides (same_ty numbers (type_at tys a) (type_at tys b)) (a ≡ b)
    by_trees =
        (λ p. get_or-IsInjective tys table.injective a b (TyVar 0) la lb (tree.0 p), λ e. tree.1 (ap (type_at tys) e))
