-- What contracts see of a table of terms: the types and the named terms, each in the order of its numbers, and the
-- number of each term's alpha class.
use Rattle.std.specs.Prelude.{ℕ, List, refl}
use Rattle.std.specs.Coded.{Coded, coded_list, coded×, coded_ℕ, code_by}
use Rattle.ot_logic.specs.Trees.{Ty, Named}
use Rattle.ot_logic.specs.Codes.{coded_ty, coded_named}

pub record TermTable : Type 0 where
  pub types : List (Ty ℕ)
  pub terms : List (Named ℕ)
  pub classes : List ℕ

abbrev pub coded_table : Coded TermTable
coded_table =
    code_by (List (Ty ℕ) × (List (Named ℕ) × List ℕ))
    (coded× (coded_list (coded_ty coded_ℕ)) (coded× (coded_list (coded_named coded_ℕ)) (coded_list coded_ℕ)))
    (λ t. (t.types, (t.terms, t.classes))) (λ p. record { types = p.0; terms = p.1.0; classes = p.1.1 }) (λ _. refl)
