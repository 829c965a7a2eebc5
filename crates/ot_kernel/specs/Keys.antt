-- What sequents are found by: the alpha classes of their terms.
use Rattle.std.specs.Prelude.{◌≡◌, ℕ, ◌&&◌, Bool, nat_eq, List, slice_get, slice_index_or, Some}
use Rattle.std.specs.List.{list_any}
use Rattle.std.specs.Ordering.{nat_cmp}
use Rattle.std.specs.Cmp.Lexicographic.{pointwise}
use Rattle.std.specs.BTreeSet.{contains, IsOrdered}
use Rattle.std.specs.Coded.{Coded, code_by, coded×, coded_list, coded_ℕ}
use Rattle.std.specs.Prelude.{refl}
use Rattle.ot_kernel.specs.declared.key.SequentKey.{SequentKey}

-- the class of a term
abbrev pub class_at : List ℕ → ℕ → ℕ
class_at cs i = slice_index_or cs i 0

-- the class of the conclusion t, and the set of the classes of the hypotheses ts
pub record IsKeyOf (cs ts : List ℕ) (t : ℕ) (k : SequentKey) : Type 0 where
  pub concl : slice_get cs t ≡ Some k.concl
  pub hyps : (c : ℕ) → contains nat_cmp k.hyps c ≡ list_any (λ i. nat_eq c (class_at cs i)) ts
  pub ordered : IsOrdered nat_cmp k.hyps

-- whether two keys are one
abbrev pub same_key : SequentKey → SequentKey → Bool
same_key k l = nat_eq k.concl l.concl && pointwise nat_eq k.hyps.keys l.hyps.keys

abbrev pub coded_key : Coded SequentKey
coded_key = code_by (ℕ × List ℕ) (coded× coded_ℕ (coded_list coded_ℕ)) (λ k. (k.concl, k.hyps.keys))
    (λ p. record { concl = p.0; hyps = record { keys = p.1 } }) (λ _. refl)
