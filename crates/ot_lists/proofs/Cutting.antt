-- What stands beside a sequence that is made of two and a number between them.
use Rattle.std.proofs.Common.{◌≡◌, ℕ, ◌+◌, ◌<◌, ◌≤◌, min, max, List, [], ◌∷◌, ◌++◌, length, sym, ap}
use Rattle.std.proofs.Common.{subst, inl, inr, arith, length-append}
use Rattle.ot_logic.specs.Lists.{IsMember, AreDistinct}
use Rattle.ot_logic.proofs.Members.{IsMember-cases}
use Rattle.ot_lists.specs.Ranks.{IsTop}
use Rattle.ot_lists.specs.SequenceTable.{SequenceTable, sequence_at, IsSequenceTable}
use Rattle.ot_lists.specs.Sequences.{Describes, IsBeside}
use Rattle.ot_lists.specs.declared.sequence.SequenceNode.TheVariants.{Empty, Cut}
use Rattle.ot_lists.specs.declared.sequence.Extent.{Extent}
use Rattle.ot_lists.proofs.Seams.{under_at}

pub empty-beside : (k : ℕ) (ss : List (List ℕ)) (e : Extent) → e.count ≡ 0 → IsBeside k ss Empty e
empty-beside k ss e none = record {
  describes = record { count_is = none; distinct = tt; low = λ x m. absurd m; high = λ x m. absurd m };
  top = tt;
  under = λ x m. absurd m;
}

module _ (t : SequenceTable) (table : IsSequenceTable t) (a x b : ℕ) (l r e : Extent)
    (left : Describes (sequence_at t a) l) (right : Describes (sequence_at t b) r) (a_in : a < length t.lists)
    (b_in : b < length t.lists) (key : x < length t.keys)
    (top : IsTop x (sequence_at t a ++ x ∷ sequence_at t b))
    (distinct : AreDistinct (sequence_at t a ++ x ∷ sequence_at t b)) (count : e.count ≡ l.count + (1 + r.count))
    (low : e.low ≡ min x (min l.low r.low)) (high : e.high ≡ max x (max l.high r.high)) where
  -- what holds of each number of the parts, and of the one between
  each : (P : ℕ → Type 0) → ((y : ℕ) → IsMember y (sequence_at t a) → P y) → P x
      → ((y : ℕ) → IsMember y (sequence_at t b) → P y) → (y : ℕ)
      → IsMember y (sequence_at t a ++ x ∷ sequence_at t b) → P y
  each P before here behind y m = elim (IsMember-cases y (sequence_at t a) (x ∷ sequence_at t b) m) [
    | inl i ↦ before y i
    | inr i ↦ elim i [ inl q ↦ subst P q here | inr j ↦ behind y j ]
  ]

  pub cut-beside : IsBeside (length t.keys) t.lists (Cut a x b) e
  cut-beside = record {
    describes = record {
      count_is =
          let n = length-append (sequence_at t a) (x ∷ sequence_at t b) in
          omega (arith, n, count, left.count_is, right.count_is);
      distinct = distinct;
      low = each (λ y. e.low ≤ y) (λ y m. let h = left.low y m in omega (arith, h, low)) (omega (arith, low))
          (λ y m. let h = right.low y m in omega (arith, h, low));
      high = each (λ y. y ≤ e.high) (λ y m. let h = left.high y m in omega (arith, h, high)) (omega (arith, high))
          (λ y m. let h = right.high y m in omega (arith, h, high));
    };
    top = top;
    under = each (λ y. y < length t.keys) (λ y m. under_at t table a y a_in m) key
        (λ y m. under_at t table b y b_in m);
  }

-- one number between nothing
module _ (x : ℕ) (l : List ℕ) (none : l ≡ []) where
  pub single-is : l ++ x ∷ l ≡ x ∷ []
  single-is = ap (λ m. m ++ x ∷ m) none

  pub single-top : IsTop x (l ++ x ∷ l)
  single-top = subst (IsTop x) (sym single-is) (λ y m. elim m [ inl e ↦ inl (sym e) | inr i ↦ absurd i ])

  pub single-distinct : AreDistinct (l ++ x ∷ l)
  single-distinct = subst AreDistinct (sym single-is) (λ m. m, tt)
