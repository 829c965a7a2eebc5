-- A list without repetition, made by a test that tells items apart.
use Rattle.std.specs.Prelude.{◌||◌}
use Rattle.std.specs.Bool.{Decides}
use Rattle.std.specs.List.{list_any}
use Rattle.std.proofs.Common.{◌≡◌, inl, inr, Bool, true, false, List, [], ◌∷◌, ◌++◌, fold}
use Rattle.std.proofs.Common.{if◌then◌else◌, refl, sym, ap, subst, ◌∙◌, append_assoc}
use Rattle.std.proofs.lemmas.Bool.{or_cases, true≢false}
use Rattle.std.proofs.lemmas.List.{append-nil}
use Rattle.indexmap.specs.IndexSet.{insert_key}
use Rattle.ot_logic.specs.Lists.{IsMember, IsSameSet, AreDistinct}
use Rattle.ot_laws.proofs.Sets.{same_set-then, same_set-append, same_set-self, distinct-append}
use Rattle.ot_logic.proofs.Members.{IsMember-cases, IsMember-left}

module _ {X : Type 0} (eq : X → X → Bool) (is : (x y : X) → Decides (eq x y) (x ≡ y)) where
  any_to : (k : X) (ks : List X) → list_any (eq k) ks ≡ true → IsMember k ks
  any_to k [] h = absurd (true≢false (sym h))
  any_to k (x ∷ ks) h = elim (or_cases (eq k x) (list_any (eq k) ks) h)
      [ inl a ↦ inl (sym ((is k x).0 a)) | inr b ↦ inr (any_to k ks b) ]

  any_from : (k : X) (ks : List X) → IsMember k ks → list_any (eq k) ks ≡ true
  any_from k [] h = absurd h
  any_from k (x ∷ ks) (inl e) = ap (λ b. b || list_any (eq k) ks) ((is k x).1 (sym e))
  any_from k (x ∷ ks) (inr h) = by (eq k x) (any_from k ks h)
    where
      by : (b : Bool) → list_any (eq k) ks ≡ true → (b || list_any (eq k) ks) ≡ true
      by true h = refl
      by false h = h

  -- one more item
  insert_members : (ks : List X) (k : X) → IsSameSet (insert_key eq ks k) (ks ++ k ∷ [])
  insert_members ks k = by (list_any (eq k) ks) refl
    where
      by : (b : Bool) → list_any (eq k) ks ≡ b → IsSameSet (if b then ks else ks ++ k ∷ []) (ks ++ k ∷ [])
      by true e = record {
        to = λ x h. IsMember-left x ks (k ∷ []) h;
        back = λ x h. elim (IsMember-cases x ks (k ∷ []) h) [
          | inl a ↦ a
          | inr b ↦
              elim b [ inl same ↦ subst (λ x. IsMember x ks) same (any_to k ks e) | inr never ↦ absurd never ]
        ];
      }
      by false e = same_set-self (ks ++ k ∷ [])

  insert_once : (ks : List X) (k : X) → AreDistinct ks → AreDistinct (insert_key eq ks k)
  insert_once ks k d = by (list_any (eq k) ks) refl
    where
      by : (b : Bool) → list_any (eq k) ks ≡ b → AreDistinct (if b then ks else ks ++ k ∷ [])
      by true e = d
      by false e =
          distinct-append ks (k ∷ []) d (λ never. never, tt)
          (λ x m n. elim n [
            | inl same ↦ true≢false (sym (any_from k ks (subst (λ x. IsMember x ks) (sym same) m)) ∙ e)
            | inr
                never ↦ never
          ])

  -- all of a list
  pub distinct_members : (ks xs : List X) → IsSameSet (fold (insert_key eq) ks xs) (ks ++ xs)
  distinct_members ks [] = subst (IsSameSet ks) (sym (append-nil ks)) (same_set-self ks)
  distinct_members ks (x ∷ xs) =
      same_set-then (distinct_members (insert_key eq ks x) xs)
      (subst (IsSameSet (insert_key eq ks x ++ xs)) (append_assoc ks (x ∷ []) xs)
      (same_set-append (insert_members ks x) (same_set-self xs)))

  pub distinct_once : (ks xs : List X) → AreDistinct ks → AreDistinct (fold (insert_key eq) ks xs)
  distinct_once ks [] d = d
  distinct_once ks (x ∷ xs) d = distinct_once (insert_key eq ks x) xs (insert_once ks x d)
