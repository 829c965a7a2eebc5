-- Assumptions found by their keys, as tables grow and assumptions come.
use Rattle.std.specs.Prelude.{slice_get, Some, None, Option, is_some, find}
use Rattle.std.specs.List.{All}
use Rattle.std.specs.Map.{lookup}
use Rattle.std.proofs.Common.{◌≡◌, ℕ, zero, suc, ◌<◌, ◌≤◌, Bool, true, false, cond, List, [], ◌∷◌, ◌++◌, length}
use Rattle.std.proofs.Common.{take, drop, refl, sym, ap, subst, ◌∙◌, ◌⊎◌, inl, inr, arith, length-append}
use Rattle.std.proofs.lemmas.Option.{slice_get_within, slice_get-get_or, same_Some, none-some}
use Rattle.std.proofs.lemmas.Bool.{cases_lt}
use Rattle.std.proofs.lemmas.List.Elements.{All-head, All-tail}
use Rattle.ot_logic.specs.Table.{Extends}
use Rattle.ot_logic.proofs.InternedLemmas.{slice_get-last}
use Rattle.ot_logic.proofs.TableLemmas.{Extends-append}
use Rattle.ot_kernel.specs.declared.theorem.Theorem.{Theorem}
use Rattle.ot_kernel.specs.declared.key.SequentKey.{SequentKey}
use Rattle.ot_kernel.specs.Keys.{same_key, IsKeyOf}
use Rattle.ot_kernel.specs.Places.{ArePlaces, IsPlaced}
use Rattle.ot_kernel.specs.Spelled.{IsInside}
use Rattle.ot_kernel.proofs.Keying.{key-older, one_key, same_key-is}
use Rattle.ot_logic.proofs.Results.{none_from, some_from}
use Rattle.ot_logic.proofs.Elements.{All-slice_get}

module _ {X : Type 0} where
  -- an entry of the longer table at an old number
  older : (old new : List X) (i : ℕ) (x : X) → Extends old new → i < length old → slice_get new i ≡ Some x
      → slice_get old i ≡ Some x
  older old new i x e h at = let here = slice_get-get_or old i x h in here ∙ sym (e.keeps i _ here) ∙ at

  -- nothing is found among the first
  pub find-past : (p : X → Bool) (xs : List X) (n : ℕ) → All (λ x. p x ≡ false) (take n xs)
      → find p xs ≡ find p (drop n xs)
  find-past p xs zero none = refl
  find-past p [] (suc n) none = refl
  find-past p (x ∷ xs) (suc n) none =
      let rest = find-past p xs n (All-tail (λ y. p y ≡ false) x (take n xs) none) in
      ap (λ b. cond b (Some x) (find p xs)) (All-head (λ y. p y ≡ false) x (take n xs) none) ∙ rest

-- no assumption
pub no_places : (cs : List ℕ) (ths : List Theorem) (ps : List (SequentKey × ℕ)) → ps ≡ [] → ArePlaces cs ths [] ps
no_places cs ths ps e = record {
  found = λ j i th k a b d. absurd (none-some i a);
  within = λ k p l. absurd (none-some p (sym (ap (lookup (same_key k)) e) ∙ l));
}

-- tables and theorems that grow
pub places-grown : (n : ℕ) (cs ds : List ℕ) (ths more : List Theorem) (is : List ℕ) (ps : List (SequentKey × ℕ))
    → length cs ≡ n → Extends cs ds → Extends ths more → All (λ i. i < length ths) is → All (IsInside n) ths
    → ArePlaces cs ths is ps → ArePlaces ds more is ps
places-grown n cs ds ths more is ps len e f numbered inside p = record {
  found = λ j i th k a b d.
      let old = older ths more i th f (All-slice_get (λ m. m < length ths) is j i numbered a) b in
      let within = All-slice_get (IsInside n) ths i th inside old in
      p.found j i th k a old (key-older cs ds e n len th.hyps th.concl k within.hyps within.concl d);
  within = p.within;
}

-- a key that comes
pub places-noted : (cs : List ℕ) (ths : List Theorem) (is : List ℕ) (ps qs : List (SequentKey × ℕ)) (k : SequentKey)
    (place : ℕ) → place ≡ length is → ArePlaces cs ths is ps → IsPlaced k place ps qs → ArePlaces cs ths is qs
places-noted cs ths is ps qs k place here p new = record {
  found = λ j i th l a b g. let (q, at, h) = p.found j i th l a b g in (q, new.keeps l q at, h);
  within = λ l q at. elim (new.within l q at) [ inl o ↦ p.within l q o | inr e ↦ omega (arith, e, here) ];
}

-- an assumption whose key has come
pub places-more : (cs : List ℕ) (ths : List Theorem) (is : List ℕ) (qs : List (SequentKey × ℕ)) (th : Theorem)
    (k : SequentKey) → IsKeyOf cs th.hyps th.concl k → All (λ i. i < length ths) is → ArePlaces cs ths is qs
    → (p : ℕ) × (lookup (same_key k) qs ≡ Some p) → ArePlaces cs (ths ++ th ∷ []) (is ++ length ths ∷ []) qs
places-more cs ths is qs th k keyed numbered p at = record {
  found = λ j i u l a b g. elim (cases_lt j (length is)) [
    | inl h ↦ old j i u l h a b g
    | inr h ↦ last j i u l h a b g
  ];
  within = λ l q found. let w = p.within l q found in omega (arith, w, length-append is (length ths ∷ []));
}
  where
    old : (j i : ℕ) (u : Theorem) (l : SequentKey) → j < length is → slice_get (is ++ length ths ∷ []) j ≡ Some i
        → slice_get (ths ++ th ∷ []) i ≡ Some u → IsKeyOf cs u.hyps u.concl l
        → (q : ℕ) × (lookup (same_key l) qs ≡ Some q) × (q ≤ j)
    old j i u l h a b g =
        let a' = older is (is ++ length ths ∷ []) j i (Extends-append is (length ths ∷ [])) h a in
        p.found j i u l a' (older ths (ths ++ th ∷ []) i u (Extends-append ths (th ∷ []))
        (All-slice_get (λ m. m < length ths) is j i numbered a') b) g

    last : (j i : ℕ) (u : Theorem) (l : SequentKey) → length is ≤ j → slice_get (is ++ length ths ∷ []) j ≡ Some i
        → slice_get (ths ++ th ∷ []) i ≡ Some u → IsKeyOf cs u.hyps u.concl l
        → (q : ℕ) × (lookup (same_key l) qs ≡ Some q) × (q ≤ j)
    last j i u l h a b g =
        let short = slice_get_within (is ++ length ths ∷ []) j i a in
        let here : length is ≡ j = omega (arith, h, short, length-append is (length ths ∷ [])) in
        let number : length ths ≡ i =
        same_Some (length ths) i
        (sym (slice_get-last is (length ths)) ∙ ap (slice_get (is ++ length ths ∷ [])) here ∙ a) in
        let one : th ≡ u =
        same_Some th u (sym (slice_get-last ths th) ∙ ap (slice_get (ths ++ th ∷ [])) number ∙ b) in
        let same = one_key cs u.hyps u.concl k l
        (subst (λ (v : Theorem). IsKeyOf cs v.hyps v.concl k) one keyed) g in
        let w = p.within k at.0 at.1 in
        (at.0, subst (λ m. lookup (same_key m) qs ≡ Some at.0) same at.1, omega (arith, w, here))

-- what a map has after a new key
either : (b : Bool) (p q : ℕ) (o : Option ℕ) → cond b (Some q) o ≡ Some p → (o ≡ Some p) ⊎ (p ≡ q)
either true p q o h = inr (sym (same_Some q p h))
either false p q o h = inl h

kept : (b : Bool) (p q : ℕ) (o : Option ℕ) → (b ≡ true → o ≡ None) → o ≡ Some p → cond b (Some q) o ≡ Some p
kept true p q o none h = absurd (none-some p (sym (none refl) ∙ h))
kept false p q o none h = h

pub placed-new : (k : SequentKey) (place : ℕ) (old new : List (SequentKey × ℕ))
    → is_some (lookup (same_key k) old) ≡ false
    → ((l : SequentKey) → lookup (same_key l) new ≡ cond (same_key k l) (Some place) (lookup (same_key l) old))
    → lookup (same_key k) new ≡ Some place → IsPlaced k place old new
placed-new k place old new absent more here = record {
  keeps = λ l p at. more l ∙ kept (same_key k l) p place (lookup (same_key l) old)
      (λ e. subst (λ m. lookup (same_key m) old ≡ None) (same_key-is k l e)
      (none_from (lookup (same_key k) old) absent)) at;
  within = λ l p at. either (same_key k l) p place (lookup (same_key l) old) (sym (more l) ∙ at);
  found = (place, here);
}

pub placed-known : (k : SequentKey) (place : ℕ) (old : List (SequentKey × ℕ))
    → is_some (lookup (same_key k) old) ≡ true → IsPlaced k place old old
placed-known k place old there = record {
  keeps = λ l p at. at;
  within = λ l p at. inl at;
  found = some_from (lookup (same_key k) old) there;
}
