-- Runs at the end of a list.
use Rattle.std.specs.List.{range_with_len}
use Rattle.std.proofs.Common.{◌≡◌, ◌≢◌, ℕ, zero, suc, ◌+◌, ◌<◌, List, [], ◌∷◌, ◌++◌, map, replicate, Option, None, Some}
use Rattle.std.proofs.Common.{refl, sym, ap, subst, ◌∙◌, append_assoc, suc-add, arith}
use Rattle.std.proofs.lemmas.List.{append-nil, replicate_more}
use Rattle.std.proofs.lemmas.List.FromFn.{map-range_with_len_more}
use Rattle.ot_lists.proofs.Snoc.{snoc-one, snoc-some}

-- r n is a run of n elements, x n the one behind it
module _ {X : Type 0} (r : ℕ → List X) (x : ℕ → X) (more : (n : ℕ) → r (suc n) ≡ r n ++ x n ∷ []) where
  pub run-last : (ls : List X) (n : ℕ) → ls ++ r (suc n) ≡ (ls ++ r n) ++ x n ∷ []
  run-last ls n = ap (λ l. ls ++ l) (more n) ∙ sym (append_assoc ls (r n) (x n ∷ []))

  pub run-ends : (ls : List X) (a : ℕ) → 0 < a → (m : List X) (z : X) → ls ++ r a ≡ m ++ z ∷ []
      → (n : ℕ) × (a ≡ suc n) × (z ≡ x n)
  run-ends ls zero h m z p = absurd (omega arith)
  run-ends ls (suc a) h m z p =
      let (fronts, same) = snoc-one (ls ++ r a) m (x a) z (sym (run-last ls a) ∙ p) in
      (a, refl, sym same)

  pub run-some : (ls : List X) (a : ℕ) → 0 < a → ls ++ r a ≡ [] → ⊥
  run-some ls zero h p = omega arith
  run-some ls (suc a) h p = snoc-some (ls ++ r a) (x a) (sym (run-last ls a) ∙ p)

  pub run-bare : r 0 ≡ [] → (ls : List X) → ls ++ r 0 ≡ ls
  run-bare none ls = ap (λ l. ls ++ l) none ∙ append-nil ls

-- lists that end in runs which go on from nothing before them are one in one way
module _ {X : Type 0} (r s : ℕ → List X) (x y : ℕ → X) (r-none : r 0 ≡ []) (s-none : s 0 ≡ [])
    (r-more : (n : ℕ) → r (suc n) ≡ r n ++ x n ∷ []) (s-more : (n : ℕ) → s (suc n) ≡ s n ++ y n ∷ []) where
  runs-one : (ls ms : List X) (a b : ℕ) → x a ≡ y b → ls ++ r a ≡ ms ++ s b
      → ((m : List X) (n : ℕ) → x 0 ≡ y (suc n) → ls ≢ m ++ y n ∷ [])
      → ((m : List X) (n : ℕ) → y 0 ≡ x (suc n) → ms ≢ m ++ x n ∷ []) → (ls ≡ ms) × (a ≡ b)
  runs-one ls ms zero zero e p left right =
      (sym (run-bare r x r-more r-none ls) ∙ p ∙ run-bare s y s-more s-none ms, refl)
  runs-one ls ms zero (suc b) e p left right =
      absurd (left (ms ++ s b) b e (sym (run-bare r x r-more r-none ls) ∙ p ∙ run-last s y s-more ms b))
  runs-one ls ms (suc a) zero e p left right =
      absurd (right (ls ++ r a) a (sym e) (sym (run-bare s y s-more s-none ms) ∙ sym p ∙ run-last r x r-more ls a))
  runs-one ls ms (suc a) (suc b) e p left right =
      let (fronts, same) = snoc-one (ls ++ r a) (ms ++ s b) (x a) (y b)
      (sym (run-last r x r-more ls a) ∙ p ∙ run-last s y s-more ms b) in
      let (q, n) = runs-one ls ms a b same fronts left right in
      (q, ap suc n)

  pub runs-same : (ls ms : List X) (a b : ℕ) → 0 < a → 0 < b → ls ++ r a ≡ ms ++ s b
      → ((m : List X) (n : ℕ) → x 0 ≡ y (suc n) → ls ≢ m ++ y n ∷ [])
      → ((m : List X) (n : ℕ) → y 0 ≡ x (suc n) → ms ≢ m ++ x n ∷ [])
      → (n : ℕ) × (x n ≡ y n) × (ls ≡ ms) × (a ≡ b)
  runs-same ls ms zero b h k p left right = absurd (omega arith)
  runs-same ls ms (suc a) zero h k p left right = absurd (omega arith)
  runs-same ls ms (suc a) (suc b) h k p left right =
      let (fronts, same) = snoc-one (ls ++ r a) (ms ++ s b) (x a) (y b)
      (sym (run-last r x r-more ls a) ∙ p ∙ run-last s y s-more ms b) in
      let (q, n) = runs-one ls ms a b same fronts left right in
      (b, subst (λ m. x m ≡ y b) n same, q, ap suc n)

-- ---- runs of holes
abbrev pub fresh : ℕ → List (Option ℕ)
fresh n = replicate n None

abbrev pub kept : ℕ → ℕ → List (Option ℕ)
kept k n = map Some (range_with_len k n)

pub fresh-more : (n : ℕ) → fresh (suc n) ≡ fresh n ++ None ∷ []
fresh-more n = let e : suc n ≡ n + 1 = omega arith in ap fresh e ∙ sym (replicate_more n None)

pub kept-more : (k n : ℕ) → kept k (suc n) ≡ kept k n ++ Some (k + n) ∷ []
kept-more k n = let e : suc n ≡ n + 1 = omega arith in ap (kept k) e ∙ map-range_with_len_more Some k n (k + n) refl

pub kept-append : (k b c : ℕ) → kept k (b + c) ≡ kept k b ++ kept (k + b) c
kept-append k zero c =
    let n : 0 + c ≡ c = omega arith in
    let j : k ≡ k + 0 = omega arith in
    λ i. kept (j i) (n i)
kept-append k (suc b) c =
    let j : (k + 1) + b ≡ k + suc b = omega arith in
    ap (kept k) (suc-add b c)
    ∙ ap (λ l. Some k ∷ l) (kept-append (k + 1) b c ∙ ap (λ n. kept (k + 1) b ++ kept n c) j)
