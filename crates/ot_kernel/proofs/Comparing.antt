-- Tests on terms by number, one term after another.
use Rattle.std.specs.Prelude.{◌↔◌, ◌||◌, ◌&&◌, IsTrue}
use Rattle.std.proofs.Common.{◌≡◌, ℕ, ◌+◌, ◌-◌, ◌<◌, Bool, true, false, cond, List, ◌∷◌}
use Rattle.std.proofs.Common.{length, get_or, take, drop, refl, sym, ap, ◌∙◌, arith}
use Rattle.std.proofs.lemmas.List.{take_all, length-drop}
use Rattle.std.proofs.lemmas.Bool.Decides.{same_from_decides}
use Rattle.ot_logic.specs.Trees.{Tm, Named}
use Rattle.ot_logic.specs.Hol.{same_tm, is_in, all_in, minus, once_each}
use Rattle.ot_logic.specs.Naming.{numbers}
use Rattle.ot_laws.proofs.Tests.{tells_numbers, same_tm-is}
use Rattle.ot_kernel.specs.Numbered.{tm_at, tms_at}
use Rattle.ot_kernel.proofs.Namings.{map-drop}

-- what decides equality is the test of it
pub tested : (b : Bool) (t u : Tm ℕ) → (IsTrue b ↔ (t ≡ u)) → b ≡ same_tm numbers t u
tested b t u d = same_from_decides b (same_tm numbers t u) d (same_tm-is numbers tells_numbers t u)

module _ (ts : List (Named ℕ)) where
  pub in_next : (t : ℕ) (is : List ℕ) (k i : ℕ) (b : Bool) → k < length is → i ≡ get_or is k i
      → (IsTrue b ↔ (tm_at ts i ≡ tm_at ts t)) → is_in numbers (tm_at ts t) (tms_at ts (drop k is))
      ≡ (b || is_in numbers (tm_at ts t) (tms_at ts (drop (k + 1) is)))
  in_next t is k i b h e d =
      ap (is_in numbers (tm_at ts t)) (map-drop (tm_at ts) is k i h e)
      ∙ ap (λ c. c || is_in numbers (tm_at ts t) (tms_at ts (drop (k + 1) is)))
      (sym (tested b (tm_at ts i) (tm_at ts t) d))

  pub all_next : (us : List (Tm ℕ)) (is : List ℕ) (k i : ℕ) (b : Bool) → k < length is → i ≡ get_or is k i
      → b ≡ is_in numbers (tm_at ts i) us → all_in numbers (tms_at ts (drop k is)) us
      ≡ (b && all_in numbers (tms_at ts (drop (k + 1) is)) us)
  all_next us is k i b h e d = ap (λ l. all_in numbers l us) (map-drop (tm_at ts) is k i h e)
      ∙ ap (λ c. c && all_in numbers (tms_at ts (drop (k + 1) is)) us) (sym d)

  -- what is left without a term: the next one falls away or stays
  pub minus_next : (t : ℕ) (is : List ℕ) (k i : ℕ) (b : Bool) → k < length is → i ≡ get_or is k i
      → (IsTrue b ↔ (tm_at ts i ≡ tm_at ts t)) → minus numbers (tm_at ts t) (tms_at ts (drop k is))
      ≡ cond b (minus numbers (tm_at ts t) (tms_at ts (drop (k + 1) is)))
      (tm_at ts i ∷ minus numbers (tm_at ts t) (tms_at ts (drop (k + 1) is)))
  minus_next t is k i b h e d =
      let rest = minus numbers (tm_at ts t) (tms_at ts (drop (k + 1) is)) in
      ap (minus numbers (tm_at ts t)) (map-drop (tm_at ts) is k i h e)
      ∙ ap (λ c. cond c rest (tm_at ts i ∷ rest)) (sym (tested b (tm_at ts i) (tm_at ts t) d))

  -- each member once: the next one falls away where it stands again among the rest
  pub once_next : (is : List ℕ) (k i : ℕ) (b : Bool) → k < length is → i ≡ get_or is k i
      → b ≡ is_in numbers (tm_at ts i) (tms_at ts (take (length is - (k + 1)) (drop (k + 1) is)))
      → once_each numbers (tms_at ts (drop k is)) ≡ cond b (once_each numbers (tms_at ts (drop (k + 1) is)))
      (tm_at ts i ∷ once_each numbers (tms_at ts (drop (k + 1) is)))
  once_next is k i b h e d =
      let rest = once_each numbers (tms_at ts (drop (k + 1) is)) in
      let whole = take_all (length is - (k + 1)) (drop (k + 1) is) (omega (arith, length-drop (k + 1) is)) in
      ap (once_each numbers) (map-drop (tm_at ts) is k i h e) ∙ ap (λ c. cond c rest (tm_at ts i ∷ rest))
      (sym (d ∙ ap (λ l. is_in numbers (tm_at ts i) (tms_at ts l)) whole))

-- two sequents with other conclusions
pub other_conclusion : (a b : Bool) → b ≡ false → false ≡ (a && b)
other_conclusion true b p = sym p
other_conclusion false b p = refl

-- with one conclusion, and the hypotheses of the first among those of the second
pub other_inclusion : (b a x c : Bool) → a ≡ true → c ≡ true → b ≡ x → b ≡ ((a && x) && c)
other_inclusion b a x c p q h = h ∙ both x ∙ (λ i. (sym p i && x) && sym q i)
  where
    both : (y : Bool) → y ≡ ((true && y) && true)
    both true = refl
    both false = refl

-- and whether the hypotheses of the first are among those of the second
pub same_conclusion : (b a c : Bool) → c ≡ true → b ≡ a → b ≡ (a && c)
same_conclusion b a c q h = h ∙ both a ∙ ap (λ z. a && z) (sym q)
  where
    both : (y : Bool) → y ≡ (y && true)
    both true = refl
    both false = refl
