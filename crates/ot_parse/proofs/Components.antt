-- Names and their components.
use Rattle.std.specs.Prelude.{◌≡◌, ◌==◌, ℕ, suc, ◌-◌, ◌<◌}
use Rattle.std.specs.Prelude.{false, List, [], ◌∷◌, map, length, take}
use Rattle.std.proofs.Common.{refl, sym, ◌∙◌, ap, arith, get_or}
use Rattle.std.proofs.lemmas.Bool.Decides.{nat_tests}
use Rattle.ot_logic.specs.Names.{Name}
use Rattle.ot_forms.specs.Words.{base, namespace}
use Rattle.ot_forms.specs.Reading.{is_single}

module _ {X : Type 0} (f : X → List ℕ) where
  -- the last component, and those before it
  pub base-last : (cs : List X) (d : X) → 0 < length cs → f (get_or cs (length cs - 1) d) ≡ base (map f cs)
  base-last [] d h = absurd (omega arith)
  base-last (c ∷ []) d h = refl
  base-last (c ∷ e ∷ cs) d h =
      let k : length (c ∷ e ∷ cs) - 1 ≡ suc (length cs) = omega arith in
      let j : length (e ∷ cs) - 1 ≡ length cs = omega arith in
      ap (λ n. f (get_or (c ∷ e ∷ cs) n d)) k ∙ ap (λ n. f (get_or (e ∷ cs) n d)) (sym j)
      ∙ base-last (e ∷ cs) d (omega arith)

  pub namespace-take : (cs : List X) → 0 < length cs → map f (take (length cs - 1) cs) ≡ namespace (map f cs)
  namespace-take [] h = absurd (omega arith)
  namespace-take (c ∷ []) h = refl
  namespace-take (c ∷ e ∷ cs) h =
      let k : length (c ∷ e ∷ cs) - 1 ≡ suc (length cs) = omega arith in
      let j : length (e ∷ cs) - 1 ≡ length cs = omega arith in
      ap (λ n. map f (take n (c ∷ e ∷ cs))) k ∙ ap (λ n. f c ∷ map f (take n (e ∷ cs))) (sym j)
      ∙ ap (λ z. f c ∷ z) (namespace-take (e ∷ cs) (omega arith))

-- one component
pub single-is : {X : Type 0} (f : X → List ℕ) (xs : List X) (n : Name) → map f xs ≡ n → (length xs == 1) ≡ is_single n
single-is f [] n e = ap is_single e
single-is f (x ∷ []) n e = ap is_single e
single-is f (x ∷ y ∷ xs) n e = (let p : (length (x ∷ y ∷ xs) == 1) ≡ false = grind (arith, nat_tests) in p)
    ∙ ap is_single e
