-- Lists that are copied item by item, as what their items stand for.
use Rattle.std.specs.Prelude.{◌≡◌, ℕ, suc, ◌+◌, ◌<◌, ◌≤◌, List, [], ◌∷◌, ◌++◌, map, length, take}
use Rattle.std.proofs.Common.{sym, ◌∙◌, ap, arith, get_or}
use Rattle.std.proofs.Math.Seq.{take-suc}
use Rattle.std.proofs.lemmas.List.{length-map, map-append, get_or-map, take_all}

module _ {X Y : Type 0} (f : X → Y) where
  pub copied-all : (cs ds : List X) (i : ℕ) → map f ds ≡ take i (map f cs) → length cs ≤ i → map f ds ≡ map f cs
  copied-all cs ds i p h = p ∙ take_all i (map f cs) (let n = length-map cs f in omega (arith, n, h))

  pub copy-more : (cs ds es : List X) (i : ℕ) (v x : X) → map f ds ≡ take i (map f cs) → i < length cs
      → x ≡ get_or cs i x → f v ≡ f x → es ≡ ds ++ v ∷ [] → map f es ≡ take (i + 1) (map f cs)
  copy-more cs ds es i v x p h e q r =
      let k : i + 1 ≡ suc i = omega arith in
      let n = length-map cs f in
      let within : i < length (map f cs) = omega (arith, n, h) in
      ap (map f) r ∙ map-append f ds (v ∷ [])
      ∙ (λ j. p j ++ (q ∙ ap f e ∙ sym (get_or-map f cs i x (f x) h)) j ∷ [])
      ∙ sym (take-suc (map f cs) i (f x) within) ∙ ap (λ m. take m (map f cs)) (sym k)
