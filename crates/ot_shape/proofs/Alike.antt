-- Lists of variables that are related one by one, where the test of variables gives the same on both sides: the places
-- of variables are the same, and the lists that are made from them are related.
use Rattle.std.specs.List.{filter}
use Rattle.std.specs.Option.{is_none, option_map}
use Rattle.std.proofs.Common.{◌≡◌, suc, Bool, true, false, cond, not, true≢false, List, [], ◌∷◌, ◌++◌, map}
use Rattle.std.proofs.Common.{Some, refl, sym, ap}
use Rattle.ot_logic.specs.Trees.{Alphabet, Variable}
use Rattle.ot_logic.specs.Hol.{same_var}
use Rattle.ot_logic.specs.NamedTerms.{place}
use Rattle.ot_shape.specs.Shape.{joined, without}

module _ {M N : Type 0} (a : Alphabet M) (b : Alphabet N) where
  -- the test of variables gives the same on both sides
  abbrev pub IsTested : (Variable M → Variable N → Type 0) → Type 0
  IsTested R = (v x : Variable M) (w y : Variable N) → R v w → R x y → same_var a v x ≡ same_var b w y

  abbrev pub AreAlike : (Variable M → Variable N → Type 0) → List (Variable M) → List (Variable N) → Type 0
  AreAlike R [] [] = Unit {0}
  AreAlike R [] (w ∷ ws) = ⊥
  AreAlike R (v ∷ vs) [] = ⊥
  AreAlike R (v ∷ vs) (w ∷ ws) = R v w × AreAlike R vs ws

  module _ (R : Variable M → Variable N → Type 0) (tested : IsTested R) where
    pub place-alike : (vs : List (Variable M)) (ws : List (Variable N)) → AreAlike R vs ws
        → (v : Variable M) (w : Variable N) → R v w → place a vs v ≡ place b ws w
    place-alike [] [] h v w r = refl
    place-alike [] (y ∷ ws) h v w r = absurd h
    place-alike (x ∷ vs) [] h v w r = absurd h
    place-alike (x ∷ vs) (y ∷ ws) h v w r =
        let test = tested v x w y r h.0 in
        let rest = place-alike vs ws h.1 v w r in
        λ i. cond (test i) (Some 0) (option_map suc (rest i))

    pub append-alike : (vs xs : List (Variable M)) (ws ys : List (Variable N)) → AreAlike R vs ws → AreAlike R xs ys
        → AreAlike R (vs ++ xs) (ws ++ ys)
    append-alike [] xs [] ys g h = h
    append-alike [] xs (w ∷ ws) ys g h = absurd g
    append-alike (v ∷ vs) xs [] ys g h = absurd g
    append-alike (v ∷ vs) xs (w ∷ ws) ys g h = (g.0, append-alike vs xs ws ys g.1 h)

    module _ (fs : List (Variable M)) (gs : List (Variable N)) (alike : AreAlike R fs gs) where
      pub places-alike : (xs : List (Variable M)) (ys : List (Variable N)) → AreAlike R xs ys
          → map (place a fs) xs ≡ map (place b gs) ys
      places-alike [] [] h = refl
      places-alike [] (y ∷ ys) h = absurd h
      places-alike (x ∷ xs) [] h = absurd h
      places-alike (x ∷ xs) (y ∷ ys) h =
          let first = place-alike fs gs alike x y h.0 in
          let rest = places-alike xs ys h.1 in
          λ i. first i ∷ rest i

      new-alike : (xs : List (Variable M)) (ys : List (Variable N)) → AreAlike R xs ys
          → AreAlike R (filter (λ v. is_none (place a fs v)) xs) (filter (λ v. is_none (place b gs v)) ys)
      new-alike [] [] h = tt
      new-alike [] (y ∷ ys) h = absurd h
      new-alike (x ∷ xs) [] h = absurd h
      new-alike (x ∷ xs) (y ∷ ys) h =
          by _ _ (is_none (place a fs x)) (is_none (place b gs y)) (ap is_none (place-alike fs gs alike x y h.0))
          (new-alike xs ys h.1)
        where
          by : (us : List (Variable M)) (vs : List (Variable N)) (s t : Bool) → s ≡ t → AreAlike R us vs
              → AreAlike R (cond s (x ∷ us) us) (cond t (y ∷ vs) vs)
          by us vs true true e g = (h.0, g)
          by us vs false false e g = g
          by us vs true false e g = absurd (true≢false e)
          by us vs false true e g = absurd (true≢false (sym e))

      pub joined-alike : (xs : List (Variable M)) (ys : List (Variable N)) → AreAlike R xs ys
          → AreAlike R (joined a fs xs) (joined b gs ys)
      joined-alike xs ys h = append-alike fs _ gs _ alike (new-alike xs ys h)

    -- without a variable, the rest may be related otherwise
    module _ (S : Variable M → Variable N → Type 0) (v : Variable M) (w : Variable N) (r : R v w)
        (other : (x : Variable M) (y : Variable N) → R x y → same_var a v x ≡ false → same_var b w y ≡ false → S x y)
      where
        pub without-alike : (xs : List (Variable M)) (ys : List (Variable N)) → AreAlike R xs ys
            → AreAlike S (without a v xs) (without b w ys)
        without-alike [] [] h = tt
        without-alike [] (y ∷ ys) h = absurd h
        without-alike (x ∷ xs) [] h = absurd h
        without-alike (x ∷ xs) (y ∷ ys) h =
            by _ _ (same_var a v x) refl (same_var b w y) refl (tested v x w y r h.0) (without-alike xs ys h.1)
          where
            by : (us : List (Variable M)) (vs : List (Variable N)) (s : Bool) → same_var a v x ≡ s
                → (t : Bool) → same_var b w y ≡ t → s ≡ t → AreAlike S us vs
                → AreAlike S (cond (not s) (x ∷ us) us) (cond (not t) (y ∷ vs) vs)
            by us vs true p true q e g = g
            by us vs false p false q e g = (other x y h.0 p q, g)
            by us vs true p false q e g = absurd (true≢false e)
            by us vs false p true q e g = absurd (true≢false (sym e))
