-- When a bound place leads out of a term that stands under binders: where one of them is free in it.
use Rattle.std.specs.Option.{option_map}
use Rattle.std.proofs.Common.{◌≡◌, ℕ, suc, ◌+◌, List, [], ◌∷◌, ◌++◌, length}
use Rattle.std.proofs.Common.{Option, Some, None, refl, sym, ap, subst, ◌∙◌, inl, inr, arith}
use Rattle.ot_logic.specs.Trees.{Alphabet, Ty, Variable}
use Rattle.ot_logic.specs.Trees.{App, Abs, Named, NVar, NConst, NApp, NAbs}
use Rattle.ot_laws.proofs.Named.{nameless_in-nil}
use Rattle.ot_laws.proofs.Typing.{within-typed}
use Rattle.ot_logic.specs.Hol.{IsWithin, type_in}
use Rattle.ot_logic.specs.NamedTerms.{nameless, place, at_place, nameless_in, IsFreeIn}
use Rattle.ot_laws.proofs.Tests.{Tells, var_cases, same_var-no}

module _ {N : Type 0} (alphabet : Alphabet N) (tells : Tells alphabet) where
  -- a place among binders and further binders around them
  place-inner : (d e : List (Variable N)) (v : Variable N) (k : ℕ) → place alphabet d v ≡ Some k
      → place alphabet (d ++ e) v ≡ Some k
  place-inner [] e v k h = absurd cc
  place-inner (w ∷ d) e v k h = elim (var_cases alphabet tells v w) [
    | inl q ↦ let i : ◌≡◌ {A = Option ℕ} (Some 0) (Some k) = rw q.0 at h in rw q.0 i
    | inr q ↦ let i : option_map suc (place alphabet d v) ≡ Some k = rw q.0 at h in
        rw q.0 (go (place alphabet d v) refl i (λ j g. place-inner d e v j g))
  ]
    where
      go : (o : Option ℕ) → place alphabet d v ≡ o → option_map suc o ≡ Some k
          → ((j : ℕ) → place alphabet d v ≡ Some j → place alphabet (d ++ e) v ≡ Some j)
          → option_map suc (place alphabet (d ++ e) v) ≡ Some k
      go None g i ih = absurd cc
      go (Some j) g i ih = ap (option_map suc) (ih j g) ∙ i

  place-outer : (d e : List (Variable N)) (v : Variable N) → place alphabet d v ≡ None → place alphabet (d ++ e) v
      ≡ option_map (λ j. length d + j) (place alphabet e v)
  place-outer [] e v h = same (place alphabet e v)
    where
      same : (o : Option ℕ) → o ≡ option_map (λ j. 0 + j) o
      same None = refl
      same (Some j) = ap Some (omega arith)
  place-outer (w ∷ d) e v h = elim (var_cases alphabet tells v w) [
    | inl q ↦ let i : ◌≡◌ {A = Option ℕ} (Some 0) None = rw q.0 at h in absurd cc
    | inr q ↦
        let i : option_map suc (place alphabet d v) ≡ None = rw q.0 at h in
        rw q.0 (ap (option_map suc) (place-outer d e v (none (place alphabet d v) i)) ∙ add (place alphabet e v))
  ]
    where
      none : (o : Option ℕ) → option_map suc o ≡ None → o ≡ None
      none None i = refl
      none (Some j) i = absurd cc

      add : (o : Option ℕ) → option_map suc (option_map (λ j. length d + j) o)
          ≡ option_map (λ j. length (w ∷ d) + j) o
      add None = refl
      add (Some j) = ap Some (omega arith)

  -- binders around that no free variable meets change nothing
  pub nameless-apart : (e d : List (Variable N)) (t : Named N)
      → ((v : Variable N) → IsFreeIn alphabet v t → place alphabet d v ≡ None → place alphabet e v ≡ None)
      → nameless_in alphabet (d ++ e) t ≡ nameless_in alphabet d t
  nameless-apart e d (NVar v) h = go (place alphabet d v) refl
    where
      go : (o : Option ℕ) → place alphabet d v ≡ o → at_place alphabet v (place alphabet (d ++ e) v)
          ≡ at_place alphabet v (place alphabet d v)
      go None g =
          ap (at_place alphabet v) (place-outer d e v g ∙ ap (option_map (λ j. length d + j)) (h v refl g) ∙ sym g)
      go (Some k) g = ap (at_place alphabet v) (place-inner d e v k g ∙ sym g)
  nameless-apart e d (NConst n t) h = refl
  nameless-apart e d (NApp f x) h =
      λ i. App (nameless-apart e d f (λ v m. h v (inl m)) i) (nameless-apart e d x (λ v m. h v (inr m)) i)
  nameless-apart e d (NAbs w b) h =
      ap (Abs w.ty) (nameless-apart e (w ∷ d) b (λ v m p. elim (var_cases alphabet tells v w) [
        | inl q ↦ let i : ◌≡◌ {A = Option ℕ} (Some 0) None = rw q.0 at p in absurd cc
        | inr q ↦ let i : option_map suc (place alphabet d v) ≡ None = rw q.0 at p in
            h v ((λ s. q.1 (sym s)), m) (none (place alphabet d v) i)
      ]))
    where
      none : (o : Option ℕ) → option_map suc o ≡ None → o ≡ None
      none None i = refl
      none (Some j) i = absurd cc

  -- where no place leads out, no free variable meets a binder around
  pub within-apart : (e d : List (Variable N)) (t : Named N)
      → IsWithin alphabet (length d) (nameless_in alphabet (d ++ e) t)
      → (v : Variable N) → IsFreeIn alphabet v t → place alphabet d v ≡ None → place alphabet e v ≡ None
  within-apart e d (NVar w) h v m p =
      let q : place alphabet (d ++ e) v ≡ option_map (λ j. length d + j) (place alphabet e v) = place-outer d e v p in
      let k : IsWithin alphabet (length d) (at_place alphabet v (place alphabet (d ++ e) v)) =
      subst (λ z. IsWithin alphabet (length d) (at_place alphabet z (place alphabet (d ++ e) z))) m h in
      let l : IsWithin alphabet (length d) (at_place alphabet v (option_map (λ j.
      length d + j) (place alphabet e v))) = subst (λ z. IsWithin alphabet (length d) (at_place alphabet v z)) q
      k in
      go (place alphabet e v) l
    where
      go : (o : Option ℕ) → IsWithin alphabet (length d) (at_place alphabet v (option_map (λ j. length d + j) o))
          → o ≡ None
      go None l = refl
      go (Some j) l = absurd (omega (arith, l))
  within-apart e d (NConst n t) h v m p = absurd m
  within-apart e d (NApp f x) h v (inl m) p = within-apart e d f h.0 v m p
  within-apart e d (NApp f x) h v (inr m) p = within-apart e d x h.1 v m p
  within-apart e d (NAbs w b) h v m p =
      within-apart e (w ∷ d) b h v m.1 (rw (same_var-no alphabet tells v w (λ s. m.0 (sym s)), p) refl)

  -- a term that meets no binder around is the same as without them
  pub apart-is : (e : List (Variable N)) (t : Named N)
      → ((v : Variable N) → IsFreeIn alphabet v t → place alphabet e v ≡ None) → nameless_in alphabet e t
      ≡ nameless alphabet t
  apart-is e t h = nameless-apart e [] t (λ v m p. h v m) ∙ nameless_in-nil alphabet tells t

  -- one that meets a binder has no type by itself
  pub met-untyped : (e : List (Variable N)) (t : Named N) (v : Variable N) (j : ℕ) → IsFreeIn alphabet v t
      → place alphabet e v ≡ Some j → type_in alphabet [] (nameless_in alphabet e t) ≡ None
  met-untyped e t v j m p = go (type_in alphabet [] (nameless_in alphabet e t)) refl
    where
      go : (o : Option (Ty N)) → type_in alphabet [] (nameless_in alphabet e t) ≡ o → o ≡ None
      go None g = refl
      go (Some ty) g =
          let q = within-apart e [] t (within-typed alphabet tells [] (nameless_in alphabet e t) ty g) v m refl in
          let r : ◌≡◌ {A = Option ℕ} None (Some j) = sym q ∙ p in absurd cc
