-- Hypotheses that are kept once.
use Rattle.std.specs.Prelude.{◌≡◌, ◌||◌, not}
use Rattle.std.specs.Prelude.{Bool, true, false, cond, List, [], ◌∷◌, ◌++◌, map, filter}
use Rattle.std.proofs.Common.{refl, sym, ◌∙◌, ap}
use Rattle.ot_logic.specs.Names.{Name}
use Rattle.ot_logic.specs.Naming.{names}
use Rattle.ot_logic.specs.Trees.{Tm}
use Rattle.ot_logic.specs.Hol.{same_tm, is_in, once_each}
use Rattle.ot_laws.proofs.Tests.{tells_names, same_tm-is}
use Rattle.ot_logic.specs.declared.tree.Tm as trees
use Rattle.ot_logic.specs.PlainTrees.{term_of_tree}
use Rattle.ot_parse.specs.ReadLines.{others}

-- whether a term is among these and one more
in-push : (t u : Tm Name) (ts : List (Tm Name)) → is_in names t (ts ++ u ∷ [])
    ≡ (is_in names t ts || same_tm names u t)
in-push t u [] = go (same_tm names u t) where
  go : (b : Bool) → (b || false) ≡ (false || b)
  go true = refl
  go false = refl
in-push t u (v ∷ ts) = ap (λ b. same_tm names v t || b) (in-push t u ts) ∙ go (same_tm names v t) where
  go : (b : Bool) → (b || (is_in names t ts || same_tm names u t)) ≡ ((b || is_in names t ts) || same_tm names u t)
  go true = refl
  go false = refl

same-turned : (t u : Tm Name) → same_tm names t u ≡ same_tm names u t
same-turned t u = go (same_tm names t u) (same_tm names u t) refl refl where
  go : (p q : Bool) → same_tm names t u ≡ p → same_tm names u t ≡ q → p ≡ q
  go true true e f = refl
  go false false e f = refl
  go true false e f = sym ((same_tm-is names tells_names u t).1 (sym ((same_tm-is names tells_names t u).0 e))) ∙ f
  go false true e f = sym e ∙ (same_tm-is names tells_names t u).1 (sym ((same_tm-is names tells_names u t).0 f))

-- one term more: those that are equal to it go
pub once-push : (ts : List (Tm Name)) (u : Tm Name) → once_each names (ts ++ u ∷ []) ≡ others u (once_each names ts)
    ++ u ∷ []
once-push [] u = refl
once-push (t ∷ ts) u = ap (λ b. cond b (once_each names (ts ++ u ∷ [])) (t ∷ once_each names (ts ++ u ∷ [])))
    (in-push t u ts) ∙ go (is_in names t ts) (same_tm names u t) (once-push ts u) refl refl where
      -- a term that isn't kept twice: where it is among the others it stays there
      go : (p q : Bool) → once_each names (ts ++ u ∷ []) ≡ others u (once_each names ts) ++ u ∷ []
          → is_in names t ts ≡ p
          → same_tm names u t ≡ q
          → cond (p || q) (once_each names (ts ++ u ∷ [])) (t ∷ once_each names (ts ++ u ∷ []))
          ≡ others u (cond p (once_each names ts) (t ∷ once_each names ts)) ++ u ∷ []
      go true q ih e f = ih
      go false true ih e f =
          ih ∙ ap (λ b. cond b (others u (once_each names ts)) (t ∷ others u (once_each names ts)) ++ u ∷ [])
          (sym (same-turned t u ∙ f))
      go false false ih e f = ap (λ z. t ∷ z) ih
          ∙ ap (λ b. cond b (others u (once_each names ts)) (t ∷ others u (once_each names ts)) ++ u ∷ [])
          (sym (same-turned t u ∙ f))

-- those that the code keeps
pub others-kept : (t : Tm Name) (xs : List trees.Tm)
    → map term_of_tree (filter (λ o. not (same_tm names (term_of_tree o) t)) xs) ≡ others t (map term_of_tree xs)
others-kept t [] = refl
others-kept t (x ∷ xs) = go (same_tm names (term_of_tree x) t) (others-kept t xs) where
  go : (b : Bool) → map term_of_tree (filter (λ o. not (same_tm names (term_of_tree o) t)) xs)
      ≡ others t (map term_of_tree xs)
      → map term_of_tree
      (cond (not b) (x ∷ filter (λ o. not (same_tm names (term_of_tree o) t)) xs)
      (filter (λ o. not (same_tm names (term_of_tree o) t)) xs)) ≡ cond b (others t (map term_of_tree xs))
      (term_of_tree x ∷ others t (map term_of_tree xs))
  go true e = e
  go false e = ap (λ z. term_of_tree x ∷ z) e
