-- Parts with a separator between two.
use Rattle.std.specs.Prelude.{◌≡◌, ℕ, Bool, true, false, List, [], ◌∷◌, ◌++◌, map, codes}
use Rattle.std.proofs.Common.{refl, sym, ap, ◌∙◌, append_assoc}
use Rattle.ot_logic.specs.Names.{Name}
use Rattle.ot_logic.specs.Trees.{Variable, Sequent, TyDef}
use Rattle.ot_text.specs.Texts.{name_text, further_hyps, sequent_text}
use Rattle.ot_text.specs.Sections.{pair_text, pairs_text, further_pairs, names_text, further_names}
use Rattle.ot_text.specs.Sections.{theorems_text, further_theorems, head_text}
use Rattle.ot_text.specs.Separated.{separator, further, separated, separated_from, hyps_from}

pub hyps-first : (b : Bool) (x y : List ℕ) (xs : List (List ℕ)) → y ≡ x
    → hyps_from b (x ∷ xs) ≡ separator b (codes ", ") ++ y ++ further_hyps xs
hyps-first true x y xs p = ap (λ z. z ++ further_hyps xs) (sym p)
hyps-first false x y xs p = ap (λ z. codes ", " ++ z ++ further_hyps xs) (sym p)

pub separated-first : (b : Bool) (s x : List ℕ) (xs : List (List ℕ)) → separated_from b s (x ∷ xs) ≡ separator b s ++ x
    ++ further s xs
separated-first true s x xs = refl
separated-first false s x xs = refl

pub separated-none : (b : Bool) (s : List ℕ) → separated_from b s [] ≡ []
separated-none true s = refl
separated-none false s = refl

-- ---- the lists of a definition
module _ {X : Type 0} where
  further-names : (f : X → Name) (xs : List X) → further (codes " ") (map (λ x. name_text (f x)) xs)
      ≡ further_names (map f xs)
  further-names f [] = refl
  further-names f (x ∷ xs) = ap (λ z. codes " " ++ name_text (f x) ++ z) (further-names f xs)

  pub names-separated : (f : X → Name) (xs : List X) → separated (codes " ") (map (λ x. name_text (f x)) xs)
      ≡ names_text (map f xs)
  names-separated f [] = refl
  names-separated f (x ∷ xs) = ap (λ z. name_text (f x) ++ z) (further-names f xs)

  further-pairs : (f : X → Name × Variable Name) (xs : List X) → further (codes ",") (map (λ x. pair_text (f x)) xs)
      ≡ further_pairs (map f xs)
  further-pairs f [] = refl
  further-pairs f (x ∷ xs) = ap (λ z. codes "," ++ pair_text (f x) ++ z) (further-pairs f xs)

  pub pairs-separated : (f : X → Name × Variable Name) (xs : List X)
      → separated (codes ",") (map (λ x. pair_text (f x)) xs) ≡ pairs_text (map f xs)
  pairs-separated f [] = refl
  pairs-separated f (x ∷ xs) = ap (λ z. pair_text (f x) ++ z) (further-pairs f xs)

  further-theorems : (f : X → Sequent Name) (xs : List X) → further (codes " ; ") (map (λ x. sequent_text (f x)) xs)
      ≡ further_theorems (map f xs)
  further-theorems f [] = refl
  further-theorems f (x ∷ xs) = ap (λ z. codes " ; " ++ sequent_text (f x) ++ z) (further-theorems f xs)

  pub theorems-separated : (f : X → Sequent Name) (xs : List X)
      → separated (codes " ; ") (map (λ x. sequent_text (f x)) xs) ≡ theorems_text (map f xs)
  theorems-separated f [] = refl
  theorems-separated f (x ∷ xs) = ap (λ z. sequent_text (f x) ++ z) (further-theorems f xs)

-- ---- a type operator
pub type-pieces : (n abs rep : Name) (vs : List Name) (q : Sequent Name)
    → codes "type " ++ name_text n ++ codes " (" ++ names_text vs ++ codes ") abs " ++ name_text abs ++ codes " rep "
    ++ name_text rep ++ (codes " from " ++ sequent_text q) ≡ head_text (TyDef n abs rep vs q)
type-pieces n abs rep vs q =
    sym (append_assoc (codes "type " ++ name_text n ++ codes " (" ++ names_text vs ++ codes ") abs " ++ name_text abs
    ++ codes " rep " ++ name_text rep) (codes " from ") (sequent_text q))
