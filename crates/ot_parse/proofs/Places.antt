-- The number of the abstraction that binds a name, looked for from the innermost one on.
use Rattle.std.specs.Prelude.{◌≡◌, ◌<◌, ◌+◌, ℕ, suc, true, false, cond, length}
use Rattle.std.specs.Prelude.{List, ◌∷◌, map, take, slice_get, Option, Some, None, Ok, Err}
use Rattle.std.specs.Option.{option_map}
use Rattle.std.proofs.Common.{refl, sym, ◌∙◌, ap, subst, arith, get_or}
use Rattle.std.proofs.Math.Seq.{take-suc}
use Rattle.ot_logic.specs.Answers.{◌>>=◌, some_or}
use Rattle.ot_logic.specs.Names.{Name}
use Rattle.ot_logic.specs.Trees.{Ty, Bound}
use Rattle.ot_forms.specs.declared.fault.TextFault.TheVariants.{Unbound}
use Rattle.ot_forms.specs.Words.{same_text}
use Rattle.ot_forms.specs.Meaning.{Around, types_around, place_of}
use Rattle.ot_parse.specs.declared.terms.Open.{Open}
use Rattle.ot_parse.specs.Meant.{bound_of}
use Rattle.ot_parse.specs.Values.{IsBoundTo}
use Rattle.ot_parse.specs.TermFrames.{inner_of, around}
use Rattle.ot_parse.specs.TermCode.{frame_of, frames_of}
use Rattle.ot_parse.proofs.TermLoops.{reversed-push}

-- so many abstractions inside these name something else
pub record ArePassed (l : Around) (x : List ℕ) (number : ℕ) (left : Around) : Type 0 where
  pub place : place_of l x ≡ option_map (λ j. number + j) (place_of left x)
  pub types : (j : ℕ) → slice_get (types_around l) (number + j) ≡ slice_get (types_around left) j

mapped-none : (o : Option ℕ) → option_map (λ j. 0 + j) o ≡ o
mapped-none None = refl
mapped-none (Some j) = let e : 0 + j ≡ j = omega arith in ap Some e

pub passed-start : (l : Around) (x : List ℕ) → ArePassed l x 0 l
passed-start l x = record {
  place = sym (mapped-none (place_of l x));
  types = λ j. let e : 0 + j ≡ j = omega arith in
      ap (slice_get (types_around l)) e;
}

-- another name
pub passed-other : (l : Around) (x : List ℕ) (number : ℕ) (y : List ℕ) (t : Ty Name) (left : Around)
    → ArePassed l x number ((y, t) ∷ left) → same_text y x ≡ false → ArePassed l x (number + 1) left
passed-other l x number y t left h e = record {
  place = h.place ∙ ap (λ c. option_map (λ j. number + j) (cond c (Some 0) (option_map suc (place_of left x)))) e
      ∙ go (place_of left x);
  types = λ j. let k : number + 1 + j ≡ number + suc j = omega arith in
      ap (slice_get (types_around l)) k ∙ h.types (suc j);
} where
  go : (o : Option ℕ) → option_map (λ j. number + j) (option_map suc o) ≡ option_map (λ j. number + 1 + j) o
  go None = refl
  go (Some j) = let k : number + suc j ≡ number + 1 + j = omega arith in ap Some k

-- this name
pub passed-found : (l : Around) (x : List ℕ) (number : ℕ) (y : List ℕ) (t : Ty Name) (left : Around)
    → ArePassed l x number ((y, t) ∷ left) → same_text y x ≡ true → place_of l x ≡ Some number
passed-found l x number y t left h e = let k : number + 0 ≡ number = omega arith in h.place
    ∙ ap (λ c. option_map (λ j. number + j) (cond c (Some 0) (option_map suc (place_of left x)))) e ∙ ap Some k

pub passed-type : (l : Around) (x : List ℕ) (number : ℕ) (y : List ℕ) (t : Ty Name) (left : Around)
    → ArePassed l x number ((y, t) ∷ left) → IsBoundTo l number t
passed-type l x number y t left h = let k : number ≡ number + 0 = omega arith in
    ap (slice_get (types_around l)) k ∙ h.types 0

pub place-found : (l : Around) (k : ℕ) (x : List ℕ) (i : ℕ) → place_of l x ≡ Some i → bound_of l k x ≡ Ok (Bound i)
place-found l k x i e = ap (λ o. some_or (k, Unbound) o >>= (λ i. Ok (Bound i))) e

pub place-none : (l : Around) (k : ℕ) (x : List ℕ) → place_of l x ≡ None → bound_of l k x ≡ Err (k, Unbound)
place-none l k x e = ap (λ o. some_or (k, Unbound) o >>= (λ i. Ok (Bound i))) e

-- ---- in the code's list, the innermost last
pub last-frame : (os : List Open) (k j : ℕ) (o : Open) → k ≡ j + 1 → j < length os → o ≡ get_or os j o
    → frames_of (take k os) ≡ frame_of o ∷ frames_of (take j os)
last-frame os k j o e h d =
    let q : k ≡ suc j = omega (arith, e) in
    ap (λ i. frames_of (take i os)) q ∙ ap frames_of (take-suc os j o h) ∙ ap (map frame_of)
    (reversed-push (take j os) (get_or os j o)) ∙ ap (λ p. frame_of p ∷ frames_of (take j os)) (sym d)

-- the abstractions around what is open outside the last that is open of these
pub passed-frame : (l : Around) (x : List ℕ) (number : ℕ) (os : List Open) (k j : ℕ) (o : Open) → k ≡ j + 1
    → j < length os → o ≡ get_or os j o → ArePassed l x number (around (frames_of (take k os)))
    → ArePassed l x number (inner_of (frame_of o) (around (frames_of (take j os))))
passed-frame l x number os k j o e h d w = subst (λ fs. ArePassed l x number (around fs)) (last-frame os k j o e h d)
    w

-- nothing is left
pub passed-all : (l : Around) (k : ℕ) (x : List ℕ) (number : ℕ) (os : List Open) (j : ℕ) → j ≡ 0
    → ArePassed l x number (around (frames_of (take j os))) → bound_of l k x ≡ Err (k, Unbound)
passed-all l k x number os j e h =
    place-none l k x
    (h.place ∙ ap (λ i. option_map (λ j. number + j) (place_of (around (frames_of (take i os))) x)) e)
