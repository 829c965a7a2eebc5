-- The nesting limit of a named term is that of its nameless form.
use Rattle.std.specs.Prelude.{nat_le, ◌&&◌}
use Rattle.std.specs.List.{list_all}
use Rattle.std.proofs.Common.{◌≡◌, ℕ, Bool, true, List, [], ◌∷◌, ◌++◌, Option, Some, None, refl, sym, ap, ◌∙◌}
use Rattle.std.proofs.Math.Bool.{and-true}
use Rattle.std.proofs.lemmas.Bool.{and_parts}
use Rattle.std.proofs.lemmas.List.Folds.{list_all-append}
use Rattle.ot_logic.specs.Trees.{Alphabet, Variable, Named, NVar, NConst, NApp, NAbs}
use Rattle.ot_logic.specs.Hol.{type_in, depth_limit, has_shallow_types, is_shallow_type, is_shallow}
use Rattle.ot_logic.specs.NamedTerms.{place, at_place, nameless, nameless_in, named_type, named_depth, parts}
use Rattle.ot_laws.specs.Limits.{is_shallow_named}
use Rattle.ot_laws.proofs.Tests.{Tells}
use Rattle.ot_laws.proofs.Named.{nameless_in-nil}
use Rattle.ot_laws.proofs.Typing.{types_of, type-nameless_in, depth-nameless}

module _ {N : Type 0} (alphabet : Alphabet N) where
  -- the type of the term is within the limit
  abbrev has_shallow_type : Named N → Bool
  has_shallow_type t = is_shallow_type alphabet (named_type alphabet t)

  -- the types of all parts are
  abbrev all_shallow : Named N → Bool
  all_shallow t = list_all has_shallow_type (parts alphabet t)

  -- ---- the limit of a term whose parts are within it
  pub shallow-app : (f x : Named N) → is_shallow_named alphabet f ≡ true → is_shallow_named alphabet x ≡ true
      → is_shallow_named alphabet (NApp f x)
      ≡ (nat_le (named_depth alphabet (NApp f x)) depth_limit && has_shallow_type (NApp f x))
  shallow-app f x p q =
      let left = (and_parts (nat_le (named_depth alphabet f) depth_limit) (all_shallow f) p).1 in
      let right = (and_parts (nat_le (named_depth alphabet x) depth_limit) (all_shallow x) q).1 in
      let both : list_all has_shallow_type (parts alphabet f ++ parts alphabet x) ≡ true =
      list_all-append has_shallow_type (parts alphabet f) (parts alphabet x) ∙ (λ i. left i && right i) in
      ap (λ b. nat_le (named_depth alphabet (NApp f x)) depth_limit && (has_shallow_type (NApp f x) && b)) both
      ∙ ap (λ b. nat_le (named_depth alphabet (NApp f x)) depth_limit && b)
      (and-true (has_shallow_type (NApp f x)))

  pub shallow-abs : (v : Variable N) (b : Named N) → is_shallow_named alphabet b ≡ true → is_shallow_named alphabet
      (NAbs v b) ≡ (nat_le (named_depth alphabet (NAbs v b)) depth_limit && has_shallow_type (NAbs v b))
  shallow-abs v b p =
      let body = (and_parts (nat_le (named_depth alphabet b) depth_limit) (all_shallow b) p).1 in
      ap (λ c. nat_le (named_depth alphabet (NAbs v b)) depth_limit && (has_shallow_type (NAbs v b) && c)) body
      ∙ ap (λ c. nat_le (named_depth alphabet (NAbs v b)) depth_limit && c)
      (and-true (has_shallow_type (NAbs v b)))

module _ {N : Type 0} (alphabet : Alphabet N) (tells : Tells alphabet) where
  shallow-at_place : (e : List (Variable N)) (v : Variable N) (o : Option ℕ) → has_shallow_types alphabet (types_of e)
      (at_place alphabet v o) ≡ is_shallow_type alphabet (type_in alphabet (types_of e) (at_place alphabet v o))
  shallow-at_place e v None = refl
  shallow-at_place e v (Some k) = refl

  -- under binders
  shallow-nameless_in : (e : List (Variable N)) (t : Named N)
      → has_shallow_types alphabet (types_of e) (nameless_in alphabet e t) ≡ all_shallow alphabet t
  shallow-nameless_in e (NVar v) =
      shallow-at_place e v (place alphabet e v) ∙ ap (is_shallow_type alphabet)
      (type-nameless_in alphabet tells e (NVar v)) ∙ sym (and-true (has_shallow_type alphabet (NVar v)))
  shallow-nameless_in e (NConst n t) = sym (and-true (has_shallow_type alphabet (NConst n t)))
  shallow-nameless_in e (NApp f x) =
      (λ i. is_shallow_type alphabet (type-nameless_in alphabet tells e (NApp f x) i)
      && (shallow-nameless_in e f i && shallow-nameless_in e x i))
      ∙ ap (λ b. has_shallow_type alphabet (NApp f x) && b)
      (sym (list_all-append (has_shallow_type alphabet) (parts alphabet f) (parts alphabet x)))
  shallow-nameless_in e (NAbs v b) = λ i. is_shallow_type alphabet (type-nameless_in alphabet tells e (NAbs v b) i)
      && shallow-nameless_in (v ∷ e) b i

  pub shallow-nameless : (t : Named N) → is_shallow alphabet (nameless alphabet t) ≡ is_shallow_named alphabet t
  shallow-nameless t =
      let types = ap (has_shallow_types alphabet []) (sym (nameless_in-nil alphabet tells t))
      ∙ shallow-nameless_in [] t in
      λ i. nat_le (depth-nameless alphabet tells t i) depth_limit && types i
