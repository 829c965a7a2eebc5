-- What values keep of their terms.
use Rattle.std.specs.Prelude.{◌≡◌, ℕ, suc, ◌+◌, ◌≤◌, ◌<◌, ◌&&◌, max, min}
use Rattle.std.specs.Prelude.{◌==◌, Bool, true, false, cond, List, [], ◌∷◌, ◌++◌}
use Rattle.std.specs.Prelude.{map, length, take, Some, None, Ok, Err}
use Rattle.std.specs.Option.{unwrap_or}
use Rattle.std.proofs.Common.{refl, sym, ◌∙◌, ap, arith, get_or}
use Rattle.std.proofs.Math.Seq.{take-suc}
use Rattle.std.proofs.lemmas.Bool.Decides.{nat_tests}
use Rattle.std.proofs.lemmas.List.{map-append, take_all}
use Rattle.ot_logic.specs.Answers.{◌>>=◌}
use Rattle.ot_logic.specs.Names.{Name}
use Rattle.ot_logic.specs.Naming.{names}
use Rattle.ot_logic.specs.Trees.{Ty, TyOp, Tm}
use Rattle.ot_logic.specs.Trees.{Symbol, ConSymbol, OpSymbol}
use Rattle.ot_logic.specs.Hol.{fun_ty, bool_ty, same_ty, type_in, applied, result_ty, depth_ty}
use Rattle.ot_logic.specs.Hol.{depth_all}
use Rattle.ot_logic.specs.declared.tree.Ty as types
use Rattle.ot_laws.proofs.Tests.{tells_names, same_ty-is}
use Rattle.ot_laws.proofs.Typing.{result_ty-fun}
use Rattle.ot_forms.specs.declared.fault.TextFault.TheVariants.{BadTypes, TooDeep}
use Rattle.ot_forms.specs.Words.{same_text, base}
use Rattle.ot_forms.specs.Reading.{with_base}
use Rattle.ot_forms.specs.Meaning.{Around, types_around, constant_of, has_type, is_typed}
use Rattle.ot_forms.specs.Meaning.{check, fits, equated, are_alike}
use Rattle.ot_parse.specs.declared.values.Meant.TheVariants as parts
use Rattle.ot_parse.specs.declared.values.Meant.{Meant as Part}
use Rattle.ot_logic.specs.PlainTrees.{type_of_tree, term_of_tree, tys_of}
use Rattle.ot_parse.specs.Meant.{Meaning, equal_of, relation_of, related_at}
use Rattle.ot_parse.specs.Values.{IsProposition, IsWholly}

-- ---- the depth of a row of types
depth-push : (ts : List (Ty Name)) (t : Ty Name) → depth_all names (tys_of (ts ++ t ∷ []))
    ≡ max (depth_all names (tys_of ts)) (depth_ty names t)
depth-push [] t = omega arith
depth-push (u ∷ ts) t = let e = depth-push ts t in omega (arith, e)

pub depth-more : (xs : List types.Ty) (i : ℕ) (x : types.Ty) (d e k : ℕ)
    → d ≡ min (depth_all names (tys_of (map type_of_tree (take i xs)))) k → i < length xs → x ≡ get_or xs i x
    → e ≡ max d (min (depth_ty names (type_of_tree x)) k)
    → e ≡ min (depth_all names (tys_of (map type_of_tree (take (i + 1) xs)))) k
depth-more xs i x d e k p h q r =
    let j : i + 1 ≡ suc i = omega arith in
    let w : map type_of_tree (take (i + 1) xs) ≡ map type_of_tree (take i xs) ++ type_of_tree x ∷ [] =
    ap (λ n. map type_of_tree (take n xs)) j ∙ ap (map type_of_tree) (take-suc xs i x h) ∙ map-append type_of_tree
    (take i xs) (get_or xs i x ∷ []) ∙ ap (λ y. map type_of_tree (take i xs) ++ type_of_tree y ∷ []) (sym q) in
    let u = ap (λ ts. depth_all names (tys_of ts)) w ∙ depth-push (map type_of_tree (take i xs)) (type_of_tree x) in
    omega (arith, p, r, u)

pub depth-whole : (n : Name) (xs : List types.Ty) (i d k : ℕ)
    → d ≡ min (depth_all names (tys_of (map type_of_tree (take i xs)))) k → length xs ≤ i
    → d + 1 ≡ min (depth_ty names (TyOp n (tys_of (map type_of_tree xs)))) (suc k)
depth-whole n xs i d k p h = let e = ap (λ ys. depth_all names (tys_of (map type_of_tree ys))) (take_all i xs h) in
    omega (arith, p, e)

-- ---- whole parts
pub typed-test : (l : Around) (t : Tm Name) (ty u : Ty Name) → type_in names (types_around l) t ≡ Some ty
    → has_type l t u ≡ same_ty names ty u
typed-test l t ty u e = ap (λ o. same_ty names (unwrap_or o (bool_ty names)) u) e

-- where a proposition is wanted, a whole part is one
pub wholly-proposition : (l : Around) (k : ℕ) (m : Meaning) (p : Part) → IsWholly l true k m p → IsProposition p
wholly-proposition l k m (parts.Wrong j f) h = tt
wholly-proposition l k (Err e) (parts.Value v) h = let d = h.means in cc
wholly-proposition l k (Ok t) (parts.Value v) h = go (has_type l t (bool_ty names)) (fits l t) refl h.means where
  go : (b c : Bool) → has_type l t (bool_ty names) ≡ b
      → Ok (term_of_tree v.term) ≡ (check k BadTypes b >>= (λ _. check k TooDeep c >>= (λ _. Ok t)))
      → type_of_tree v.ty ≡ bool_ty names
  go true true e d =
      let s : term_of_tree v.term ≡ t = cc in
      (same_ty-is names tells_names (type_of_tree v.ty) (bool_ty names)).0
      (sym (typed-test l t (type_of_tree v.ty) (bool_ty names)
      (ap (type_in names (types_around l)) (sym s) ∙ h.kept.typed)) ∙ e)
  go true false e d = cc
  go false c e d = cc

-- ---- equations and operators
same-turned : (a b : Ty Name) → same_ty names a b ≡ same_ty names b a
same-turned a b = go (same_ty names a b) (same_ty names b a) refl refl where
  go : (p q : Bool) → same_ty names a b ≡ p → same_ty names b a ≡ q → p ≡ q
  go true true e f = refl
  go false false e f = refl
  go true false e f = sym ((same_ty-is names tells_names b a).1 (sym ((same_ty-is names tells_names a b).0 e))) ∙ f
  go false true e f = sym e ∙ (same_ty-is names tells_names a b).1 (sym ((same_ty-is names tells_names b a).0 f))

-- a relation at two terms of its type is a proposition, and at others it has no type
related-type : (l : Around) (n : Name) (a b : Tm Name) (t u : Ty Name) → type_in names (types_around l) a ≡ Some t
    → type_in names (types_around l) b ≡ Some u
    → type_in names (types_around l) (related_at n t a b) ≡ result_ty names (fun_ty names t (bool_ty names)) u
related-type l n a b t u p q = (λ i. applied names (applied names (Some (relation_of t)) (p i)) (q i))
    ∙ ap (λ o. applied names o (Some u)) (result_ty-fun names tells_names t (fun_ty names t (bool_ty names)))

pub alike-typed : (l : Around) (n : Name) (a b : Tm Name) (t u : Ty Name) → type_in names (types_around l) a ≡ Some t
    → type_in names (types_around l) b ≡ Some u → is_typed l (related_at n t a b) ≡ are_alike l a b
alike-typed l n a b t u p q =
    ap (λ o. elim o as (λ _. Bool) [ None ↦ false | Some v ↦ true ]) (related-type l n a b t u p q)
    ∙ go (same_ty names t u) refl
    ∙ same-turned t u
    ∙ sym (typed-test l b u t q)
    ∙ ap (λ o. has_type l b (unwrap_or o (bool_ty names))) (sym p)
  where
    arrow : {A : Type 0} (c : Bool) (x y : A) → cond (names.same names.arrow names.arrow && c) x y ≡ cond c x y
    arrow c x y = ap (λ d. cond (d && c) x y) ((tells_names names.arrow names.arrow).1 refl)

    go : (c : Bool) → same_ty names t u ≡ c
        → (elim (result_ty names (fun_ty names t (bool_ty names)) u) as (λ _. Bool) [ None ↦ false | Some v ↦ true ])
        ≡ same_ty names t u
    go true e = ap (λ o. elim o as (λ _. Bool) [ None ↦ false | Some v ↦ true ])
        (arrow (same_ty names t u) (Some (bool_ty names)) None ∙ ap (λ d. cond d (Some (bool_ty names)) None) e)
        ∙ sym e
    go false e = ap (λ o. elim o as (λ _. Bool) [ None ↦ false | Some v ↦ true ])
        (arrow (same_ty names t u) (Some (bool_ty names)) None ∙ ap (λ d. cond d (Some (bool_ty names)) None) e)
        ∙ sym e

pub equated-is : (l : Around) (a b : Tm Name) (t : Ty Name) → type_in names (types_around l) a ≡ Some t
    → related_at names.equals t a b ≡ equated l a b
equated-is l a b t p = ap (λ o. related_at names.equals (unwrap_or o (bool_ty names)) a b) (sym p)

pub equal-right : (l : Around) (k : ℕ) (a b : Tm Name) → are_alike l a b ≡ true → equal_of l k (Ok a) (Ok b)
    ≡ Ok (equated l a b)
equal-right l k a b e = ap (λ c. check k BadTypes c >>= (λ _. Ok (equated l a b))) e

pub equal-wrong : (l : Around) (k : ℕ) (a b : Tm Name) → are_alike l a b ≡ false → equal_of l k (Ok a) (Ok b)
    ≡ Err (k, BadTypes)
equal-wrong l k a b e = ap (λ c. check k BadTypes c >>= (λ _. Ok (equated l a b))) e

-- the hidden constant with an operator word
text-turned : (x y : List ℕ) → same_text x y ≡ same_text y x
text-turned [] [] = refl
text-turned [] (b ∷ y) = refl
text-turned (a ∷ x) [] = refl
text-turned (a ∷ x) (b ∷ y) = λ i. (let e : (a == b) ≡ (b == a) = grind (arith, nat_tests) in e) i
    && text-turned x y i

pub constant-is : (h : List (Symbol Name)) (n : Name) (o : List ℕ) → with_base h (ConSymbol n) o ≡ constant_of h o
constant-is [] n o = refl
constant-is (ConSymbol m ∷ h) n o = (λ i. cond (text-turned o (base m) i) (Some m) (constant-is h n o i))
constant-is (OpSymbol m ∷ h) n o = constant-is h n o
