-- The texts of plain trees, piece by piece.
use Rattle.std.specs.Prelude.{◌≡◌, ℕ, suc, ◌+◌, ◌<◌, ◌&&◌, Bool, true, false, cond, List}
use Rattle.std.specs.Prelude.{[], ◌∷◌, ◌++◌, map, length, is_some, Some, None, codes, nat_eq}
use Rattle.std.proofs.Common.{refl, sym, ◌∙◌, ap, arith, append_assoc, append-nil, get_or}
use Rattle.std.proofs.lemmas.Bool.Decides.{nat_tests}
use Rattle.std.proofs.lemmas.List.{length-map}
use Rattle.ot_logic.specs.Names.{Name, spelled, same_name, same_name-Decides}
use Rattle.ot_logic.specs.Naming.{names}
use Rattle.ot_logic.specs.Trees.{Ty, TyOp, NoTys, MoreTys, Tm, App}
use Rattle.ot_logic.specs.Hol.{same_ty, same_tys, fun_ty, bool_ty}
use Rattle.ot_laws.proofs.Tests.{tells_names, same_ty-is}
use Rattle.ot_logic.specs.declared.tree.Ty as types
use Rattle.ot_text.specs.Texts.{name_text, ty_text, spaced_text, tm_text, argument_text, is_function, is_equation}
use Rattle.ot_text.proofs.TypePieces.{cond-true, cond-false, arrow-two}
use Rattle.ot_logic.specs.PlainTrees.{tys_of}
use Rattle.ot_parse.specs.Plain.{equality_test, front_text}

-- ---- types
-- a list of two
pub two : {X : Type 0} (xs : List X) (x y : X) → length xs ≡ 2 → x ≡ get_or xs 0 x → y ≡ get_or xs 1 y
    → xs ≡ x ∷ y ∷ []
two [] x y h p q = absurd (omega arith)
two (a ∷ []) x y h p q = absurd (omega arith)
two (a ∷ b ∷ []) x y h p q = λ i. sym p i ∷ sym q i ∷ []
two (a ∷ b ∷ c ∷ xs) x y h p q = absurd (omega arith)

-- the function type of these two
pub arrow-is : {X : Type 0} (f : X → Ty Name) (n : Name) (xs : List X) (x y : X)
    → is_function names (TyOp n (tys_of (map f xs))) ≡ true → length xs ≡ 2 → x ≡ get_or xs 0 x → y ≡ get_or xs 1 y
    → TyOp n (tys_of (map f xs)) ≡ fun_ty names (f x) (f y)
arrow-is f n xs x y k h p q =
    let is_arrow = (same_name-Decides n names.arrow).0 (arrow-two n (map f xs) (length-map xs f ∙ h) ∙ k) in
    λ i. TyOp (is_arrow i) (tys_of (map f (two xs x y h p q i)))

-- ---- terms
-- what stands before the argument, and the argument
pub application-pieces : (f x : Tm Name) → codes "(" ++ front_text f x ++ tm_text x ++ codes ")" ≡ tm_text (App f x)
application-pieces f x = go (is_equation names (App f x)) where
  go : (e : Bool)
      → codes "(" ++ cond e (argument_text f ++ codes " = ") (tm_text f ++ codes " ") ++ tm_text x ++ codes ")"
      ≡ cond e (codes "(" ++ argument_text f ++ codes " = " ++ tm_text x ++ codes ")")
      (codes "(" ++ tm_text f ++ codes " " ++ tm_text x ++ codes ")")
  go true = refl
  go false = refl

pub front-function : (f x : Tm Name) → is_equation names (App f x) ≡ false → tm_text f ++ codes " " ≡ front_text f x
front-function f x h = cond-false (is_equation names (App f x)) _ _ h

pub front-side : (f x : Tm Name) → is_equation names (App f x) ≡ true → argument_text f ++ codes " = "
    ≡ front_text f x
front-side f x h = cond-true (is_equation names (App f x)) _ _ h

and-false : (e : Bool) → false ≡ (e && false)
and-false true = refl
and-false false = refl

-- ---- types that are equality's
-- lists of different lengths
pub tys-lengths : {X : Type 0} (f : X → Ty Name) (xs ys : List X) → (length xs ≡ length ys → ⊥)
    → false ≡ same_tys names (tys_of (map f xs)) (tys_of (map f ys))
tys-lengths f [] [] h = absurd (h refl)
tys-lengths f [] (y ∷ ys) h = refl
tys-lengths f (x ∷ xs) [] h = refl
tys-lengths f (x ∷ xs) (y ∷ ys) h = and-false (same_ty names (f x) (f y))
    ∙ ap (λ e. same_ty names (f x) (f y) && e) (tys-lengths f xs ys (λ e. h (ap (λ n. suc n) e)))

itself : (t : Ty Name) → same_ty names t t ≡ true
itself t = (same_ty-is names tells_names t t).1 refl

-- a function type with this result
with-result : (a r : Ty Name) → equality_test (fun_ty names a r)
    ≡ (same_ty names r (fun_ty names a (bool_ty names)) && true)
with-result a r =
    λ i. same_name-itself i && (itself a i && (same_ty names r (fun_ty names a (bool_ty names)) && true)) where
      same_name-itself : same_name names.arrow names.arrow ≡ true
      same_name-itself = (same_name-Decides names.arrow names.arrow).1 refl

and-true : (e : Bool) → (e && true) ≡ e
and-true true = refl
and-true false = refl

both-functions : (t a r b v : Ty Name) → t ≡ fun_ty names a r → r ≡ fun_ty names b v
    → equality_test t ≡ (same_ty names b a && (same_ty names v (bool_ty names) && true))
both-functions t a r b v p q =
    ap equality_test p ∙ with-result a r ∙ and-true (same_ty names r (fun_ty names a (bool_ty names)))
    ∙ ap (λ z. same_ty names z (fun_ty names a (bool_ty names))) q
    ∙ (λ i. (same_name-Decides names.arrow names.arrow).1 refl i
    && (same_ty names b a && (same_ty names v (bool_ty names) && true)))

pub bool-result : (t a r b v : Ty Name) → t ≡ fun_ty names a r → r ≡ fun_ty names b v → same_ty names b a ≡ true
    → same_ty names v (bool_ty names) ≡ equality_test t
bool-result t a r b v p q h = sym (and-true (same_ty names v (bool_ty names)))
    ∙ ap (λ e. e && (same_ty names v (bool_ty names) && true)) (sym h) ∙ sym (both-functions t a r b v p q)

-- ---- the type of propositions
pub bool-name : (n : Name) → same_name n (codes "bool" ∷ []) ≡ same_ty names (TyOp n NoTys) (bool_ty names)
bool-name n = sym (and-true (same_name n (codes "bool" ∷ [])))

pub bool-some : {X : Type 0} (f : X → Ty Name) (n : Name) (xs : List X) → length xs ≡ 0
    → same_name n (codes "bool" ∷ []) ≡ same_ty names (TyOp n (tys_of (map f xs))) (bool_ty names)
bool-some f n [] h = bool-name n
bool-some f n (x ∷ xs) h = absurd (omega arith)

pub bool-none : {X : Type 0} (f : X → Ty Name) (n : Name) (xs : List X) → 0 < length xs
    → false ≡ same_ty names (TyOp n (tys_of (map f xs))) (bool_ty names)
bool-none f n [] h = absurd (omega arith)
bool-none f n (x ∷ xs) h = and-false (same_name n (codes "bool" ∷ []))
