-- The texts of types, piece by piece.
use Rattle.std.specs.Prelude.{◌≡◌, ℕ, zero, suc, ◌+◌, ◌<◌, ◌≤◌, true, false, cond, List}
use Rattle.std.specs.Prelude.{[], ◌∷◌, ◌++◌, map, length, is_some, Some, None, codes, Bool, nat_eq}
use Rattle.std.proofs.Common.{refl, sym, ◌∙◌, ap, arith, append_assoc, append-nil, get_or}
use Rattle.std.proofs.lemmas.Bool.Decides.{nat_tests}
use Rattle.ot_logic.specs.Names.{Name, same_name}
use Rattle.ot_logic.specs.Naming.{names}
use Rattle.ot_logic.specs.Trees.{Ty, TyOp, NoTys, MoreTys}
use Rattle.ot_logic.specs.Hol.{depth_ty, depth_all}
use Rattle.ot_logic.specs.PlainTrees.{tys_of}
use Rattle.ot_text.specs.Texts.{name_text, ty_text, spaced_text, is_function}
use Rattle.ot_text.specs.Pages.{Printed, IsPut}
use Rattle.ot_text.proofs.Putting.{Puts, puts-more, same-text}

pub cond-true : {A : Type 0} (e : Bool) (x y : A) → e ≡ true → x ≡ cond e x y
cond-true true x y p = refl
cond-true false x y p = cc

pub cond-false : {A : Type 0} (e : Bool) (x y : A) → e ≡ false → y ≡ cond e x y
cond-false true x y p = cc
cond-false false x y p = refl

pub eq-false : (a b : ℕ) → (a ≡ b → ⊥) → nat_eq a b ≡ false
eq-false a b h = grind (arith, nat_tests)

-- ---- function types
-- two arguments make a function type where the name is `->`
arrow-pair : (n : Name) (a b : Ty Name) → is_function names (TyOp n (MoreTys a (MoreTys b NoTys)))
    ≡ same_name n (codes "->" ∷ [])
arrow-pair n a b = go (same_name n (codes "->" ∷ [])) where
  go : (e : Bool) → is_some {T = Ty Name × Ty Name} (cond e (Some (a, b)) None) ≡ e
  go true = refl
  go false = refl

pub arrow-two : (n : Name) (ts : List (Ty Name)) → length ts ≡ 2
    → same_name n (codes "->" ∷ []) ≡ is_function names (TyOp n (tys_of ts))
arrow-two n [] h = absurd (omega arith)
arrow-two n (a ∷ []) h = absurd (omega arith)
arrow-two n (a ∷ b ∷ []) h = sym (arrow-pair n a b)
arrow-two n (a ∷ b ∷ c ∷ ts) h = absurd (omega arith)

pub arrow-none : (n : Name) (ts : List (Ty Name)) → (length ts ≡ 2 → ⊥)
    → false ≡ is_function names (TyOp n (tys_of ts))
arrow-none n [] h = refl
arrow-none n (a ∷ []) h = refl
arrow-none n (a ∷ b ∷ []) h = absurd (h refl)
arrow-none n (a ∷ b ∷ c ∷ ts) h = refl

pub arrow-pieces : (x y : List ℕ) → codes "(" ++ x ++ codes " -> " ++ y ++ codes ")"
    ≡ codes "(" ++ x ++ codes " ->" ++ (codes " " ++ y ++ []) ++ codes ")"
arrow-pieces x y =
    ap (λ z. z ++ codes ")") (
    append_assoc (codes "(" ++ x) (codes " -> ") y
    ∙ ap (λ z. codes "(" ++ x ++ (codes " -> " ++ z)) (sym (append-nil y))
    ∙ sym (append_assoc (codes "(" ++ x) (codes " ->") (codes " " ++ y ++ []))
    )

-- ---- other operators
pub operator-pieces : {X : Type 0} (at : X → Ty Name) (n : Name) (xs : List X)
    → is_function names (TyOp n (tys_of (map at xs))) ≡ false → 0 < length xs
    → codes "(" ++ name_text n ++ spaced_text (tys_of (map at xs)) ++ codes ")" ≡ ty_text (TyOp n (tys_of (map at xs)))
operator-pieces at n [] h some = absurd (omega arith)
operator-pieces at n (x ∷ xs) h some = cond-false (is_function names (TyOp n (tys_of (map at (x ∷ xs))))) _ _ h

-- ---- types in a row
pub spaced-more : {X : Type 0} (at : X → Ty Name) (xs : List X) (k : ℕ) (x : X) (s0 s t : Printed) → k < length xs
    → x ≡ get_or xs k x → Puts (λ ys. spaced_text (tys_of (map at ys))) xs k s0 s
    → IsPut (codes " " ++ ty_text (at x)) s t → Puts (λ ys. spaced_text (tys_of (map at ys))) xs (k + 1) s0 t
spaced-more at xs k x s0 s t h e before put =
    puts-more (λ ys. spaced_text (tys_of (map at ys))) (λ y. codes " " ++ ty_text (at y)) (λ y ys. refl) xs k x s0 s t
    h before (same-text (ap (λ y. codes " " ++ ty_text (at y)) e) put)

-- an argument is nested less deep than the whole
pub argument-depth : {X : Type 0} (at : X → Ty Name) (xs : List X) (k : ℕ) (x : X) → k < length xs → x ≡ get_or xs k x
    → depth_ty names (at x) ≤ depth_all names (tys_of (map at xs))
argument-depth at [] k x h p = absurd (omega arith)
argument-depth at (y ∷ ys) zero x h p = let d = ap (λ z. depth_ty names (at z)) p in omega (arith, d)
argument-depth at (y ∷ ys) (suc k) x h p = omega (arith, argument-depth at ys k x (omega arith) p)
