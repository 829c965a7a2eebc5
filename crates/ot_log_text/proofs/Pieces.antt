-- The texts of types and terms, piece by piece.
use Rattle.std.specs.Prelude.{◌≡◌, ℕ, ◌<◌, List, [], ◌∷◌, ◌++◌, length, map, is_some, codes, None, Some}
use Rattle.std.specs.Global.{Vec}
use Rattle.std.proofs.Common.{refl, sym, ◌∙◌, ap, arith}
use Rattle.ot_logic.specs.Names.{Name, spelled}
use Rattle.ot_logic.specs.Naming.{names}
use Rattle.ot_logic.specs.Trees.{Ty, TyOp, NoTys, MoreTys, Tm, App}
use Rattle.ot_logic.specs.Hol.{as_fun_ty, fun_ty, as_equation, equation}
use Rattle.ot_laws.proofs.Tests.{tells_names}
use Rattle.ot_laws.proofs.Typing.{as_fun_ty-some, as_fun_ty-fun}
use Rattle.ot_laws.proofs.Equations.{as_equation-some, as_equation-equation}
use Rattle.ot_logic.specs.PlainTrees.{tys_of}
use Rattle.ot_log_nodes.specs.Items.{Item, name_at, type_at, types_at}
use Rattle.ot_text.specs.Texts.{name_text, is_function, is_equation, ty_text, spaced_text, tm_text}
use Rattle.ot_text.proofs.TypePieces.{cond-true, cond-false, arrow-pieces}

-- ---- names
pub spelled-name : (n : Name) (cs : List (Vec ℕ)) → map (λ c. c.items) cs ≡ n → 0 < length cs
    → spelled n ≡ name_text n
spelled-name n [] p h = absurd (omega (arith, h))
spelled-name n (c ∷ cs) p h = ap spelled (sym p) ∙ ap name_text p

-- ---- types
pub function-pieces : (t a b : Ty Name) → as_fun_ty names t ≡ Some (a, b)
    → codes "(" ++ ty_text a ++ codes " -> " ++ ty_text b ++ codes ")" ≡ ty_text t
function-pieces t a b p =
    arrow-pieces (ty_text a) (ty_text b)
    ∙ cond-true (is_function names (fun_ty names a b)) _
    (codes "(" ++ name_text names.arrow ++ spaced_text (MoreTys a (MoreTys b NoTys)) ++ codes ")")
    (ap is_some (as_fun_ty-fun names tells_names a b))
    ∙ ap ty_text (sym (as_fun_ty-some names tells_names t a b p))

pub operator-pieces : (ts : List Item) (t : Ty Name) (n : Name) (is : List ℕ) → t ≡ TyOp n (types_at ts is)
    → as_fun_ty names t ≡ None → 0 < length is
    → codes "(" ++ name_text n ++ spaced_text (types_at ts is) ++ codes ")" ≡ ty_text t
operator-pieces ts t n [] p h some = absurd (omega arith)
operator-pieces ts t n (i ∷ is) p h some =
    cond-false (is_function names (TyOp n (types_at ts (i ∷ is)))) _ _ (ap (is_function names) (sym p) ∙ ap is_some h)
    ∙ ap ty_text (sym p)

-- ---- the node of a type, its parts no longer by number
types-row : (ts : List Item) (is : List ℕ) → types_at ts is ≡ tys_of (map (type_at ts) is)
types-row ts [] = refl
types-row ts (i ∷ is) = ap (MoreTys (type_at ts i)) (types-row ts is)

pub operator-form : (ts : List Item) (t : Ty Name) (i : ℕ) (n : Name) (is js : List ℕ)
    → t ≡ TyOp (name_at ts i) (types_at ts is) → n ≡ name_at ts i → js ≡ is → t ≡ TyOp n (tys_of (map (type_at ts) js))
operator-form ts t i n is js p q e = p ∙ (λ k. TyOp (sym q k) (types-row ts is k))
    ∙ ap (λ ks. TyOp n (tys_of (map (type_at ts) ks))) (sym e)

-- ---- terms
pub equation-pieces : (t a b : Tm Name) (ty : Ty Name) → as_equation names t ≡ Some (ty, a, b)
    → codes "(" ++ tm_text a ++ codes " = " ++ tm_text b ++ codes ")" ≡ tm_text t
equation-pieces t a b ty p =
    cond-true (is_equation names (equation names ty a b)) _ _
    (ap is_some (as_equation-equation names tells_names ty a b))
    ∙ ap tm_text (sym (as_equation-some names tells_names t ty a b p))

pub application-pieces : (t f x : Tm Name) → t ≡ App f x → as_equation names t ≡ None
    → codes "(" ++ tm_text f ++ codes " " ++ tm_text x ++ codes ")" ≡ tm_text t
application-pieces t f x p h =
    cond-false (is_equation names (App f x)) _ _ (ap (is_equation names) (sym p) ∙ ap is_some h)
    ∙ ap tm_text (sym p)
