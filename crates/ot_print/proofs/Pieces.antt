-- The texts of types and terms, piece by piece.
use Rattle.std.specs.Prelude.{◌≡◌, ℕ, false, List, [], ◌∷◌, ◌++◌, map, is_some, codes, slice_get, Some}
use Rattle.std.proofs.Common.{refl, sym, ◌∙◌, ap}
use Rattle.std.proofs.lemmas.Option.{get_or_from_slice_get}
use Rattle.ot_logic.specs.Names.{Name}
use Rattle.ot_logic.specs.Naming.{names}
use Rattle.ot_logic.specs.Trees.{Ty, TyOp, MoreTys, App, Variable, Named, NApp}
use Rattle.ot_logic.specs.Hol.{equation}
use Rattle.ot_logic.specs.NamedTerms.{nameless_in}
use Rattle.ot_laws.proofs.Tests.{tells_names}
use Rattle.ot_laws.proofs.Equations.{as_equation-equation}
use Rattle.ot_logic.specs.PlainTrees.{tys_of}
use Rattle.ot_kernel.specs.State.{State, name_at, type_at, types_at}
use Rattle.ot_text.specs.Texts.{is_equation, tm_text}
use Rattle.ot_print.specs.Equations.{equation_of}
use Rattle.ot_text.proofs.TypePieces.{cond-true, cond-false}

-- ---- the node of a type, its parts no longer by number
types-row : (s : State) (is : List ℕ) → types_at s is ≡ tys_of (map (type_at s) is)
types-row s [] = refl
types-row s (i ∷ is) = ap (MoreTys (type_at s i)) (types-row s is)

name-of : (s : State) (i : ℕ) (n : Name) → slice_get s.names i ≡ Some n → name_at s i ≡ n
name-of s i n p = get_or_from_slice_get s.names i n [] p

pub operator-form : (s : State) (t : Ty Name) (i : ℕ) (n : Name) (is js : List ℕ)
    → t ≡ TyOp (name_at s i) (types_at s is) → slice_get s.names i ≡ Some n → js ≡ is
    → t ≡ TyOp n (tys_of (map (type_at s) js))
operator-form s t i n is js p q e = p ∙ (λ k. TyOp (name-of s i n q k) (types-row s is k))
    ∙ ap (λ ks. TyOp n (tys_of (map (type_at s) ks))) (sym e)

-- ---- terms
pub equation-pieces : (e : List (Variable Name)) (t : Named Name) (ty : Ty Name) (a b : Named Name)
    → t ≡ equation_of ty a b
    → codes "(" ++ tm_text (nameless_in names e a) ++ codes " = " ++ tm_text (nameless_in names e b) ++ codes ")"
    ≡ tm_text (nameless_in names e t)
equation-pieces e t ty a b p =
    cond-true (is_equation names (equation names ty (nameless_in names e a) (nameless_in names e b))) _ _
    (ap is_some (as_equation-equation names tells_names ty (nameless_in names e a) (nameless_in names e b)))
    ∙ ap (λ u. tm_text (nameless_in names e u)) (sym p)

pub application-pieces : (e : List (Variable Name)) (t f x : Named Name) → t ≡ NApp f x
    → is_equation names (nameless_in names e t) ≡ false
    → codes "(" ++ tm_text (nameless_in names e f) ++ codes " " ++ tm_text (nameless_in names e x) ++ codes ")"
    ≡ tm_text (nameless_in names e t)
application-pieces e t f x p h =
    cond-false (is_equation names (App (nameless_in names e f) (nameless_in names e x))) _ _
    (ap (λ u. is_equation names (nameless_in names e u)) (sym p) ∙ h)
    ∙ ap (λ u. tm_text (nameless_in names e u)) (sym p)
