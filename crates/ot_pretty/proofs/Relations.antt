-- Relations between propositions that are written by operator words.
use Rattle.std.specs.Prelude.{◌≡◌, ℕ, ◌<◌, nat_eq, Bool, true, false, ◌&&◌, List}
use Rattle.std.specs.Prelude.{[], ◌∷◌, length, is_some, Option, Some, None}
use Rattle.std.proofs.Common.{refl, sym, ◌∙◌, ap, arith}
use Rattle.ot_logic.specs.Names.{Name}
use Rattle.ot_logic.specs.Naming.{names, numbers, name_of, IsNameTable}
use Rattle.ot_logic.specs.Trees.{Ty, TyVar, TyOp, Tm, App, Variable, Named, NVar, NConst, NApp, NAbs, Symbol}
use Rattle.ot_logic.specs.Hol.{fun_ty, bool_ty, same_ty}
use Rattle.ot_logic.specs.NamedTerms.{nameless_in, at_place, place}
use Rattle.ot_logic.proofs.Line.{IsLettering}
use Rattle.ot_logic.proofs.Naming.{lettering}
use Rattle.ot_laws.proofs.Tests.{tells_names, same_ty-is}
use Rattle.ot_laws.proofs.Typing.{as_fun_ty-fun}
use Rattle.ot_kernel.specs.State.{State, name_at, types_at}
use Rattle.ot_kernel.proofs.Namings.{table_names, name_of-index}
use Rattle.ot_forms.specs.Printing.{is_relation}
use Rattle.ot_text.specs.Texts.{is_function}
use Rattle.ot_pretty.specs.Spines.{is_relation_constant}

and-false : (p : Bool) → (p && false) ≡ false
and-false true = refl
and-false false = refl

and-true-back : (p : Bool) → p ≡ (p && true)
and-true-back true = refl
and-true-back false = refl

-- ---- the type of propositions
pub bool-name : (s : State) → IsNameTable s.names → (n : ℕ) → n < length s.names
    → nat_eq n 1 ≡ names.same (name_at s n) names.bool_name
bool-name s table n h =
    let lettered : IsLettering (name_of s.names) numbers names = lettering s.names (table_names s.names table) in
    lettered.same n 1 ∙ (λ i. names.same (name_of-index s.names table n h i) (lettered.bool_name i))

pub no-variable : (t : Ty Name) (n : Name) → t ≡ TyVar n → false ≡ same_ty names t (bool_ty names)
no-variable t n p = ap (λ u. same_ty names u (bool_ty names)) (sym p)

pub bool-some : (s : State) (t : Ty Name) (n : ℕ) (is : List ℕ) → t ≡ TyOp (name_at s n) (types_at s is)
    → length is ≡ 0 → names.same (name_at s n) names.bool_name ≡ same_ty names t (bool_ty names)
bool-some s t n [] p none = and-true-back (names.same (name_at s n) names.bool_name)
    ∙ ap (λ u. same_ty names u (bool_ty names)) (sym p)
bool-some s t n (i ∷ is) p none = absurd (omega arith)

pub bool-none : (s : State) (t : Ty Name) (n : ℕ) (is : List ℕ) → t ≡ TyOp (name_at s n) (types_at s is)
    → 0 < length is → false ≡ same_ty names t (bool_ty names)
bool-none s t n [] p some = absurd (omega arith)
bool-none s t n (i ∷ is) p some = sym (and-false (names.same (name_at s n) names.bool_name))
    ∙ ap (λ u. same_ty names u (bool_ty names)) (sym p)

-- ---- a type is bool -> (bool -> bool)
function-same : (a b t c d : Ty Name) → t ≡ fun_ty names a b → (same_ty names a c && same_ty names b d)
    ≡ same_ty names t (fun_ty names c d)
function-same a b t c d p = ap (λ e. same_ty names a c && e) (and-true-back (same_ty names b d))
    ∙ ap (λ u. same_ty names u (fun_ty names c d)) (sym p)

pub no-function : (t c d : Ty Name) → is_function names t ≡ false → false ≡ same_ty names t (fun_ty names c d)
no-function t c d h = go (same_ty names t (fun_ty names c d)) refl where
  go : (b : Bool) → same_ty names t (fun_ty names c d) ≡ b → false ≡ b
  go false e = refl
  go true e =
      let same = (same_ty-is names tells_names t (fun_ty names c d)).0 e in
      let yes = ap (is_function names) same ∙ ap is_some (as_fun_ty-fun names tells_names c d) in
      cc

pub not-second : (a b t c d : Ty Name) → t ≡ fun_ty names a b → false ≡ same_ty names b d
    → false ≡ same_ty names t (fun_ty names c d)
not-second a b t c d p h = sym (and-false (same_ty names a c)) ∙ ap (λ e. same_ty names a c && e) h
    ∙ function-same a b t c d p

pub not-range : (a b t c d e : Ty Name) → t ≡ fun_ty names a b → is_function names b ≡ false
    → false ≡ same_ty names t (fun_ty names c (fun_ty names d e))
not-range a b t c d e p h = not-second a b t c (fun_ty names d e) p (no-function b d e h)

-- ---- a term is a relation that is applied to one term
module _ (hidden : List (Symbol Name)) (e : List (Variable Name)) where
  constant-leaf : (v : Variable Name) (o : Option ℕ) (x : Tm Name) → is_relation hidden (App (at_place names v o) x)
      ≡ false
  constant-leaf v None x = refl
  constant-leaf v (Some k) x = refl

  no-constant : (f x : Named Name)
      → ((n : Name) (ty : Ty Name) → f ≡ NConst n ty → is_relation_constant hidden n ty ≡ false)
      → is_relation hidden (App (nameless_in names e f) (nameless_in names e x)) ≡ false
  no-constant (NVar v) x other = constant-leaf v (place names e v) (nameless_in names e x)
  no-constant (NConst n ty) x other = other n ty refl
  no-constant (NApp g y) x other = refl
  no-constant (NAbs v b) x other = refl

  pub no-head : (t f x : Named Name) → t ≡ NApp f x
      → ((n : Name) (ty : Ty Name) → f ≡ NConst n ty → is_relation_constant hidden n ty ≡ false)
      → is_relation hidden (nameless_in names e t) ≡ false
  no-head t f x p other = ap (λ u. is_relation hidden (nameless_in names e u)) p ∙ no-constant f x other
