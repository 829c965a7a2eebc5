-- The parts of function types and of equations, read from a kernel's tables.
use Rattle.std.specs.Prelude.{is_some, ◌≢◌}
use Rattle.std.proofs.Common.{◌≡◌, ℕ, ◌<◌, false, List, length, Option, Some, None}
use Rattle.std.proofs.Common.{refl, sym, ap, ◌∙◌, subst, arith}
use Rattle.ot_logic.specs.Names.{Name}
use Rattle.ot_logic.specs.Trees.{Alphabet, Ty, TyOp, NoTys, MoreTys, Variable}
use Rattle.ot_logic.specs.Trees.{Tm, Con, App, Named, NVar, NConst, NApp, NAbs}
use Rattle.ot_logic.specs.Hol.{fun_ty, bool_ty, as_fun_ty, as_equation, equation}
use Rattle.ot_logic.specs.NamedTerms.{nameless_in, at_place, place}
use Rattle.ot_logic.specs.Renamed.{map_ty, map_named}
use Rattle.ot_logic.specs.Naming.{names, numbers, name_of, IsNameTable}
use Rattle.ot_logic.proofs.Line.{IsLettering, letters, over_ty}
use Rattle.ot_logic.proofs.Naming.{naming}
use Rattle.ot_laws.proofs.Tests.{Tells, tells_numbers}
use Rattle.ot_laws.proofs.Typing.{as_fun_ty-some}
use Rattle.ot_laws.proofs.Equations.{as_equation-some}
use Rattle.ot_type.specs.TypeTable as types
use Rattle.ot_term.specs.Term.{TermTable}
use Rattle.ot_term.specs.TermTable as terms
use Rattle.ot_term.specs.Equality.{named_equation, equality_ty}
use Rattle.ot_kernel.specs.State.{State, type_at, named_at}
use Rattle.ot_kernel.specs.Spelled.{IsSpelled}
use Rattle.ot_kernel.proofs.Carried.{carry-term}
use Rattle.ot_view.proofs.Spelled.{type_is, type_inside, term_is, term_inside, lettered}
use Rattle.ot_text.specs.Texts.{is_function, is_equation}
use Rattle.ot_print.specs.Equations.{equation_of}

-- ---- over any alphabet

-- a type that is no function type
no-function : {N : Type 0} (alphabet : Alphabet N) → Tells alphabet → (t : Ty N)
    → ((a b : Ty N) → t ≢ fun_ty alphabet a b) → is_function alphabet t ≡ false
no-function {N} alphabet tells t other = go (as_fun_ty alphabet t) refl
  where
    go : (o : Option (Ty N × Ty N)) → as_fun_ty alphabet t ≡ o → is_some o ≡ false
    go (Some p) e = absurd (other p.0 p.1 (as_fun_ty-some alphabet tells t p.0 p.1 e))
    go None e = refl

-- a = b as a named term
abbrev named_equation_of : {N : Type 0} → Alphabet N → Ty N → Named N → Named N → Named N
named_equation_of alphabet ty a b =
    NApp (NApp (NConst alphabet.equals (fun_ty alphabet ty (fun_ty alphabet ty (bool_ty alphabet)))) a) b

module _ {N : Type 0} (alphabet : Alphabet N) where
  leaf-no_app : (v : Variable N) (o : Option ℕ) (f x : Tm N) → at_place alphabet v o ≡ App f x → ⊥
  leaf-no_app v None f x p = cc
  leaf-no_app v (Some k) f x p = cc

  leaf-no_constant : (v : Variable N) (o : Option ℕ) (n : N) (u : Ty N) → at_place alphabet v o ≡ Con n u → ⊥
  leaf-no_constant v None n u p = cc
  leaf-no_constant v (Some k) n u p = cc

  -- what a nameless form says of the named term
  app-named : (e : List (Variable N)) (t : Named N) (f x : Tm N) → nameless_in alphabet e t ≡ App f x
      → (g y : Named N) × (t ≡ NApp g y) × (nameless_in alphabet e g ≡ f)
  app-named e (NApp g y) f x p = (g, y, refl, cc)
  app-named e (NVar v) f x p = absurd (leaf-no_app v (place alphabet e v) f x p)
  app-named e (NConst n u) f x p = cc
  app-named e (NAbs v b) f x p = cc

  constant-named : (e : List (Variable N)) (t : Named N) (n : N) (u : Ty N) → nameless_in alphabet e t ≡ Con n u
      → t ≡ NConst n u
  constant-named e (NConst m w) n u p = cc
  constant-named e (NVar v) n u p = absurd (leaf-no_constant v (place alphabet e v) n u p)
  constant-named e (NApp g y) n u p = cc
  constant-named e (NAbs v b) n u p = cc

  equation-named : (e : List (Variable N)) (t : Named N) (ty : Ty N) (a b : Tm N) → nameless_in alphabet e t
      ≡ equation alphabet ty a b → (c d : Named N) × (t ≡ named_equation_of alphabet ty c d)
  equation-named e t ty a b p =
      let whole = app-named e t _ b p in
      let left = app-named e whole.0 _ a whole.3 in
      let head = constant-named e left.0 _ _ left.3 in
      (left.1, whole.1, whole.2 ∙ ap (λ f. NApp f whole.1) (left.2 ∙ ap (λ f. NApp f left.1) head))

-- the nameless form of what is no equation is none, under any binders
no-equation : {N : Type 0} (alphabet : Alphabet N) → Tells alphabet → (t : Named N)
    → ((ty : Ty N) (a b : Named N) → t ≢ named_equation_of alphabet ty a b)
    → (e : List (Variable N)) → is_equation alphabet (nameless_in alphabet e t) ≡ false
no-equation {N} alphabet tells t other e = go (as_equation alphabet (nameless_in alphabet e t)) refl
  where
    go : (o : Option (Ty N × Tm N × Tm N)) → as_equation alphabet (nameless_in alphabet e t) ≡ o → is_some o ≡ false
    go (Some p) q =
        let w = equation-named alphabet e t p.0 p.1 p.2
        (as_equation-some alphabet tells (nameless_in alphabet e t) p.0 p.1 p.2 q) in
        absurd (other p.0 w.0 w.1 w.2)
    go None q = refl

-- ---- the numbers of a state
module _ (s : State) (t : TermTable) (k : IsSpelled s t) (table : IsNameTable s.names) where
  abbrev f : ℕ → Name
  f = name_of s.names

  abbrev letter : IsLettering f numbers names
  letter = lettered s t k table

  -- ---- types
  type_of : (i : ℕ) → i < length s.types → map_ty f (types.type_at t.types i) ≡ type_at s i
  type_of i h = type_is s t k table i (type_inside s t k table i h)

  pub function-none : (id : ℕ) → id < length s.types → ((a b : Ty ℕ) → types.type_at t.types id ≢ fun_ty numbers a b)
      → is_function names (type_at s id) ≡ false
  function-none id h other =
      ap (is_function names) (sym (type_of id h))
      ∙ sym (λ i. is_function (letters (naming s.names) numbers names letter i)
      (over_ty (naming s.names) (types.type_at t.types id) i))
      ∙ no-function numbers tells_numbers (types.type_at t.types id) other

  fun_ty-map : (a b : Ty ℕ) → map_ty f (fun_ty numbers a b) ≡ fun_ty names (map_ty f a) (map_ty f b)
  fun_ty-map a b = ap (λ n. TyOp n (MoreTys (map_ty f a) (MoreTys (map_ty f b) NoTys))) letter.arrow

  pub function-parts : (id a b : ℕ) → id < length s.types → types.type_at t.types id
      ≡ fun_ty numbers (types.type_at t.types a) (types.type_at t.types b) → a < id → b < id
      → type_at s id ≡ fun_ty names (type_at s a) (type_at s b)
  function-parts id a b h p g l =
      let x = type_of a (omega arith) in
      let y = type_of b (omega arith) in
      sym (type_of id h) ∙ ap (map_ty f) p ∙ fun_ty-map _ _ ∙ (λ j. fun_ty names (x j) (y j))

  -- ---- equations
  term_of : (i : ℕ) → i < length s.terms → map_named f (terms.term_at t.terms i) ≡ named_at s.terms i
  term_of i h = term_is s t k table i (term_inside s t k table i h)

  abbrev IsNone : (L : Type 0) → Alphabet L → Named L → Type 0
  IsNone L a u = (e : List (Variable L)) → is_equation a (nameless_in a e u) ≡ false

  pub equation-none : (id : ℕ) → id < length s.terms
      → ((ty : Ty ℕ) (a b : Named ℕ) → terms.term_at t.terms id ≢ named_equation ty a b) → (e : List (Variable Name))
      → is_equation names (nameless_in names e (named_at s.terms id)) ≡ false
  equation-none id h other =
      subst (IsNone Name names) (term_of id h)
      (carry-term (naming s.names) numbers names letter IsNone (terms.term_at t.terms id)
      (no-equation numbers tells_numbers (terms.term_at t.terms id) other))

  equation-map : (ty : Ty ℕ) (a b : Named ℕ) → map_named f (named_equation ty a b)
      ≡ equation_of (map_ty f ty) (map_named f a) (map_named f b)
  equation-map ty a b =
      let truth : map_ty f (bool_ty numbers) ≡ bool_ty names = ap (λ n. TyOp n NoTys) letter.bool_name in
      let test : map_ty f (fun_ty numbers ty (bool_ty numbers)) ≡ fun_ty names (map_ty f ty) (bool_ty names) =
      fun_ty-map ty (bool_ty numbers) ∙ ap (fun_ty names (map_ty f ty)) truth in
      let whole : map_ty f (equality_ty ty) ≡ fun_ty names (map_ty f ty)
      (fun_ty names (map_ty f ty) (bool_ty names)) =
      fun_ty-map ty (fun_ty numbers ty (bool_ty numbers)) ∙ ap (fun_ty names (map_ty f ty)) test in
      λ j. NApp (NApp (NConst (letter.equals j) (whole j)) (map_named f a)) (map_named f b)

  pub equation-sides : (id a b : ℕ) → id < length s.terms
      → (ty : Ty ℕ)
      × (terms.term_at t.terms id ≡ named_equation ty (terms.term_at t.terms a) (terms.term_at t.terms b)) → a < id
      → b < id
      → (ty : Ty Name) × (named_at s.terms id ≡ equation_of ty (named_at s.terms a) (named_at s.terms b))
  equation-sides id a b h e g l =
      let x = term_of a (omega arith) in
      let y = term_of b (omega arith) in (
        map_ty f e.0,
        sym (term_of id h) ∙ ap (map_named f) e.1 ∙ equation-map e.0 _ _
            ∙ (λ j. equation_of (map_ty f e.0) (x j) (y j)),
      )
