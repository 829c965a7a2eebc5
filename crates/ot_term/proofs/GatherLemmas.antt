-- The type variables and the symbols of a term, gathered from its subterms and the types in them.
use Rattle.std.specs.List.{flat_map}
use Rattle.std.proofs.Common.{◌≡◌, ℕ, ◌+◌, ◌<◌, ◌⊎◌, inl, inr, List, [], ◌∷◌, ◌++◌, length}
use Rattle.std.proofs.Common.{map, take, get_or, Some, refl, sym, ap, subst, ◌∙◌, arith}
use Rattle.std.proofs.lemmas.List.{flat_map_more}
use Rattle.ot_logic.specs.Lists.{IsMember, IsSameSet, AreDistinct}
use Rattle.ot_logic.specs.Naming.{numbers}
use Rattle.ot_logic.specs.Hol.{vars_ty, vars_all, vars_tm, ops_ty, ops_all, symbols_ty, symbols_tm}
use Rattle.ot_logic.specs.NamedTerms.{nameless}
use Rattle.ot_logic.specs.Table.{IsInjective}
use Rattle.ot_logic.specs.Trees.{Ty, Tys, TyVar, TyOp, NoTys, MoreTys, Named, NVar, NConst}
use Rattle.ot_logic.specs.Trees.{NApp, NAbs, Symbol as SymbolTree, ConSymbol, OpSymbol}
use Rattle.ot_logic.proofs.TableLemmas.{get_or-IsInjective}
use Rattle.ot_type.specs.TypeTable.{type_at}
use Rattle.ot_type.specs.Subtypes.{IsSubtype, IsInside, IsFalling}
use Rattle.ot_laws.proofs.Sets.{same_set-then, same_set-append, same_set-self, same_set-both_ways}
use Rattle.ot_laws.proofs.Symbols.{vars-abs, symbols-abs}
use Rattle.ot_laws.proofs.Tests.{tells_numbers}
use Rattle.ot_term.specs.Term.{TermTable}
use Rattle.ot_term.specs.TermTable.{term_at, term_of}
use Rattle.ot_term.specs.Walk.{AreFound}
use Rattle.ot_term.specs.Gather.{IsSubterm, own_type, IsMentioned}
use Rattle.ot_term.specs.Symbols.{symbol_of, constant_of, operator_of, variable_name}
use Rattle.ot_term.specs.declared.term.Symbol.{Symbol}
use Rattle.ot_term.specs.declared.term.SymbolKind.TheVariants.{Con}
use Rattle.ot_term.specs.declared.term.TermNode.{TermNode}
use Rattle.ot_term.specs.declared.term.TermNode.TheVariants.{Var, Const, App, Abs}
use Rattle.ot_term.proofs.Gathering.{take_item}
use Rattle.ot_logic.proofs.Members.{IsMember-cases, IsMember-left, IsMember-map, IsMember-map_back, IsMember-right}

-- ---- a loop that adds what each number gives
module _ {A : Type 0} (f : ℕ → List A) (old : List A) (ids : List ℕ) (i x : ℕ) (within : i < length ids)
    (item : x ≡ get_or ids i x) where
  pub flat_next : (now new more : List A) → now ≡ old ++ flat_map f (take i ids) → f x ≡ more → new ≡ now ++ more
      → new ≡ old ++ flat_map f (take (i + 1) ids)
  flat_next now new more before gives after =
      after ∙ (λ j. before j ++ sym gives j) ∙ flat_map_more f old (take i ids) x
      ∙ ap (λ l. old ++ flat_map f l) (sym (take_item ids i x within item))

-- a node that is no constant
pub no_constant : (tys : List (Ty ℕ)) (ts : List (Named ℕ)) (n : TermNode) → ((m t : ℕ) → n ≡ Const m t → ⊥)
    → constant_of (term_of tys ts n) ≡ []
no_constant tys ts (Var v) h = refl
no_constant tys ts (Const m t) h = absurd (h m t refl)
no_constant tys ts (App f x) h = refl
no_constant tys ts (Abs v b) h = refl

-- ---- members of what the numbers give
module _ {A : Type 0} (f : ℕ → List A) where
  pub flat_to : (y : A) (xs : List ℕ) → IsMember y (flat_map f xs) → (x : ℕ) × IsMember x xs × IsMember y (f x)
  flat_to y [] h = absurd h
  flat_to y (x ∷ xs) h = elim (IsMember-cases y (f x) (flat_map f xs) h)
      [ inl a ↦ (x, inl refl, a) | inr b ↦ let r = flat_to y xs b in (r.0, inr r.1, r.2) ]

  pub flat_from : (y : A) (x : ℕ) (xs : List ℕ) → IsMember x xs → IsMember y (f x) → IsMember y (flat_map f xs)
  flat_from y x [] m h = absurd m
  flat_from y x (z ∷ xs) (inl e) h = IsMember-left y (f z) (flat_map f xs) (subst (λ z. IsMember y (f z)) (sym e) h)
  flat_from y x (z ∷ xs) (inr m) h = IsMember-right y (f z) (flat_map f xs) (flat_from y x xs m h)

-- ---- what is gathered from a term: from its types, and from the names of its constants
module _ {A : Type 0} (of_type : Ty ℕ → List A) (of_constant : ℕ → List A) where
  abbrev gathered : Named ℕ → List A
  gathered (NVar v) = of_type v.ty
  gathered (NConst n t) = of_constant n ++ of_type t
  gathered (NApp f x) = gathered f ++ gathered x
  gathered (NAbs v b) = of_type v.ty ++ gathered b

  -- a member comes from the own type of a subterm, or from a constant among the subterms
  abbrev FromType : Named ℕ → A → Type 0
  FromType t y = (w : Named ℕ) × (ty : Ty ℕ) × IsSubterm w t × (own_type w ≡ Some ty) × IsMember y (of_type ty)

  abbrev FromConstant : Named ℕ → A → Type 0
  FromConstant t y = (n : ℕ) × (ty : Ty ℕ) × IsSubterm (NConst n ty) t × IsMember y (of_constant n)

  gathered_to : (t : Named ℕ) (y : A) → IsMember y (gathered t) → FromType t y ⊎ FromConstant t y
  gathered_to (NVar v) y h = inl (NVar v, v.ty, refl, refl, h)
  gathered_to (NConst n ty) y h = elim (IsMember-cases y (of_constant n) (of_type ty) h)
      [ inl a ↦ inr (n, ty, refl, a) | inr b ↦ inl (NConst n ty, ty, refl, refl, b) ]
  gathered_to (NApp f x) y h = elim (IsMember-cases y (gathered f) (gathered x) h) [
    | inl a ↦ elim (gathered_to f y a)
        [ inl p ↦ inl (p.0, p.1, inr (inl p.2), p.3, p.4) | inr p ↦ inr (p.0, p.1, inr (inl p.2), p.3) ]
    | inr b ↦ elim (gathered_to x y b)
        [ inl p ↦ inl (p.0, p.1, inr (inr p.2), p.3, p.4) | inr p ↦ inr (p.0, p.1, inr (inr p.2), p.3) ]
  ]
  gathered_to (NAbs v b) y h = elim (IsMember-cases y (of_type v.ty) (gathered b) h) [
    | inl a ↦ inl (NAbs v b, v.ty, inl refl, refl, a)
    | inr c ↦
        elim (gathered_to b y c) [ inl p ↦ inl (p.0, p.1, inr p.2, p.3, p.4) | inr p ↦ inr (p.0, p.1, inr p.2, p.3) ]
  ]

  -- what the root gives
  root_type : (t : Named ℕ) (ty : Ty ℕ) (y : A) → own_type t ≡ Some ty → IsMember y (of_type ty)
      → IsMember y (gathered t)
  root_type (NVar v) ty y e h = let same : v.ty ≡ ty = cc in subst (λ u. IsMember y (of_type u)) (sym same) h
  root_type (NConst n t) ty y e h = let same : t ≡ ty = cc in
      IsMember-right y (of_constant n) (of_type t) (subst (λ u. IsMember y (of_type u)) (sym same) h)
  root_type (NApp f x) ty y e h = cc
  root_type (NAbs v b) ty y e h = let same : v.ty ≡ ty = cc in
      IsMember-left y (of_type v.ty) (gathered b) (subst (λ u. IsMember y (of_type u)) (sym same) h)

  -- and what a subterm gives
  gathered_up : (t w : Named ℕ) (y : A) → IsSubterm w t → IsMember y (gathered w) → IsMember y (gathered t)
  gathered_up (NVar v) w y s h = subst (λ t. IsMember y (gathered t)) s h
  gathered_up (NConst n ty) w y s h = subst (λ t. IsMember y (gathered t)) s h
  gathered_up (NApp f x) w y (inl s) h = subst (λ t. IsMember y (gathered t)) s h
  gathered_up (NApp f x) w y (inr (inl s)) h = IsMember-left y (gathered f) (gathered x) (gathered_up f w y s h)
  gathered_up (NApp f x) w y (inr (inr s)) h = IsMember-right y (gathered f) (gathered x) (gathered_up x w y s h)
  gathered_up (NAbs v b) w y (inl s) h = subst (λ t. IsMember y (gathered t)) s h
  gathered_up (NAbs v b) w y (inr s) h = IsMember-right y (of_type v.ty) (gathered b) (gathered_up b w y s h)

  gathered_from : (t : Named ℕ) (y : A) → FromType t y ⊎ FromConstant t y → IsMember y (gathered t)
  gathered_from t y (inl p) = gathered_up t p.0 y p.2 (root_type p.0 p.1 y p.3 p.4)
  gathered_from t y (inr p) =
      gathered_up t (NConst p.0 p.1) y p.2 (IsMember-left y (of_constant p.0) (of_type p.1) p.3)

-- ---- the definitions gather so
pub vars_gathered : (t : Named ℕ)
    → IsSameSet (vars_tm numbers (nameless numbers t)) (gathered (vars_ty numbers) (λ n. []) t)
vars_gathered (NVar v) = same_set-self (vars_ty numbers v.ty)
vars_gathered (NConst n t) = same_set-self (vars_ty numbers t)
vars_gathered (NApp f x) = same_set-append (vars_gathered f) (vars_gathered x)
vars_gathered (NAbs v b) = same_set-then (vars-abs numbers tells_numbers v b)
    (same_set-append (same_set-self (vars_ty numbers v.ty)) (vars_gathered b))

pub symbols_gathered : (t : Named ℕ)
    → IsSameSet (symbols_tm numbers (nameless numbers t)) (gathered (symbols_ty numbers) (λ n. ConSymbol n ∷ []) t)
symbols_gathered (NVar v) = same_set-self (symbols_ty numbers v.ty)
symbols_gathered (NConst n t) = same_set-self (ConSymbol n ∷ symbols_ty numbers t)
symbols_gathered (NApp f x) = same_set-append (symbols_gathered f) (symbols_gathered x)
symbols_gathered (NAbs v b) = same_set-then (symbols-abs numbers tells_numbers v b)
    (same_set-append (same_set-self (symbols_ty numbers v.ty)) (symbols_gathered b))

-- ---- the variables and the operators of a type are those of its subtypes
mutual
  var_down : (n : ℕ) (t : Ty ℕ) → IsMember n (vars_ty numbers t) → (u : Ty ℕ) × IsSubtype u t
      × IsMember n (variable_name u)
  var_down n (TyVar m) h = (TyVar m, refl, h)
  var_down n (TyOp m ts) h = let r = vars_down n ts h in (r.0, inr r.1, r.2)

  vars_down : (n : ℕ) (ts : Tys ℕ) → IsMember n (vars_all numbers ts) → (u : Ty ℕ) × IsInside u ts
      × IsMember n (variable_name u)
  vars_down n NoTys h = absurd h
  vars_down n (MoreTys t ts) h = elim (IsMember-cases n (vars_ty numbers t) (vars_all numbers ts) h) [
    | inl a ↦ let r = var_down n t a in (r.0, inl r.1, r.2)
    | inr b ↦ let r = vars_down n ts b in (r.0, inr r.1, r.2)
  ]

mutual
  var_up : (n : ℕ) (u t : Ty ℕ) → IsSubtype u t → IsMember n (variable_name u) → IsMember n (vars_ty numbers t)
  var_up n u (TyVar m) s h = subst (λ u. IsMember n (variable_name u)) s h
  var_up n u (TyOp m ts) (inl s) h = absurd (subst (λ u. IsMember n (variable_name u)) s h)
  var_up n u (TyOp m ts) (inr s) h = vars_up n u ts s h

  vars_up : (n : ℕ) (u : Ty ℕ) (ts : Tys ℕ) → IsInside u ts → IsMember n (variable_name u)
      → IsMember n (vars_all numbers ts)
  vars_up n u NoTys s h = absurd s
  vars_up n u (MoreTys t ts) (inl s) h = IsMember-left n (vars_ty numbers t) (vars_all numbers ts) (var_up n u t s h)
  vars_up n u (MoreTys t ts) (inr s) h =
      IsMember-right n (vars_ty numbers t) (vars_all numbers ts) (vars_up n u ts s h)

mutual
  op_down : (n : ℕ) (t : Ty ℕ) → IsMember n (ops_ty numbers t) → (ts : Tys ℕ) × IsSubtype (TyOp n ts) t
  op_down n (TyVar m) h = absurd h
  op_down n (TyOp m ts) (inl e) = (ts, inl (ap (λ k. TyOp k ts) (sym e)))
  op_down n (TyOp m ts) (inr h) = let r = ops_down n ts h in (r.0, inr r.1)

  ops_down : (n : ℕ) (ts : Tys ℕ) → IsMember n (ops_all numbers ts) → (us : Tys ℕ) × IsInside (TyOp n us) ts
  ops_down n NoTys h = absurd h
  ops_down n (MoreTys t ts) h = elim (IsMember-cases n (ops_ty numbers t) (ops_all numbers ts) h) [
    | inl a ↦ let r = op_down n t a in (r.0, inl r.1)
    | inr b ↦ let r = ops_down n ts b in (r.0, inr r.1)
  ]

mutual
  op_up : (n : ℕ) (us : Tys ℕ) (t : Ty ℕ) → IsSubtype (TyOp n us) t → IsMember n (ops_ty numbers t)
  op_up n us (TyVar m) s = cc
  op_up n us (TyOp m ts) (inl s) = let e : m ≡ n = cc in inl e
  op_up n us (TyOp m ts) (inr s) = inr (ops_up n us ts s)

  ops_up : (n : ℕ) (us ts : Tys ℕ) → IsInside (TyOp n us) ts → IsMember n (ops_all numbers ts)
  ops_up n us NoTys s = absurd s
  ops_up n us (MoreTys t ts) (inl s) = IsMember-left n (ops_ty numbers t) (ops_all numbers ts) (op_up n us t s)
  ops_up n us (MoreTys t ts) (inr s) = IsMember-right n (ops_ty numbers t) (ops_all numbers ts) (ops_up n us ts s)

-- the symbols of a type's operator
abbrev operators : Ty ℕ → List (SymbolTree ℕ)
operators u = map symbol_of (operator_of u)

symbol_down : (s : SymbolTree ℕ) (t : Ty ℕ) → IsMember s (symbols_ty numbers t) → (u : Ty ℕ) × IsSubtype u t
    × IsMember s (operators u)
symbol_down s t h =
    let (n, m, e) = IsMember-map_back OpSymbol s (ops_ty numbers t) h in
    let r = op_down n t m in
    (TyOp n r.0, r.1, inl e)

symbol_up : (s : SymbolTree ℕ) (u t : Ty ℕ) → IsSubtype u t → IsMember s (operators u)
    → IsMember s (symbols_ty numbers t)
symbol_up s (TyVar n) t sub h = absurd h
symbol_up s (TyOp n us) t sub (inl e) =
    subst (λ s. IsMember s (symbols_ty numbers t)) e (IsMember-map OpSymbol n (ops_ty numbers t) (op_up n us t sub))
symbol_up s (TyOp n us) t sub (inr never) = absurd never

-- ---- what the numbers that were found give
module _ (t : TermTable) (root : Named ℕ) (ids xs : List ℕ)
    (terms : AreFound (term_at t.terms) (length t.terms) (λ u. IsSubterm u root) ids)
    (types : AreFound (type_at t.types) (length t.types) (IsMentioned t ids) xs) where
  module _ {A : Type 0} (of_type : Ty ℕ → List A) (of_constant : ℕ → List A) (local : Ty ℕ → List A) where
    types_to : ((y : A) (u ty : Ty ℕ) → IsSubtype u ty → IsMember y (local u) → IsMember y (of_type ty))
        → (x : ℕ) (y : A) → IsMember x xs → IsMember y (local (type_at t.types x))
        → FromType of_type of_constant root y
    types_to up x y m h =
        let (i, ty, n, own, sub) = (types.each x m).1 in
        (term_at t.terms i, ty, (terms.each i n).1, own, up y (type_at t.types x) ty sub h)

    types_from : ((y : A) (ty : Ty ℕ) → IsMember y (of_type ty) → (u : Ty ℕ) × IsSubtype u ty × IsMember y (local u))
        → (y : A) → FromType of_type of_constant root y → (x : ℕ) × IsMember x xs
        × IsMember y (local (type_at t.types x))
    types_from down y (w, ty, sub, own, h) =
        let (u, s, k) = down y ty h in
        let (i, n, tree) = terms.all w sub in
        let (x, m, e) = types.all u (i, ty, n, ap own_type tree ∙ own, s) in
        (x, m, subst (λ u. IsMember y (local u)) (sym e) k)

  -- type variables
  pub vars_found : IsSameSet (flat_map (λ i. variable_name (type_at t.types i)) xs)
      (vars_tm numbers (nameless numbers root))
  vars_found = same_set-then gathered_here (same_set-both_ways (vars_gathered root))
    where
      gathered_here : IsSameSet (flat_map (λ i. variable_name (type_at t.types i)) xs)
          (gathered (vars_ty numbers) (λ n. []) root)
      gathered_here = record {
        to = λ n h.
            let (x, m, k) = flat_to (λ i. variable_name (type_at t.types i)) n xs h in
            gathered_from (vars_ty numbers) (λ n. []) root n
            (inl (types_to (vars_ty numbers) (λ n. []) variable_name (λ y u ty. var_up y u ty) x n m k));
        back = λ n h. elim (gathered_to (vars_ty numbers) (λ n. []) root n h) [
          | inl p ↦ let (x, m, k) = types_from (vars_ty numbers) (λ n. []) variable_name (λ y ty. var_down y ty) n
              p in flat_from (λ i. variable_name (type_at t.types i)) n x xs m k
          | inr p ↦ absurd p.3
        ];
      }

  -- symbols
  pub symbols_found : IsSameSet
      (map symbol_of (flat_map (λ i. constant_of (term_at t.terms i)) ids
      ++ flat_map (λ i. operator_of (type_at t.types i)) xs)) (symbols_tm numbers (nameless numbers root))
  symbols_found = same_set-then gathered_here (same_set-both_ways (symbols_gathered root))
    where
      constants : List Symbol
      constants = flat_map (λ i. constant_of (term_at t.terms i)) ids

      constant_is : (w : Named ℕ) (s : Symbol) → IsMember s (constant_of w)
          → (n : ℕ) × (ty : Ty ℕ) × (w ≡ NConst n ty) × IsMember (symbol_of s) (ConSymbol n ∷ [])
      constant_is (NVar v) s h = absurd h
      constant_is (NConst n ty) s h =
          (n, ty, refl, elim h [ inl e ↦ inl (ap symbol_of e) | inr never ↦ absurd never ])
      constant_is (NApp f x) s h = absurd h
      constant_is (NAbs v b) s h = absurd h

      gathered_here : IsSameSet
          (map symbol_of (flat_map (λ i. constant_of (term_at t.terms i)) ids ++ flat_map
          (λ i. operator_of (type_at t.types i)) xs)) (gathered (symbols_ty numbers) (λ n. ConSymbol n ∷ []) root)
      gathered_here = record {
        to = λ y h.
            let (s, m, e) =
            IsMember-map_back symbol_of y (flat_map (λ i. constant_of (term_at t.terms i)) ids
            ++ flat_map (λ i. operator_of (type_at t.types i)) xs) h in
            subst (λ y. IsMember y (gathered (symbols_ty numbers) (λ n. ConSymbol n ∷ []) root)) e
            (gathered_from (symbols_ty numbers) (λ n. ConSymbol n ∷ []) root (symbol_of s)
            (elim (IsMember-cases s (flat_map (λ i. constant_of (term_at t.terms i)) ids)
            (flat_map (λ i. operator_of (type_at t.types i)) xs) m) [
              | inl a ↦
                  let (i, n, k) = flat_to (λ i. constant_of (term_at t.terms i)) s ids a in
                  let (c, ty, w, q) = constant_is (term_at t.terms i) s k in
                  inr (c, ty, subst (λ w. IsSubterm w root) w (terms.each i n).1, q)
              | inr b ↦
                  let (x, n, k) = flat_to (λ i. operator_of (type_at t.types i)) s xs b in
                  inl (types_to (symbols_ty numbers) (λ n. ConSymbol n ∷ []) operators (λ y u ty. symbol_up y u ty) x
                  (symbol_of s) n (IsMember-map symbol_of s (operator_of (type_at t.types x)) k))
            ]));
        back = λ y h. elim (gathered_to (symbols_ty numbers) (λ n. ConSymbol n ∷ []) root y h) [
          | inl p ↦
              let (x, m, k) = types_from (symbols_ty numbers) (λ n. ConSymbol n ∷ []) operators
              (λ y ty. symbol_down y ty) y p in
              let (s, n, e) = IsMember-map_back symbol_of y (operator_of (type_at t.types x)) k in
              subst (λ y. IsMember y
              (map symbol_of (flat_map (λ i. constant_of (term_at t.terms i)) ids
              ++ flat_map (λ i. operator_of (type_at t.types i)) xs))) e
              (IsMember-map symbol_of s (flat_map (λ i. constant_of (term_at t.terms i)) ids
              ++ flat_map (λ i. operator_of (type_at t.types i)) xs)
              (IsMember-right s (flat_map (λ i. constant_of (term_at t.terms i)) ids)
              (flat_map (λ i. operator_of (type_at t.types i)) xs)
              (flat_from (λ i. operator_of (type_at t.types i)) s x xs m n)))
          | inr p ↦
              let (i, n, tree) = terms.all (NConst p.0 p.1) p.2 in
              let s : Symbol = record { kind = Con; name = p.0 } in
              let here : IsMember s (constant_of (term_at t.terms i)) =
              subst (λ w. IsMember s (constant_of w)) (sym tree) (inl refl) in
              subst (λ y. IsMember y
              (map symbol_of (flat_map (λ i. constant_of (term_at t.terms i)) ids ++ flat_map
              (λ i. operator_of (type_at t.types i)) xs))) (elim p.3 [ inl e ↦ e | inr never ↦ absurd never ])
              (IsMember-map symbol_of s (flat_map (λ i. constant_of (term_at t.terms i)) ids
              ++ flat_map (λ i. operator_of (type_at t.types i)) xs)
              (IsMember-left s (flat_map (λ i. constant_of (term_at t.terms i)) ids)
              (flat_map (λ i. operator_of (type_at t.types i)) xs)
              (flat_from (λ i. constant_of (term_at t.terms i)) s i ids n here)))
        ];
      }

-- each name once, since each number stands for a type of its own
pub names_once : (tys : List (Ty ℕ)) → IsInjective tys → (xs : List ℕ) → ((x : ℕ) → IsMember x xs → x < length tys)
    → IsFalling xs → AreDistinct (flat_map (λ i. variable_name (type_at tys i)) xs)
names_once tys one [] within falling = tt
names_once tys one (x ∷ xs) within falling =
    by (type_at tys x) refl (names_once tys one xs (λ y m. within y (inr m)) falling.1)
  where
    name_is : (n : ℕ) (u : Ty ℕ) → IsMember n (variable_name u) → u ≡ TyVar n
    name_is n (TyVar m) h = elim h [ inl e ↦ ap TyVar e | inr never ↦ absurd never ]
    name_is n (TyOp m us) h = absurd h

    by : (u : Ty ℕ) → type_at tys x ≡ u → AreDistinct (flat_map (λ i. variable_name (type_at tys i)) xs)
        → AreDistinct (variable_name u ++ flat_map (λ i. variable_name (type_at tys i)) xs)
    by (TyVar n) root rest = (
      λ h. let (y, m, k) = flat_to (λ i. variable_name (type_at tys i)) n xs h in
          let lower : y < x = falling.0 y m in
          let same : y ≡ x = get_or-IsInjective tys one y x (TyVar 0) (within y (inr m)) (within x (inl refl))
          (name_is n (type_at tys y) k ∙ sym root) in
          omega (arith, lower, same),
      rest,
    )
    by (TyOp n us) root rest = rest

pub same_set-map : {X Y : Type 0} (f : X → Y) {xs ys : List X} → IsSameSet xs ys → IsSameSet (map f xs) (map f ys)
same_set-map f {xs} {ys} s = record {
  to = λ y h. let (x, m, e) = IsMember-map_back f y xs h in
      subst (λ y. IsMember y (map f ys)) e (IsMember-map f x ys (s.to x m));
  back = λ y h. let (x, m, e) = IsMember-map_back f y ys h in
      subst (λ y. IsMember y (map f xs)) e (IsMember-map f x xs (s.back x m));
}
