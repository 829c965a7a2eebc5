-- What occurs in a term: its free variables, type variables and symbols.
use Rattle.std.proofs.Common.{◌≡◌, List, [], ◌∷◌, ◌++◌, ap, subst, inl, inr}
use Rattle.ot_logic.specs.Names.{Name}
use Rattle.ot_logic.specs.Naming.{names}
use Rattle.ot_logic.specs.Lists.{IsMember}
use Rattle.ot_logic.specs.Trees.{Ty, Tys, TyVar, TyOp, NoTys, MoreTys, Variable, Tm}
use Rattle.ot_logic.specs.Trees.{Free, Con, Bound, App, Abs, Symbol, ConSymbol, OpSymbol}
use Rattle.ot_logic.specs.Hol.{vars_ty, vars_all, vars_tm, ops_ty, ops_all}
use Rattle.ot_logic.specs.Hol.{symbols_ty, symbols_tm, symbols_all, IsFree}
use Rattle.ot_log_rules.specs.Parts.{TypeVar, Operator, Constant, FreeVar, marks_ty, marks_all, marks_tm, marks_each}
use Rattle.ot_log_rules.specs.Symbols.{mark_of}
use Rattle.ot_logic.proofs.Members.{IsMember-cases, IsMember-left, IsMember-map, IsMember-map_back, IsMember-right}

-- members of a list after another
pub either-to : {X Y : Type 0} (x : X) (y : Y) (xs us : List X) (ys vs : List Y) → (IsMember x xs → IsMember y ys)
    → (IsMember x us → IsMember y vs) → IsMember x (xs ++ us) → IsMember y (ys ++ vs)
either-to x y xs us ys vs f g m =
    elim (IsMember-cases x xs us m) [ inl i ↦ IsMember-left y ys vs (f i) | inr i ↦ IsMember-right y ys vs (g i) ]

-- ---- no variable is free in a type
mutual
  no-free : (v : Variable Name) (t : Ty Name) → ¬ IsMember (FreeVar v) (marks_ty t)
  no-free v (TyVar n) (inl e) = cc
  no-free v (TyVar n) (inr m) = absurd m
  no-free v (TyOp n ts) (inl e) = cc
  no-free v (TyOp n ts) (inr m) = no-free_all v ts m

  no-free_all : (v : Variable Name) (ts : Tys Name) → ¬ IsMember (FreeVar v) (marks_all ts)
  no-free_all v NoTys m = absurd m
  no-free_all v (MoreTys t ts) m = elim (IsMember-cases (FreeVar v) (marks_ty t) (marks_all ts) m)
      [ inl i ↦ no-free v t i | inr i ↦ no-free_all v ts i ]

pub free-from_mark : (v : Variable Name) (t : Tm Name) → IsMember (FreeVar v) (marks_tm t) → IsFree names v t
free-from_mark v (Free w) (inl e) = let k : w ≡ v = cc in k
free-from_mark v (Free w) (inr m) = absurd (no-free v w.ty m)
free-from_mark v (Con n t) (inl e) = cc
free-from_mark v (Con n t) (inr m) = absurd (no-free v t m)
free-from_mark v (Bound k) m = absurd m
free-from_mark v (App f x) m = elim (IsMember-cases (FreeVar v) (marks_tm f) (marks_tm x) m)
    [ inl i ↦ inl (free-from_mark v f i) | inr i ↦ inr (free-from_mark v x i) ]
free-from_mark v (Abs t b) m = elim (IsMember-cases (FreeVar v) (marks_ty t) (marks_tm b) m)
    [ inl i ↦ absurd (no-free v t i) | inr i ↦ free-from_mark v b i ]

pub mark-from_free : (v : Variable Name) (t : Tm Name) → IsFree names v t → IsMember (FreeVar v) (marks_tm t)
mark-from_free v (Free w) h = inl (ap FreeVar h)
mark-from_free v (Con n t) h = absurd h
mark-from_free v (Bound k) h = absurd h
mark-from_free v (App f x) (inl h) = IsMember-left (FreeVar v) (marks_tm f) (marks_tm x) (mark-from_free v f h)
mark-from_free v (App f x) (inr h) = IsMember-right (FreeVar v) (marks_tm f) (marks_tm x) (mark-from_free v x h)
mark-from_free v (Abs t b) h = IsMember-right (FreeVar v) (marks_ty t) (marks_tm b) (mark-from_free v b h)

-- ---- type variables
mutual
  pub var-from_mark : (n : Name) (t : Ty Name) → IsMember (TypeVar n) (marks_ty t) → IsMember n (vars_ty names t)
  var-from_mark n (TyVar m) (inl e) = let k : m ≡ n = cc in inl k
  var-from_mark n (TyVar m) (inr k) = absurd k
  var-from_mark n (TyOp m ts) (inl e) = cc
  var-from_mark n (TyOp m ts) (inr k) = var-from_marks n ts k

  var-from_marks : (n : Name) (ts : Tys Name) → IsMember (TypeVar n) (marks_all ts) → IsMember n (vars_all names ts)
  var-from_marks n NoTys m = absurd m
  var-from_marks n (MoreTys t ts) m = either-to (TypeVar n) n (marks_ty t) (marks_all ts) (vars_ty names t)
      (vars_all names ts) (var-from_mark n t) (var-from_marks n ts) m

mutual
  pub mark-from_var : (n : Name) (t : Ty Name) → IsMember n (vars_ty names t) → IsMember (TypeVar n) (marks_ty t)
  mark-from_var n (TyVar m) (inl e) = inl (ap TypeVar e)
  mark-from_var n (TyVar m) (inr k) = absurd k
  mark-from_var n (TyOp m ts) k = inr (marks-from_var n ts k)

  marks-from_var : (n : Name) (ts : Tys Name) → IsMember n (vars_all names ts) → IsMember (TypeVar n) (marks_all ts)
  marks-from_var n NoTys m = absurd m
  marks-from_var n (MoreTys t ts) m = either-to n (TypeVar n) (vars_ty names t) (vars_all names ts) (marks_ty t)
      (marks_all ts) (mark-from_var n t) (marks-from_var n ts) m

pub var-from_term : (n : Name) (t : Tm Name) → IsMember (TypeVar n) (marks_tm t) → IsMember n (vars_tm names t)
var-from_term n (Free v) (inl e) = cc
var-from_term n (Free v) (inr m) = var-from_mark n v.ty m
var-from_term n (Con c t) (inl e) = cc
var-from_term n (Con c t) (inr m) = var-from_mark n t m
var-from_term n (Bound k) m = absurd m
var-from_term n (App f x) m = either-to (TypeVar n) n (marks_tm f) (marks_tm x) (vars_tm names f) (vars_tm names x)
    (var-from_term n f) (var-from_term n x) m
var-from_term n (Abs t b) m = either-to (TypeVar n) n (marks_ty t) (marks_tm b) (vars_ty names t) (vars_tm names b)
    (var-from_mark n t) (var-from_term n b) m

pub term-from_var : (n : Name) (t : Tm Name) → IsMember n (vars_tm names t) → IsMember (TypeVar n) (marks_tm t)
term-from_var n (Free v) m = inr (mark-from_var n v.ty m)
term-from_var n (Con c t) m = inr (mark-from_var n t m)
term-from_var n (Bound k) m = absurd m
term-from_var n (App f x) m = either-to n (TypeVar n) (vars_tm names f) (vars_tm names x) (marks_tm f) (marks_tm x)
    (term-from_var n f) (term-from_var n x) m
term-from_var n (Abs t b) m = either-to n (TypeVar n) (vars_ty names t) (vars_tm names b) (marks_ty t) (marks_tm b)
    (mark-from_var n t) (term-from_var n b) m

-- ---- symbols
mutual
  op-from_mark : (n : Name) (t : Ty Name) → IsMember (Operator n) (marks_ty t) → IsMember n (ops_ty names t)
  op-from_mark n (TyVar m) (inl e) = cc
  op-from_mark n (TyVar m) (inr k) = absurd k
  op-from_mark n (TyOp m ts) (inl e) = let k : m ≡ n = cc in inl k
  op-from_mark n (TyOp m ts) (inr k) = inr (op-from_marks n ts k)

  op-from_marks : (n : Name) (ts : Tys Name) → IsMember (Operator n) (marks_all ts) → IsMember n (ops_all names ts)
  op-from_marks n NoTys m = absurd m
  op-from_marks n (MoreTys t ts) m = either-to (Operator n) n (marks_ty t) (marks_all ts) (ops_ty names t)
      (ops_all names ts) (op-from_mark n t) (op-from_marks n ts) m

mutual
  mark-from_op : (n : Name) (t : Ty Name) → IsMember n (ops_ty names t) → IsMember (Operator n) (marks_ty t)
  mark-from_op n (TyVar m) k = absurd k
  mark-from_op n (TyOp m ts) (inl e) = inl (ap Operator e)
  mark-from_op n (TyOp m ts) (inr k) = inr (marks-from_op n ts k)

  marks-from_op : (n : Name) (ts : Tys Name) → IsMember n (ops_all names ts) → IsMember (Operator n) (marks_all ts)
  marks-from_op n NoTys m = absurd m
  marks-from_op n (MoreTys t ts) m = either-to n (Operator n) (ops_ty names t) (ops_all names ts) (marks_ty t)
      (marks_all ts) (mark-from_op n t) (marks-from_op n ts) m

mutual
  no-constant : (n : Name) (t : Ty Name) → ¬ IsMember (Constant n) (marks_ty t)
  no-constant n (TyVar m) (inl e) = cc
  no-constant n (TyVar m) (inr k) = absurd k
  no-constant n (TyOp m ts) (inl e) = cc
  no-constant n (TyOp m ts) (inr k) = no-constant_all n ts k

  no-constant_all : (n : Name) (ts : Tys Name) → ¬ IsMember (Constant n) (marks_all ts)
  no-constant_all n NoTys m = absurd m
  no-constant_all n (MoreTys t ts) m = elim (IsMember-cases (Constant n) (marks_ty t) (marks_all ts) m)
      [ inl i ↦ no-constant n t i | inr i ↦ no-constant_all n ts i ]

symbol-from_type : (s : Symbol Name) (t : Ty Name) → IsMember (mark_of s) (marks_ty t)
    → IsMember s (symbols_ty names t)
symbol-from_type (ConSymbol n) t m = absurd (no-constant n t m)
symbol-from_type (OpSymbol n) t m = IsMember-map OpSymbol n (ops_ty names t) (op-from_mark n t m)

type-from_symbol : (s : Symbol Name) (t : Ty Name) → IsMember s (symbols_ty names t)
    → IsMember (mark_of s) (marks_ty t)
type-from_symbol (ConSymbol n) t m = let r = IsMember-map_back OpSymbol (ConSymbol n) (ops_ty names t) m in
    let e = r.2 in cc
type-from_symbol (OpSymbol n) t m =
    let r = IsMember-map_back OpSymbol (OpSymbol n) (ops_ty names t) m in
    let e = r.2 in
    let k : r.0 ≡ n = cc in
    subst (λ x. IsMember (Operator x) (marks_ty t)) k (mark-from_op r.0 t r.1)

pub symbol-from_mark : (s : Symbol Name) (t : Tm Name) → IsMember (mark_of s) (marks_tm t)
    → IsMember s (symbols_tm names t)
symbol-from_mark (ConSymbol n) (Free v) (inl e) = cc
symbol-from_mark (OpSymbol n) (Free v) (inl e) = cc
symbol-from_mark s (Free v) (inr m) = symbol-from_type s v.ty m
symbol-from_mark (ConSymbol n) (Con c t) (inl e) = let k : c ≡ n = cc in inl (ap ConSymbol k)
symbol-from_mark (OpSymbol n) (Con c t) (inl e) = cc
symbol-from_mark s (Con c t) (inr m) = inr (symbol-from_type s t m)
symbol-from_mark s (Bound k) m = absurd m
symbol-from_mark s (App f x) m = either-to (mark_of s) s (marks_tm f) (marks_tm x) (symbols_tm names f)
    (symbols_tm names x) (symbol-from_mark s f) (symbol-from_mark s x) m
symbol-from_mark s (Abs t b) m = either-to (mark_of s) s (marks_ty t) (marks_tm b) (symbols_ty names t)
    (symbols_tm names b) (symbol-from_type s t) (symbol-from_mark s b) m

pub mark-from_symbol : (s : Symbol Name) (t : Tm Name) → IsMember s (symbols_tm names t)
    → IsMember (mark_of s) (marks_tm t)
mark-from_symbol s (Free v) m = inr (type-from_symbol s v.ty m)
mark-from_symbol (ConSymbol n) (Con c t) (inl e) = let k : c ≡ n = cc in inl (ap Constant k)
mark-from_symbol (OpSymbol n) (Con c t) (inl e) = cc
mark-from_symbol s (Con c t) (inr m) = inr (type-from_symbol s t m)
mark-from_symbol s (Bound k) m = absurd m
mark-from_symbol s (App f x) m = either-to s (mark_of s) (symbols_tm names f) (symbols_tm names x) (marks_tm f)
    (marks_tm x) (mark-from_symbol s f) (mark-from_symbol s x) m
mark-from_symbol s (Abs t b) m = either-to s (mark_of s) (symbols_ty names t) (symbols_tm names b) (marks_ty t)
    (marks_tm b) (type-from_symbol s t) (mark-from_symbol s b) m

-- of several terms
pub symbols-from_marks : (s : Symbol Name) (ts : List (Tm Name)) → IsMember (mark_of s) (marks_each ts)
    → IsMember s (symbols_all names ts)
symbols-from_marks s [] m = absurd m
symbols-from_marks s (t ∷ ts) m = either-to (mark_of s) s (marks_tm t) (marks_each ts) (symbols_tm names t)
    (symbols_all names ts) (symbol-from_mark s t) (symbols-from_marks s ts) m

pub marks-from_symbols : (s : Symbol Name) (ts : List (Tm Name)) → IsMember s (symbols_all names ts)
    → IsMember (mark_of s) (marks_each ts)
marks-from_symbols s [] m = absurd m
marks-from_symbols s (t ∷ ts) m = either-to s (mark_of s) (symbols_tm names t) (symbols_all names ts) (marks_tm t)
    (marks_each ts) (mark-from_symbol s t) (marks-from_symbols s ts) m
