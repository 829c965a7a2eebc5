-- Higher-order logic over any alphabet of names: types, nameless terms, substitution, sequents, derivable sequents,
-- accepted definitions.
use Rattle.std.specs.Prelude.{◌≡◌, ℕ, suc, ◌<◌, ◌==◌, nat_le, Bool, true, false, cond, ◌&&◌, ◌||◌, List}
use Rattle.std.specs.Prelude.{[], ◌∷◌, ◌++◌, map, length, max, Option, Some, None, slice_get, take, ◌⊎◌}
use Rattle.std.specs.List.{AllByRecursion, list_all}
use Rattle.std.specs.Option.{option_map, unwrap_or}
use Rattle.ot_logic.specs.Lists.{IsMember, IsSameSet, AreDistinct}
use Rattle.ot_logic.specs.Trees.{Alphabet, Ty, Tys, TyVar, TyOp, NoTys, MoreTys, Variable, Tm, Free, Con, Bound}
use Rattle.ot_logic.specs.Trees.{App, Abs, Sequent, Symbol, ConSymbol, OpSymbol, Definition, ConDef, ListDef, TyDef}

-- the nesting limit
abbrev pub depth_limit : ℕ
depth_limit = 4096

module _ {N : Type 0} (alphabet : Alphabet N) where
  -- ---- types

  -- whether two types are one
  abbrev mutual
    pub same_ty : Ty N → Ty N → Bool
    same_ty (TyVar a) (TyVar b) = alphabet.same a b
    same_ty (TyVar a) (TyOp b us) = false
    same_ty (TyOp a ts) (TyVar b) = false
    same_ty (TyOp a ts) (TyOp b us) = alphabet.same a b && same_tys ts us

    pub same_tys : Tys N → Tys N → Bool
    same_tys NoTys NoTys = true
    same_tys NoTys (MoreTys u us) = false
    same_tys (MoreTys t ts) NoTys = false
    same_tys (MoreTys t ts) (MoreTys u us) = same_ty t u && same_tys ts us

  -- the function type
  abbrev pub fun_ty : Ty N → Ty N → Ty N
  fun_ty a b = TyOp alphabet.arrow (MoreTys a (MoreTys b NoTys))

  -- the type of propositions
  abbrev pub bool_ty : Ty N
  bool_ty = TyOp alphabet.bool_name NoTys

  -- the type part of a substitution: of two pairs for one name the first counts
  abbrev pub TypeMap : Type 0
  TypeMap = List (N × Ty N)

  -- what a name stands for: itself as a variable, where the map has no type for it
  abbrev pub type_at : TypeMap → N → Ty N
  type_at [] n = TyVar n
  type_at (p ∷ s) n = cond (alphabet.same n p.0) p.1 (type_at s n)

  -- the type with g's type in the place of each variable
  abbrev mutual
    pub inst_by : (N → Ty N) → Ty N → Ty N
    inst_by g (TyVar n) = g n
    inst_by g (TyOp n ts) = TyOp n (inst_all g ts)

    pub inst_all : (N → Ty N) → Tys N → Tys N
    inst_all g NoTys = NoTys
    inst_all g (MoreTys t ts) = MoreTys (inst_by g t) (inst_all g ts)

  -- the instance of a type: each variable that the map holds is replaced by its type
  abbrev pub inst : TypeMap → Ty N → Ty N
  inst s = inst_by (type_at s)

  -- the depth of a type: 1 for a variable or an operator without arguments, else 1 more than the deepest argument
  abbrev mutual
    pub depth_ty : Ty N → ℕ
    depth_ty (TyVar n) = 1
    depth_ty (TyOp n ts) = suc (depth_all ts)

    pub depth_all : Tys N → ℕ
    depth_all NoTys = 0
    depth_all (MoreTys t ts) = max (depth_ty t) (depth_all ts)

  -- the names of the variables of a type, in order and with repetition
  abbrev mutual
    pub vars_ty : Ty N → List N
    vars_ty (TyVar n) = n ∷ []
    vars_ty (TyOp n ts) = vars_all ts

    pub vars_all : Tys N → List N
    vars_all NoTys = []
    vars_all (MoreTys t ts) = vars_ty t ++ vars_all ts

  -- the type operators of a type
  abbrev mutual
    pub ops_ty : Ty N → List N
    ops_ty (TyVar n) = []
    ops_ty (TyOp n ts) = n ∷ ops_all ts

    pub ops_all : Tys N → List N
    ops_all NoTys = []
    ops_all (MoreTys t ts) = ops_ty t ++ ops_all ts

  -- the two parts of a function type
  abbrev pub as_fun_ty : Ty N → Option (Ty N × Ty N)
  as_fun_ty (TyOp n (MoreTys a (MoreTys b NoTys))) = cond (alphabet.same n alphabet.arrow) (Some (a, b)) None
  as_fun_ty _ = None

  -- whether a type is within the nesting limit
  abbrev pub is_shallow_ty : Ty N → Bool
  is_shallow_ty t = nat_le (depth_ty t) depth_limit

  -- ---- nameless terms: free variables by name and type, and places of abstractions by number, the innermost 0

  -- a variable is its name and its type
  abbrev pub same_var : Variable N → Variable N → Bool
  same_var v w = alphabet.same v.name w.name && same_ty v.ty w.ty

  -- what a function of this type gives at an argument of that one
  abbrev pub result_ty : Ty N → Ty N → Option (Ty N)
  result_ty (TyOp n (MoreTys a (MoreTys b NoTys))) x =
      cond (alphabet.same n alphabet.arrow && same_ty a x) (Some b) None
  result_ty _ x = None

  abbrev pub applied : Option (Ty N) → Option (Ty N) → Option (Ty N)
  applied (Some f) (Some x) = result_ty f x
  applied _ _ = None

  -- the type under abstractions of these types, the innermost first
  abbrev pub type_in : List (Ty N) → Tm N → Option (Ty N)
  type_in l (Free v) = Some v.ty
  type_in l (Con n t) = Some t
  type_in l (Bound k) = slice_get l k
  type_in l (App f x) = applied (type_in l f) (type_in l x)
  type_in l (Abs t b) = option_map (fun_ty t) (type_in (t ∷ l) b)

  -- the term stands under no abstraction, and has this type
  abbrev pub HasType : Tm N → Ty N → Type 0
  HasType t ty = type_in [] t ≡ Some ty

  -- some type; then no place leads out of the term
  abbrev pub IsWellTyped : Tm N → Type 0
  IsWellTyped t = (ty : Ty N) × HasType t ty

  -- v, where it is free, becomes the place of the k-th abstraction around
  abbrev pub close_at : ℕ → Variable N → Tm N → Tm N
  close_at k v (Free w) = cond (same_var w v) (Bound k) (Free w)
  close_at k v (Con n t) = Con n t
  close_at k v (Bound j) = Bound j
  close_at k v (App f x) = App (close_at k v f) (close_at k v x)
  close_at k v (Abs t b) = Abs t (close_at (suc k) v b)

  -- v becomes the place of an abstraction around the term
  abbrev pub close : Variable N → Tm N → Tm N
  close = close_at 0

  -- u in the place of the k-th abstraction around
  abbrev pub open_at : ℕ → Tm N → Tm N → Tm N
  open_at k u (Free w) = Free w
  open_at k u (Con n t) = Con n t
  open_at k u (Bound j) = cond (j == k) u (Bound j)
  open_at k u (App f x) = App (open_at k u f) (open_at k u x)
  open_at k u (Abs t b) = Abs t (open_at (suc k) u b)

  -- u in the place of the abstraction whose body b is
  abbrev pub opened : Tm N → Tm N → Tm N
  opened b u = open_at 0 u b

  -- types by g, and each free variable by s
  abbrev pub bind : (N → Ty N) → (Variable N → Tm N) → Tm N → Tm N
  bind g s (Free v) = s v
  bind g s (Con n t) = Con n (inst_by g t)
  bind g s (Bound k) = Bound k
  bind g s (App f x) = App (bind g s f) (bind g s x)
  bind g s (Abs t b) = Abs (inst_by g t) (bind g s b)

  -- the variable part of a substitution: of two pairs for one variable the first counts
  abbrev pub TermMap : Type 0
  TermMap = List (Variable N × Tm N)

  -- what a variable stands for: itself, where the map has no term for it
  abbrev pub term_at : TermMap → Variable N → Tm N
  term_at [] v = Free v
  term_at (p ∷ m) v = cond (same_var v p.0) p.1 (term_at m v)

  -- a variable after the type part
  abbrev pub inst_var : TypeMap → Variable N → Variable N
  inst_var s v = record { name = v.name; ty = inst s v.ty }

  -- substitution: the type part first, then the variable part at once; nothing is renamed
  abbrev pub subst_tm : TypeMap → TermMap → Tm N → Tm N
  subst_tm s m = bind (type_at s) (λ v. term_at m (inst_var s v))

  -- v is free in the term
  abbrev pub IsFree : Variable N → Tm N → Type 0
  IsFree v (Free w) = w ≡ v
  IsFree v (Con n t) = ⊥
  IsFree v (Bound k) = ⊥
  IsFree v (App f x) = IsFree v f ⊎ IsFree v x
  IsFree v (Abs t b) = IsFree v b

  -- the test of it
  abbrev pub is_free : Variable N → Tm N → Bool
  is_free v (Free w) = same_var w v
  is_free v (Con n t) = false
  is_free v (Bound k) = false
  is_free v (App f x) = is_free v f || is_free v x
  is_free v (Abs t b) = is_free v b

  -- the depth of a term: a leaf has 1
  abbrev pub depth_tm : Tm N → ℕ
  depth_tm (Free v) = 1
  depth_tm (Con n t) = 1
  depth_tm (Bound k) = 1
  depth_tm (App f x) = suc (max (depth_tm f) (depth_tm x))
  depth_tm (Abs t b) = suc (depth_tm b)

  -- each place stays within k more abstractions
  abbrev pub IsWithin : ℕ → Tm N → Type 0
  IsWithin k (Free v) = Unit {0}
  IsWithin k (Con n t) = Unit {0}
  IsWithin k (Bound j) = j < k
  IsWithin k (App f x) = IsWithin k f × IsWithin k x
  IsWithin k (Abs t b) = IsWithin (suc k) b

  abbrev pub is_shallow_type : Option (Ty N) → Bool
  is_shallow_type None = true
  is_shallow_type (Some t) = is_shallow_ty t

  -- the type of each subterm is within the limit, under binders of these types, the innermost first
  abbrev pub has_shallow_types : List (Ty N) → Tm N → Bool
  has_shallow_types l (App f x) = is_shallow_type (type_in l (App f x))
      && (has_shallow_types l f && has_shallow_types l x)
  has_shallow_types l (Abs t b) = is_shallow_type (type_in l (Abs t b)) && has_shallow_types (t ∷ l) b
  has_shallow_types l t = is_shallow_type (type_in l t)

  -- whether a term is within the nesting limit: its depth, and the depth of the type of each subterm
  abbrev pub is_shallow : Tm N → Bool
  is_shallow t = nat_le (depth_tm t) depth_limit && has_shallow_types [] t

  -- ---- sequents: a finite set of hypotheses, as a list of which only the members count, and a conclusion

  -- whether two terms are one
  abbrev pub same_tm : Tm N → Tm N → Bool
  same_tm (Free v) (Free w) = same_var v w
  same_tm (Con n t) (Con m u) = alphabet.same n m && same_ty t u
  same_tm (Bound j) (Bound k) = j == k
  same_tm (App f x) (App g y) = same_tm f g && same_tm x y
  same_tm (Abs t b) (Abs u c) = same_ty t u && same_tm b c
  same_tm _ _ = false

  -- a = b, where both have this type
  abbrev pub equation : Ty N → Tm N → Tm N → Tm N
  equation ty a b = App (App (Con alphabet.equals (fun_ty ty (fun_ty ty bool_ty))) a) b

  -- the type and the two sides of an equation; `=` counts only at a type a -> (a -> bool)
  abbrev pub as_equation : Tm N → Option (Ty N × Tm N × Tm N)
  as_equation (App (App (Con n (TyOp m (MoreTys a (MoreTys t NoTys)))) x) y) =
      cond (alphabet.same n alphabet.equals && same_ty (TyOp m (MoreTys a (MoreTys t NoTys)))
      (fun_ty a (fun_ty a bool_ty))) (Some (a, x, y)) None
  as_equation _ = None

  -- the list without x
  abbrev pub minus : Tm N → List (Tm N) → List (Tm N)
  minus x [] = []
  minus x (y ∷ ys) = cond (same_tm y x) (minus x ys) (y ∷ minus x ys)

  abbrev pub is_in : Tm N → List (Tm N) → Bool
  is_in t [] = false
  is_in t (u ∷ us) = same_tm u t || is_in t us

  -- those of the second list that the first lacks
  abbrev pub lacking : List (Tm N) → List (Tm N) → List (Tm N)
  lacking g [] = []
  lacking g (t ∷ ts) = cond (is_in t g) (lacking g ts) (t ∷ lacking g ts)

  -- the union of two sets; without repetition where neither list has one
  abbrev pub union : List (Tm N) → List (Tm N) → List (Tm N)
  union g h = g ++ lacking g h

  -- the members of a list, each once, at its last place
  abbrev pub once_each : List (Tm N) → List (Tm N)
  once_each [] = []
  once_each (t ∷ ts) = cond (is_in t ts) (once_each ts) (t ∷ once_each ts)

  -- whether each term of the first list is in the second
  abbrev pub all_in : List (Tm N) → List (Tm N) → Bool
  all_in [] us = true
  all_in (t ∷ ts) us = is_in t us && all_in ts us

  -- whether two sequents are one: the same set of hypotheses, and the same conclusion
  abbrev pub same_sequent : Sequent N → Sequent N → Bool
  same_sequent q r = (all_in q.hyps r.hyps && all_in r.hyps q.hyps) && same_tm q.concl r.concl

  -- a sequent's terms are well typed and of the type of propositions
  pub record IsSequent (q : Sequent N) : Type 0 where
    pub hyps : AllByRecursion (λ h. HasType h bool_ty) q.hyps
    pub concl : HasType q.concl bool_ty

  -- whether each term of a sequent is within the nesting limit
  abbrev pub is_shallow_sequent : Sequent N → Bool
  is_shallow_sequent q = list_all is_shallow q.hyps && is_shallow q.concl

  -- ---- definitions, their symbols and their theorems

  -- the type of a term that has one
  abbrev pub type_of : Tm N → Ty N
  type_of t = unwrap_or (type_in [] t) bool_ty

  -- type variables as arguments
  abbrev pub tys_of_vars : List N → Tys N
  tys_of_vars [] = NoTys
  tys_of_vars (n ∷ ns) = MoreTys (TyVar n) (tys_of_vars ns)

  -- each variable of the pairs becomes its constant
  abbrev pub constants_for : List (N × Variable N) → TermMap
  constants_for = map (λ p. (p.1, Con p.0 p.1.ty))

  -- a theorem without hypotheses
  abbrev pub sequent_of : Tm N → Sequent N
  sequent_of t = record { hyps = []; concl = t }

  -- abs (rep a) = a for each a of the new type, and rep (abs r) = r just where p r
  abbrev pub type_theorems : Ty N → Ty N → N → N → Tm N → List (Sequent N)
  type_theorems ty u abs rep p =
      let c = Con abs (fun_ty u ty) in
      let r = Con rep (fun_ty ty u) in
      sequent_of (equation (fun_ty ty ty) (Abs ty (App c (App r (Bound 0)))) (Abs ty (Bound 0)))
      ∷ sequent_of (equation (fun_ty u bool_ty) (Abs u (equation u (App r (App c (Bound 0))) (Bound 0)))
      (Abs u (App p (Bound 0))))
      ∷ []

  -- the two theorems of a type whose premise is p t
  abbrev pub theorems_at : N → N → N → List N → Tm N → List (Sequent N)
  theorems_at n abs rep vs (App p t) = type_theorems (TyOp n (tys_of_vars vs)) (type_of t) abs rep p
  theorems_at n abs rep vs _ = []

  -- the theorems of a definition
  abbrev pub theorems : Definition N → List (Sequent N)
  theorems (ConDef n t) = sequent_of (equation (type_of t) (Con n (type_of t)) t) ∷ []
  theorems (ListDef ps q) = sequent_of (subst_tm [] (constants_for ps) q.concl) ∷ []
  theorems (TyDef n abs rep vs q) = theorems_at n abs rep vs q.concl

  -- the type operators that occur in a type
  abbrev pub symbols_ty : Ty N → List (Symbol N)
  symbols_ty t = map OpSymbol (ops_ty t)

  -- the symbols that occur in a term, type operators inside types too
  abbrev pub symbols_tm : Tm N → List (Symbol N)
  symbols_tm (Free v) = symbols_ty v.ty
  symbols_tm (Con n t) = ConSymbol n ∷ symbols_ty t
  symbols_tm (Bound k) = []
  symbols_tm (App f x) = symbols_tm f ++ symbols_tm x
  symbols_tm (Abs t b) = symbols_ty t ++ symbols_tm b

  abbrev pub symbols_all : List (Tm N) → List (Symbol N)
  symbols_all [] = []
  symbols_all (t ∷ ts) = symbols_tm t ++ symbols_all ts

  abbrev pub symbols_of : Sequent N → List (Symbol N)
  symbols_of q = symbols_all q.hyps ++ symbols_tm q.concl

  abbrev pub symbols_in : List (Sequent N) → List (Symbol N)
  symbols_in [] = []
  symbols_in (q ∷ qs) = symbols_of q ++ symbols_in qs

  -- the symbols that a definition defines
  abbrev pub defined : Definition N → List (Symbol N)
  defined (ConDef n t) = ConSymbol n ∷ []
  defined (ListDef ps q) = map (λ p. ConSymbol p.0) ps
  defined (TyDef n abs rep vs q) = OpSymbol n ∷ ConSymbol abs ∷ ConSymbol rep ∷ []

  -- the symbols that occur in its premise
  abbrev pub premise_symbols : Definition N → List (Symbol N)
  premise_symbols (ConDef n t) = symbols_tm t
  premise_symbols (ListDef ps q) = symbols_of q
  premise_symbols (TyDef n abs rep vs q) = symbols_of q

  -- the symbols that occur in the premise or in a theorem
  abbrev pub used : Definition N → List (Symbol N)
  used d = premise_symbols d ++ symbols_in (theorems d)

  -- ---- the derivable sequents, over a list of assumptions and a list of definitions

  abbrev pub IsFreeInSome : Variable N → List (Tm N) → Type 0
  IsFreeInSome v [] = ⊥
  IsFreeInSome v (t ∷ ts) = IsFree v t ⊎ IsFreeInSome v ts

  -- each term has its variable's type
  abbrev pub IsTyped : TermMap → Type 0
  IsTyped = AllByRecursion (λ p. HasType p.1 p.0.ty)

  abbrev pub is_free_in_some : Variable N → List (Tm N) → Bool
  is_free_in_some v [] = false
  is_free_in_some v (t ∷ ts) = is_free v t || is_free_in_some v ts

  -- the least set of sequents that the primitive rules of the article format give, each a case named as its command is,
  -- over the assumptions al and the definitions dl
  pub data Derivable (al : List (Sequent N)) (dl : List (Definition N)) : List (Tm N) → Tm N → Type 0 where
    -- a term equals itself
    Refl : {t : Tm N} {ty : Ty N} → HasType t ty → Derivable al dl [] (equation ty t t)
    -- a formula follows from itself
    Assume : {p : Tm N} → HasType p bool_ty → Derivable al dl (p ∷ []) p
    -- from p = q and p, q
    EqMp : {g h : List (Tm N)} {p q : Tm N} {ty : Ty N} → Derivable al dl g (equation ty p q) → Derivable al dl h p
        → Derivable al dl (g ++ h) q
    -- from t = u, (λv. t) = (λv. u), where v is free in no hypothesis
    AbsThm : {g : List (Tm N)} {t u : Tm N} {ty : Ty N} (v : Variable N) → ¬ (IsFreeInSome v g)
        → Derivable al dl g (equation ty t u)
        → Derivable al dl g (equation (fun_ty v.ty ty) (Abs v.ty (close v t)) (Abs v.ty (close v u)))
    -- from f = k and x = y, f x = k y
    AppThm : {g h : List (Tm N)} {f k x y : Tm N} {a b : Ty N} → Derivable al dl g (equation (fun_ty a b) f k)
        → Derivable al dl h (equation a x y) → Derivable al dl (g ++ h) (equation b (App f x) (App k y))
    -- from p and q, p = q, where each loses the conclusion of the other from its hypotheses
    DeductAntisym : {g h : List (Tm N)} {p q : Tm N} → Derivable al dl g p → Derivable al dl h q
        → Derivable al dl (minus q g ++ minus p h) (equation bool_ty p q)
    -- an abstraction applied to u is its body with u in place of the bound variable
    BetaConv : {b u : Tm N} {a ty : Ty N} → HasType (App (Abs a b) u) ty
        → Derivable al dl [] (equation ty (App (Abs a b) u) (opened b u))
    -- types for type variables, then terms for variables, in hypotheses and conclusion at once
    Subst : {g : List (Tm N)} {p : Tm N} (s : TypeMap) (m : TermMap) → IsTyped m → Derivable al dl g p
        → Derivable al dl (map (subst_tm s m) g) (subst_tm s m p)
    -- the sequents of the list of assumptions
    Assumption : {q : Sequent N} (i : ℕ) → slice_get al i ≡ Some q → Derivable al dl q.hyps q.concl
    -- the theorems of the list of definitions
    Defined : {d : Definition N} {q : Sequent N} (i j : ℕ) → slice_get dl i ≡ Some d → slice_get (theorems d) j
        ≡ Some q → Derivable al dl q.hyps q.concl
    -- the hypotheses are a set: one sequent has many lists
    SameSet : {g h : List (Tm N)} {p : Tm N} → IsSameSet g h → Derivable al dl g p → Derivable al dl h p

  -- ---- when a list of definitions is accepted

  -- the type variables of a term
  abbrev pub vars_tm : Tm N → List N
  vars_tm (Free v) = vars_ty v.ty
  vars_tm (Con n t) = vars_ty t
  vars_tm (Bound k) = []
  vars_tm (App f x) = vars_tm f ++ vars_tm x
  vars_tm (Abs t b) = vars_ty t ++ vars_tm b

  -- the symbols that have a meaning of their own
  abbrev pub primitives : List (Symbol N)
  primitives = OpSymbol alphabet.arrow ∷ OpSymbol alphabet.bool_name ∷ ConSymbol alphabet.equals ∷ []

  abbrev pub IsClosed : Tm N → Type 0
  IsClosed t = (v : Variable N) → ¬ (IsFree v t)

  -- what a constant may stand for
  pub record IsConstant (t : Tm N) : Type 0 where
    pub typed : HasType t (type_of t)
    pub no_free : IsClosed t
    pub type_vars : (n : N) → IsMember n (vars_tm t) → IsMember n (vars_ty (type_of t))

  -- the term that a hypothesis v = t gives the variable
  pub record IsGiven (v : Variable N) (h t : Tm N) : Type 0 where
    pub shape : h ≡ equation v.ty (Free v) t

  -- exactly one hypothesis gives v a term, and that one may define a constant
  abbrev pub IsGivenOnce : List (Tm N) → Variable N → Type 0
  IsGivenOnce g v = (h t : Tm N) × IsMember h g × IsGiven v h t × IsConstant t
      × ((k u : Tm N) → IsMember k g → IsGiven v k u → k ≡ h)

  -- the conditions of a list of constants, over the assumptions and the definitions before it
  pub record IsFineList (al : List (Sequent N)) (dl : List (Definition N)) (ps : List (N × Variable N))
      (q : Sequent N) : Type 0 where
    pub distinct : AreDistinct (map (λ p. p.1) ps)
    pub once : AreDistinct q.hyps
    pub many : length q.hyps ≡ length ps
    pub each : AllByRecursion (λ p. IsGivenOnce q.hyps p.1) ps
    pub frees : (v : Variable N) → IsFree v q.concl → IsMember v (map (λ p. p.1) ps)
    pub derivable : Derivable al dl q.hyps q.concl

  -- the conditions of a type
  pub record IsFineType (al : List (Sequent N)) (dl : List (Definition N)) (vs : List N) (q : Sequent N) : Type
      0 where
    pub no_hyps : q.hyps ≡ []
    pub parts : (p t : Tm N) × (q.concl ≡ App p t) × IsClosed p × ((n : N) → IsMember n (vars_tm p) → IsMember n vs)
    pub distinct : AreDistinct vs
    pub derivable : Derivable al dl q.hyps q.concl

  abbrev pub IsFine : List (Sequent N) → List (Definition N) → Definition N → Type 0
  IsFine al dl (ConDef n t) = IsConstant t
  IsFine al dl (ListDef ps q) = IsFineList al dl ps q
  IsFine al dl (TyDef n abs rep vs q) = IsFineType al dl vs q

  -- d after the definitions dl
  pub record IsNext (al : List (Sequent N)) (dl : List (Definition N)) (d : Definition N) : Type 0 where
    pub not_primitive : (s : Symbol N) → IsMember s (defined d) → ¬ (IsMember s primitives)
    pub distinct : AreDistinct (defined d)
    pub fresh : (s : Symbol N) (e : Definition N) → IsMember s (defined d) → IsMember e dl
        → ¬ (IsMember s (defined e))
    pub not_in_premise : (s : Symbol N) → IsMember s (defined d) → ¬ (IsMember s (premise_symbols d))
    pub unused : (s : Symbol N) (e : Definition N) → IsMember s (defined d) → IsMember e dl → ¬ (IsMember s (used e))
    pub fine : IsFine al dl d

  -- each definition may stand after those before it
  pub record Accepted (al : List (Sequent N)) (dl : List (Definition N)) : Type 0 where
    pub each : (i : ℕ) (d : Definition N) → slice_get dl i ≡ Some d → IsNext al (take i dl) d
