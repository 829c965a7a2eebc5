-- Types and terms that are written: each once, behind its parts.
use Rattle.std.specs.Prelude.{if◌then◌else◌, max, ◌-◌}
use Rattle.std.specs.List.{list_any}
use Rattle.std.proofs.Common.{◌≡◌, ℕ, suc, ◌≤◌, Bool, true, false, List, [], ◌∷◌}
use Rattle.std.proofs.Common.{◌++◌, refl, sym, ap, subst, ◌∙◌, inl, inr, ◌⊎◌, arith}
use Rattle.std.proofs.lemmas.List.Folds.{list_any-append}
use Rattle.ot_logic.specs.Lists.{IsMember}
use Rattle.ot_logic.specs.Names.{Name}
use Rattle.ot_logic.specs.Naming.{names}
use Rattle.ot_logic.specs.Trees.{Ty, Tys, TyVar, TyOp, NoTys, MoreTys, Tm, Free, Con, Bound, App, Abs}
use Rattle.ot_logic.specs.Hol.{depth_ty, depth_all, depth_tm, same_ty, same_tm}
use Rattle.ot_laws.proofs.Tests.{tells_names, same_ty-is, same_tm-is}
use Rattle.ot_log_records.specs.Entries.{Node, TypeNode, TermNode, node_entry, type_parts}
use Rattle.ot_log_records.specs.Entries.{types_nodes, type_nodes, term_parts, term_nodes}
use Rattle.ot_log_records.specs.Logged.{Log, put, has_node, with_node, write_node, write_nodes}
use Rattle.ot_log_records.specs.Closed.{parts_of, nodes_of, HasNodes, IsClosed}

-- ---- lists

any-last : {X : Type 0} (p : X → Bool) (xs : List X) (y : X) → p y ≡ true → list_any p (xs ++ y ∷ []) ≡ true
any-last p xs y h = grind (arith, list_any-append)

any-front : {X : Type 0} (p : X → Bool) (xs : List X) (y : X) → list_any p xs ≡ true → list_any p (xs ++ y ∷ [])
    ≡ true
any-front p xs y h = grind (arith, list_any-append)

any-split : {X : Type 0} (p : X → Bool) (xs : List X) (y : X) → list_any p (xs ++ y ∷ []) ≡ true
    → (list_any p xs ≡ true) ⊎ (p y ≡ true)
any-split p xs y h = by (list_any p xs) refl (p y) refl
  where
    by : (a : Bool) → list_any p xs ≡ a → (b : Bool) → p y ≡ b → (list_any p xs ≡ true) ⊎ (p y ≡ true)
    by true e b f = inl e
    by false e true f = inr f
    by false e false f = absurd (cc' e f)
      where
        cc' : list_any p xs ≡ false → p y ≡ false → ⊥
        cc' e f = grind (arith, list_any-append)

member-last : {X : Type 0} (xs : List X) (y z : X) → IsMember z (xs ++ y ∷ []) → IsMember z xs ⊎ (y ≡ z)
member-last [] y z (inl e) = inr e
member-last [] y z (inr m) = absurd m
member-last (x ∷ xs) y z (inl e) = inl (inl e)
member-last (x ∷ xs) y z (inr m) = elim (member-last xs y z m) [ inl i ↦ inl (inr i) | inr e ↦ inr e ]

member-append : {X : Type 0} (xs ys : List X) (z : X) → IsMember z (xs ++ ys) → IsMember z xs ⊎ IsMember z ys
member-append [] ys z m = inr m
member-append (x ∷ xs) ys z (inl e) = inl (inl e)
member-append (x ∷ xs) ys z (inr m) = elim (member-append xs ys z m) [ inl i ↦ inl (inr i) | inr i ↦ inr i ]

-- ---- one node

pub has-own : (n : Node) (x : Log) → has_node n (with_node n x) ≡ true
has-own (TypeNode t) x = any-last (same_ty names t) x.types t ((same_ty-is names tells_names t t).1 refl)
has-own (TermNode t) x = any-last (same_tm names t) x.terms t ((same_tm-is names tells_names t t).1 refl)

pub kept-with : (m n : Node) (x : Log) → has_node m x ≡ true → has_node m (with_node n x) ≡ true
kept-with (TypeNode t) (TypeNode u) x h = any-front (same_ty names t) x.types u h
kept-with (TypeNode t) (TermNode u) x h = h
kept-with (TermNode t) (TypeNode u) x h = h
kept-with (TermNode t) (TermNode u) x h = any-front (same_tm names t) x.terms u h

only-with : (m n : Node) (x : Log) → has_node m (with_node n x) ≡ true → (has_node m x ≡ true) ⊎ (m ≡ n)
only-with (TypeNode t) (TypeNode u) x h = elim (any-split (same_ty names t) x.types u h) [
  | inl e ↦ inl e
  | inr e ↦ inr (ap TypeNode ((same_ty-is names tells_names t u).0 e))
]
only-with (TypeNode t) (TermNode u) x h = inl h
only-with (TermNode t) (TypeNode u) x h = inl h
only-with (TermNode t) (TermNode u) x h = elim (any-split (same_tm names t) x.terms u h) [
  | inl e ↦ inl e
  | inr e ↦ inr (ap TermNode ((same_tm-is names tells_names t u).0 e))
]

-- a record adds tokens alone
pub has-put : (m n : Node) (x : Log) → has_node m (put (node_entry n) x) ≡ has_node m x
has-put m n x = refl

-- what a node becomes, by whether it is there
abbrev written_if : Bool → Node → Log → Log
written_if b n x = if b then x else with_node n (put (node_entry n) x)

kept-if : (b : Bool) (m n : Node) (x : Log) → has_node m x ≡ true → has_node m (written_if b n x) ≡ true
kept-if true m n x h = h
kept-if false m n x h = kept-with m n (put (node_entry n) x) (has-put m n x ∙ h)

pub kept-node : (m n : Node) (x : Log) → has_node m x ≡ true → has_node m (write_node n x) ≡ true
kept-node m n x h = kept-if (has_node n x) m n x h

only-if : (b : Bool) (m n : Node) (x : Log) → has_node m (written_if b n x) ≡ true → (has_node m x ≡ true) ⊎ (m ≡ n)
only-if true m n x h = inl h
only-if false m n x h =
    elim (only-with m n (put (node_entry n) x) h) [ inl e ↦ inl (sym (has-put m n x) ∙ e) | inr e ↦ inr e ]

only-node : (m n : Node) (x : Log) → has_node m (write_node n x) ≡ true → (has_node m x ≡ true) ⊎ (m ≡ n)
only-node m n x h = only-if (has_node n x) m n x h

own-if : (b : Bool) (n : Node) (x : Log) → has_node n x ≡ b → has_node n (written_if b n x) ≡ true
own-if true n x h = h
own-if false n x h = has-own n (put (node_entry n) x)

pub own-node : (n : Node) (x : Log) → has_node n (write_node n x) ≡ true
own-node n x = own-if (has_node n x) n x refl

-- ---- nodes one after another

pub nodes-append : (ns ms : List Node) (x : Log) → write_nodes (ns ++ ms) x ≡ write_nodes ms (write_nodes ns x)
nodes-append [] ms x = refl
nodes-append (n ∷ ns) ms x = nodes-append ns ms (write_node n x)

pub nodes-there : (ns : List Node) (x : Log) → HasNodes ns x → write_nodes ns x ≡ x
nodes-there [] x h = refl
nodes-there (n ∷ ns) x h = ap (λ b. write_nodes ns (written_if b n x)) h.0 ∙ nodes-there ns x h.1

pub kept-nodes : (m : Node) (ns : List Node) (x : Log) → has_node m x ≡ true → has_node m (write_nodes ns x) ≡ true
kept-nodes m [] x h = h
kept-nodes m (n ∷ ns) x h = kept-nodes m ns (write_node n x) (kept-node m n x h)

pub all-kept : (ms : List Node) (x y : Log) → ((m : Node) → has_node m x ≡ true → has_node m y ≡ true) → HasNodes ms x
    → HasNodes ms y
all-kept [] x y keeps h = tt
all-kept (m ∷ ms) x y keeps h = (keeps m h.0, all-kept ms x y keeps h.1)

pub nodes-has : (ns : List Node) (x : Log) → HasNodes ns (write_nodes ns x)
nodes-has [] x = tt
nodes-has (n ∷ ns) x = (kept-nodes n ns (write_node n x) (own-node n x), nodes-has ns (write_node n x))

pub has-append : (ns ms : List Node) (x : Log) → HasNodes ns x → HasNodes ms x → HasNodes (ns ++ ms) x
has-append [] ms x h k = k
has-append (n ∷ ns) ms x h k = (h.0, has-append ns ms x h.1 k)

only-nodes : (m : Node) (ns : List Node) (x : Log) → has_node m (write_nodes ns x) ≡ true
    → (has_node m x ≡ true) ⊎ IsMember m ns
only-nodes m [] x h = inl h
only-nodes m (n ∷ ns) x h = elim (only-nodes m ns (write_node n x) h) [
  | inl e ↦ elim (only-node m n x e) [ inl k ↦ inl k | inr k ↦ inr (inl (sym k)) ]
  | inr i ↦ inr (inr i)
]

-- ---- a type or a term is none of its parts

-- a type of at most this depth
abbrev IsLow : ℕ → Node → Type 0
IsLow d (TypeNode t) = depth_ty names t ≤ d
IsLow d (TermNode t) = ⊥

low-more : (d e : ℕ) (m : Node) → d ≤ e → IsLow d m → IsLow e m
low-more d e (TypeNode t) le h = omega (arith, le, h)
low-more d e (TermNode t) le h = h

own-low-by : (t : Ty Name) → ((m : Node) → IsMember m (type_parts t) → IsLow (depth_ty names t) m) → (m : Node)
    → IsMember m (type_nodes t) → IsLow (depth_ty names t) m
own-low-by t parts m i = elim (member-last (type_parts t) (TypeNode t) m i) [
  | inl j ↦ parts m j
  | inr e ↦ subst (IsLow (depth_ty names t)) e (omega arith)
]

mutual
  parts-low : (t : Ty Name) (m : Node) → IsMember m (type_parts t) → IsLow (depth_ty names t) m
  parts-low (TyVar n) m i = absurd i
  parts-low (TyOp n ts) m i = low-more (depth_all names ts) (suc (depth_all names ts)) m (omega arith)
      (types-low ts m i)

  types-low : (ts : Tys Name) (m : Node) → IsMember m (types_nodes ts) → IsLow (depth_all names ts) m
  types-low NoTys m i = absurd i
  types-low (MoreTys t ts) m i = elim (member-append (type_nodes t) (types_nodes ts) m i) [
    | inl j ↦
        low-more (depth_ty names t) (max (depth_ty names t) (depth_all names ts))
        m (omega arith) (own-low-by t (λ o k. parts-low t o k) m j)
    | inr j ↦ low-more (depth_all names ts) (max (depth_ty names t) (depth_all names ts)) m (omega arith)
        (types-low ts m j)
  ]

own-low : (t : Ty Name) (m : Node) → IsMember m (type_nodes t) → IsLow (depth_ty names t) m
own-low t = own-low-by t (parts-low t)

type-apart : (t : Ty Name) → IsMember (TypeNode t) (type_parts t) → ⊥
type-apart (TyVar n) i = i
type-apart (TyOp n ts) i = let h = types-low ts (TypeNode (TyOp n ts)) i in omega (arith, h)

-- a term of at most this depth, or a type
abbrev IsLowTerm : ℕ → Node → Type 0
IsLowTerm d (TypeNode t) = Unit {0}
IsLowTerm d (TermNode t) = depth_tm names t ≤ d

type-low : (d e : ℕ) (m : Node) → IsLow d m → IsLowTerm e m
type-low d e (TypeNode t) h = tt
type-low d e (TermNode t) h = absurd h

term-more : (d e : ℕ) (m : Node) → d ≤ e → IsLowTerm d m → IsLowTerm e m
term-more d e (TypeNode t) le h = tt
term-more d e (TermNode t) le h = omega (arith, le, h)

-- one less than the term's depth
abbrev inside : Tm Name → ℕ
inside t = depth_tm names t - 1

own-term-by : (t : Tm Name) → ((m : Node) → IsMember m (term_parts t) → IsLowTerm (inside t) m) → (m : Node)
    → IsMember m (term_nodes t) → IsLowTerm (depth_tm names t) m
own-term-by t parts m i = elim (member-last (term_parts t) (TermNode t) m i) [
  | inl j ↦ term-more (inside t) (depth_tm names t) m (omega arith) (parts m j)
  | inr e ↦ subst (IsLowTerm (depth_tm names t)) e (omega arith)
]

term-parts-low : (t : Tm Name) (m : Node) → IsMember m (term_parts t) → IsLowTerm (inside t) m
term-parts-low (Free v) m i = type-low (depth_ty names v.ty) (inside (Free v)) m (own-low v.ty m i)
term-parts-low (Con n t) m i = type-low (depth_ty names t) (inside (Con n t)) m (own-low t m i)
term-parts-low (Bound k) m i = absurd i
term-parts-low (App f x) m i = elim (member-append (term_nodes f) (term_nodes x) m i) [
  | inl j ↦ term-more (depth_tm names f) (inside (App f x)) m (omega arith)
      (own-term-by f (λ o k. term-parts-low f o k) m j)
  | inr j ↦ term-more (depth_tm names x) (inside (App f x)) m (omega arith)
      (own-term-by x (λ o k. term-parts-low x o k) m j)
]
term-parts-low (Abs t b) m i = elim (member-append (type_nodes t) (term_nodes b) m i) [
  | inl j ↦ type-low (depth_ty names t) (inside (Abs t b)) m (own-low t m j)
  | inr j ↦ term-more (depth_tm names b) (inside (Abs t b)) m (omega arith)
      (own-term-by b (λ o k. term-parts-low b o k) m j)
]

term-apart : (t : Tm Name) → IsMember (TermNode t) (term_parts t) → ⊥
term-apart (Free v) i = own-low v.ty (TermNode (Free v)) i
term-apart (Con n t) i = own-low t (TermNode (Con n t)) i
term-apart (Bound k) i = i
term-apart (App f x) i = let h = term-parts-low (App f x) (TermNode (App f x)) i in omega (arith, h)
term-apart (Abs t b) i = let h = term-parts-low (Abs t b) (TermNode (Abs t b)) i in omega (arith, h)

apart : (n : Node) → IsMember n (parts_of n) → ⊥
apart (TypeNode t) i = type-apart t i
apart (TermNode t) i = term-apart t i

-- ---- what was written was written with its parts

closed-if : (b : Bool) (n : Node) (x : Log) → has_node n x ≡ b → IsClosed x → HasNodes (parts_of n) x
    → IsClosed (written_if b n x)
closed-if true n x e c h = c
closed-if false n x e c h = λ m i. elim (only-if false m n x i) [
  | inl k ↦ all-kept (nodes_of m) x (written_if false n x) (λ o. kept-if false o n x) (c m k)
  | inr k ↦ subst (λ z. HasNodes (nodes_of z) (written_if false n x)) (sym k)
      (has-append (parts_of n) (n ∷ []) (written_if false n x)
      (all-kept (parts_of n) x (written_if false n x) (λ o. kept-if false o n x) h) (own-if false n x e, tt))
]

pub closed-node : (n : Node) (x : Log) → IsClosed x → HasNodes (parts_of n) x → IsClosed (write_node n x)
closed-node n x c h = closed-if (has_node n x) n x refl c h

-- a node behind its parts
closed-own : (n : Node) (x : Log) → IsClosed (write_nodes (parts_of n) x) → IsClosed (write_nodes (nodes_of n) x)
closed-own n x c =
    subst IsClosed (sym (nodes-append (parts_of n) (n ∷ []) x))
    (closed-node n (write_nodes (parts_of n) x) c (nodes-has (parts_of n) x))

closed-then : (ns ms : List Node) (x : Log) → IsClosed (write_nodes ms (write_nodes ns x))
    → IsClosed (write_nodes (ns ++ ms) x)
closed-then ns ms x c = subst IsClosed (sym (nodes-append ns ms x)) c

mutual
  pub closed-type_parts : (t : Ty Name) (x : Log) → IsClosed x → IsClosed (write_nodes (type_parts t) x)
  closed-type_parts (TyVar n) x c = c
  closed-type_parts (TyOp n ts) x c = closed-types ts x c

  pub closed-types : (ts : Tys Name) (x : Log) → IsClosed x → IsClosed (write_nodes (types_nodes ts) x)
  closed-types NoTys x c = c
  closed-types (MoreTys t ts) x c =
      closed-then (type_nodes t) (types_nodes ts) x
      (closed-types ts (write_nodes (type_nodes t) x) (closed-own (TypeNode t) x (closed-type_parts t x c)))

pub closed-type : (t : Ty Name) (x : Log) → IsClosed x → IsClosed (write_nodes (type_nodes t) x)
closed-type t x c = closed-own (TypeNode t) x (closed-type_parts t x c)

pub closed-term_parts : (t : Tm Name) (x : Log) → IsClosed x → IsClosed (write_nodes (term_parts t) x)
closed-term_parts (Free v) x c = closed-type v.ty x c
closed-term_parts (Con n t) x c = closed-type t x c
closed-term_parts (Bound k) x c = c
closed-term_parts (App f y) x c =
    let d = closed-own (TermNode f) x (closed-term_parts f x c) in
    closed-then (term_nodes f) (term_nodes y) x
    (closed-own (TermNode y) (write_nodes (term_nodes f) x) (closed-term_parts y (write_nodes (term_nodes f) x) d))
closed-term_parts (Abs t b) x c =
    closed-then (type_nodes t) (term_nodes b) x
    (closed-own (TermNode b) (write_nodes (type_nodes t) x)
    (closed-term_parts b (write_nodes (type_nodes t) x) (closed-type t x c)))

pub closed-term : (t : Tm Name) (x : Log) → IsClosed x → IsClosed (write_nodes (term_nodes t) x)
closed-term t x c = closed-own (TermNode t) x (closed-term_parts t x c)

-- ---- a node that is there, and a new one

pub node-there : (n : Node) (x : Log) → IsClosed x → has_node n x ≡ true → write_nodes (nodes_of n) x ≡ x
node-there n x c h = nodes-there (nodes_of n) x (c n h)

-- its parts don't bring it
pub node-absent : (n : Node) (x : Log) → has_node n x ≡ false → has_node n (write_nodes (parts_of n) x) ≡ false
node-absent n x h = by (has_node n (write_nodes (parts_of n) x)) refl
  where
    by : (b : Bool) → has_node n (write_nodes (parts_of n) x) ≡ b → has_node n (write_nodes (parts_of n) x) ≡ false
    by false e = e
    by true e =
        elim (only-nodes n (parts_of n) x e) [ inl k ↦ absurd (differ (sym k ∙ h)) | inr i ↦ absurd (apart n i) ]
      where
        differ : true ≡ false → ⊥
        differ p = cc

pub node-new : (n : Node) (x : Log) → has_node n x ≡ false
    → write_nodes (nodes_of n) x ≡ with_node n (put (node_entry n) (write_nodes (parts_of n) x))
node-new n x h = nodes-append (parts_of n) (n ∷ []) x ∙ ap (λ b. written_if b n (write_nodes (parts_of n) x))
    (node-absent n x h)
