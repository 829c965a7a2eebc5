-- The order of the blocks is a walk: what the laws of walks say of it.
use Rattle.std.proofs.Common.{◌≡◌, ◌≢◌, ◌<◌, ℕ, zero, suc, List, [], ◌∷◌, ◌++◌, Result, Ok, Err, map, length}
use Rattle.std.proofs.Common.{inl, inr, refl, sym, ap, subst, ◌∙◌, arith, eqb}
use Rattle.std.proofs.lemmas.Bool.Decides.{Decides-eqb, eqb_tells}
use Rattle.ot_logic.specs.Lists.{IsMember}
use Rattle.ot_walk.specs.Walk.{Edge}
use Rattle.ot_walk.specs.Walks as walks
use Rattle.ot_walk.proofs.Walking.{gives_walk, gives_stop}
use Rattle.ot_walk.proofs.Turns.{gives_last}
use Rattle.ot_walk.proofs.Ending as ending
use Rattle.ot_blocks.specs.Order.{imports_at, edge_of, edges_of, edge_to}
use Rattle.ot_blocks.specs.Ordering.{NamesBlocks, Reaches, Here, Along, HasCycleAt, EndsAlways, GivesOrder, GivesCycle}
use Rattle.ot_blocks.specs.declared.walk.Import.{Import}

pub member_map : {X Y : Type 0} (f : X → Y) (xs : List X) (y : Y) → IsMember y (map f xs)
    → (x : X) × IsMember x xs × (f x ≡ y)
member_map f [] y m = absurd m
member_map f (x ∷ xs) y m = elim m [
  | inl e ↦ (x, inl refl, e)
  | inr h ↦ let (z, there, is) = member_map f xs y h in (z, inr there, is)
]

map_member : {X Y : Type 0} (f : X → Y) (xs : List X) (x : X) → IsMember x xs → IsMember (f x) (map f xs)
map_member f [] x m = absurd m
map_member f (y ∷ ys) x (inl e) = inl (ap f e)
map_member f (y ∷ ys) x (inr m) = inr (map_member f ys x m)

-- the blocks of a file
abbrev below : ℕ → List ℕ
below zero = []
below (suc n) = n ∷ below n

length-below : (n : ℕ) → length (below n) ≡ n
length-below zero = refl
length-below (suc n) = ap suc (length-below n)

is_below : (n b : ℕ) → b < n → IsMember b (below n)
is_below zero b lt = absurd (omega (arith, lt))
is_below (suc n) b lt = elim (eqb_tells n b) [
  | inl e ↦ inl e.1
  | inr e ↦ inr (is_below n b (let other = e.1 in omega (arith, lt, other)))
]

same_target : (x y : ℕ) → ◌≡◌ {A = Result ℕ ℕ} (Ok x) (Ok y) → x ≡ y
same_target x y e = cc

module _ (g : List (List Import)) where
  -- the import that an edge is
  import_of : (b : ℕ) (e : Edge ℕ ℕ) → walks.HasEdge (edges_of g) b e
      → (i : Import) × IsMember i (imports_at g b) × (edge_of i ≡ e)
  import_of b e h =
      let same : map edge_of (imports_at g b) ≡ h.all = let are = h.are in cc in
      member_map edge_of (imports_at g b) e (subst (IsMember e) (sym same) h.here)

  target_of : (i : Import) (e : Edge ℕ ℕ) (k : ℕ) → edge_of i ≡ e → e.target ≡ Ok k → i.block ≡ k
  target_of i e k is t = same_target i.block k (ap (λ z. z.target) is ∙ t)

  reaches_import : (a b : ℕ) → Reaches g a b → (i : Import) → IsMember i (imports_at g b) → Reaches g a i.block
  reaches_import _ _ (Here b) i m = Along b i.block i m (Here i.block)
  reaches_import _ _ (Along a b j is_import rest) i m =
      Along a i.block j is_import (reaches_import j.block b rest i m)

  further : (a b c : ℕ) (e : Edge ℕ ℕ) → Reaches g a b → walks.HasEdge (edges_of g) b e → e.target ≡ Ok c
      → Reaches g a c
  further a b c e r h t =
      let (i, m, is) = import_of b e h in
      subst (Reaches g a) (target_of i e c is t) (reaches_import a b r i m)

  reaches : (main b : ℕ) → walks.Reaches (edges_of g) (edge_to main ∷ []) b → Reaches g main b
  reaches main _ (walks.First k e (inl is) t) =
      subst (Reaches g main) (same_target main k (ap (λ z. z.target) is ∙ t)) (Here main)
  reaches main _ (walks.First k e (inr m) t) = absurd m
  reaches main _ (walks.Further j k e r h t) = further main j k e (reaches main j r) h t

  leads : (a b : ℕ) → walks.Leads (edges_of g) a b → Reaches g a b
  leads _ _ (walks.Here k) = Here k
  leads _ _ (walks.Along a b c e l h t) = further a b c e (leads a b l) h t

  -- each edge leads to a block
  no_fault : (main fault : ℕ) (e : Edge ℕ ℕ) → walks.IsReached (edges_of g) (edge_to main ∷ []) e
      → e.target ≡ Err fault → ⊥
  no_fault main fault e (inl (inl is)) t = let at = ap (λ z. z.target) is in cc
  no_fault main fault e (inl (inr m)) t = absurd m
  no_fault main fault e (inr (k, r, h)) t =
      let (i, m, is) = import_of k e h in let at = ap (λ z. z.target) is in cc

  has_cycle : (main line : ℕ) → walks.HasStop (edges_of g) (edge_to main ∷ []) line → HasCycleAt g main line
  has_cycle main line (walks.NoEdges k fault r are) = absurd cc
  has_cycle main line (walks.NoTarget e fault r t) = absurd (no_fault main fault e r t)
  has_cycle main _ (walks.Cycle j k e r h t l) =
      let (i, m, is) = import_of j e h in
      record {
        block = j;
        reached = reaches main j r;
        back = i;
        is_import = m;
        in_line = ap (λ z. z.back) is;
        returns = subst (λ z. Reaches g z j) (sym (target_of i e k is t)) (leads k j l);
      }

pub ends_always : EndsAlways
ends_always g main inside lt =
    ending.ends_always eqb Decides-eqb (edges_of g) (below (length g)) (edge_to main ∷ []) (length g)
    (record {
      first = λ e k m t. elim m [
        | inl is ↦
            subst (λ z. IsMember z (below (length g))) (same_target main k (ap (λ z. z.target) is ∙ t))
            (is_below (length g) main lt)
        | inr none ↦ absurd none
      ];
      later = λ e j k h t.
          let (i, m, is) = import_of g j e h in
          subst (λ z. IsMember z (below (length g))) (target_of g i e k is t)
          (is_below (length g) i.block (inside j i m));
    })
    (omega (arith, length-below (length g)))

pub gives_order : GivesOrder
gives_order g main order e =
    let walk = gives_walk eqb Decides-eqb (edges_of g) (length g) (edge_to main ∷ []) order e in
    record {
      once = walk.once;
      main_last = gives_last eqb (edges_of g) (length g) (edge_to main) main order e refl;
      imports_first = λ front back b cut i m.
          let (es, are, into) = walk.behind front back b cut in
          let same : map edge_of (imports_at g b) ≡ es = cc in
          let (k, t, here) = into (edge_of i) (subst (IsMember (edge_of i)) same
          (map_member edge_of (imports_at g b) i m)) in
          subst (λ z. IsMember z front) (sym (same_target i.block k t)) here;
      reached = λ b m. reaches g main b (walk.reached b m);
    }

pub gives_cycle : GivesCycle
gives_cycle g main line e =
    has_cycle g main line (gives_stop eqb Decides-eqb (edges_of g) (length g) (edge_to main ∷ []) line e)
