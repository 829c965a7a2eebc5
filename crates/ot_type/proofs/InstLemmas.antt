-- Lemmas on substitution in the table of types.
use Rattle.std.proofs.Common.{◌≡◌, ℕ, ◌<◌, ◌≤◌, Bool, true, false, cond, nat_eq}
use Rattle.std.proofs.Common.{eqb-true, inl, inr, List, [], ◌∷◌, ◌++◌, length, slice_get}
use Rattle.std.proofs.Common.{Some, is_some, unwrap_or, true≢false, get_or, take, refl, sym, ap, subst, ◌∙◌, arith}
use Rattle.std.proofs.Common.{◌+◌}
use Rattle.std.specs.List.{All, AllZip}
use Rattle.std.specs.Map.{lookup}
use Rattle.std.proofs.lemmas.List.Elements.{All-head, All-tail, All-cons, All-nil, all_zip_more}
use Rattle.std.proofs.lemmas.Option.{get_or_from_slice_get, slice_get-get_or, slice_get_within, same_Some}
use Rattle.std.proofs.lemmas.Bool.{and_parts}
use Rattle.smallvec.specs.SmallVec.{SmallVec}
use Rattle.indexmap.specs.IndexMap.{IndexMap, insert_entry}
use Rattle.indexmap.proofs.CallerLemmas.{insert_entry-new}
use Rattle.ot_logic.specs.Trees.{Ty, Tys, TyVar, TyOp, NoTys, MoreTys}
use Rattle.ot_logic.specs.Lists.{IsMember}
use Rattle.ot_logic.specs.Hol.{depth_ty, depth_all, depth_limit, inst, inst_by, inst_all, type_at as image_of}
use Rattle.ot_logic.specs.Naming.{numbers}
use Rattle.ot_logic.specs.Bounds.{bound_ty, names_in}
use Rattle.ot_logic.specs.Table.{Extends}
use Rattle.ot_logic.proofs.TableLemmas.{Extends-trans}
use Rattle.ot_type.specs.TypeTable.{type_at, types_at, tree_of, images, is_ground, are_ground, IsTypeTable}
use Rattle.ot_type.specs.Instance.{IsMemo, IsInstance}
use Rattle.ot_type.proofs.SubtypeLemmas.{above, above-member}
use Rattle.ot_type.specs.declared.node.TypeNode.{TypeNode}
use Rattle.ot_type.specs.declared.node.TypeNode.TheVariants.{Var, Op}
use Rattle.ot_type.proofs.TypeTableLemmas.{type_at-Extends, node_op}
use Rattle.ot_type.proofs.NamesIn.{bound_ty-type_at}
use Rattle.ot_logic.proofs.Results.{none_from}
use Rattle.ot_logic.proofs.Members.{IsMember-get_or}

-- ---- a pair that is added to a substitution
-- a pair of a new name goes to the end
pub appended : {S : Type 0} (m : IndexMap ℕ ℕ S) (old : List (ℕ × ℕ)) → m.entries ≡ old → (n t : ℕ)
    → is_some (lookup (nat_eq n) m.entries) ≡ false → (new : List (ℕ × ℕ)) → new ≡ insert_entry nat_eq m.entries n t
    → (new ≡ old ++ (n, t) ∷ []) × (is_some (lookup (nat_eq n) old) ≡ false)
appended m old view n t absent new entries = (
  entries ∙ insert_entry-new nat_eq m n t (none_from _ absent)
      ∙ ap (λ es. es ++ (n, t) ∷ []) view,
  subst (λ es. is_some (lookup (nat_eq n) es) ≡ false) view absent,
)

-- ---- a substitution of no names
mutual
  pub inst-nothing : (t : Ty ℕ) → inst numbers [] t ≡ t
  inst-nothing (TyVar n) = refl
  inst-nothing (TyOp n ts) = ap (TyOp n) (all-nothing ts)

  all-nothing : (ts : Tys ℕ) → inst_all numbers (image_of numbers []) ts ≡ ts
  all-nothing NoTys = refl
  all-nothing (MoreTys t ts) = λ i. MoreTys (inst-nothing t i) (all-nothing ts i)

pub nothing_put : (ts : List (Ty ℕ)) (s : List (ℕ × ℕ)) (id : ℕ) → s ≡ [] → id < length ts
    → slice_get ts id ≡ Some (inst numbers (images ts s) (type_at ts id))
nothing_put ts s id none h = slice_get-get_or ts id (TyVar 0) h
    ∙ ap Some (sym (ap (λ p. inst numbers (images ts p) (type_at ts id)) none ∙ inst-nothing (type_at ts id)))

-- ---- a type in which no type variable stands
mutual
  inst-ground : (g : ℕ → Ty ℕ) (t : Ty ℕ) → is_ground t ≡ true → inst_by numbers g t ≡ t
  inst-ground g (TyVar n) p = absurd (true≢false (sym p))
  inst-ground g (TyOp n ts) p = ap (TyOp n) (all-ground g ts p)

  all-ground : (g : ℕ → Ty ℕ) (ts : Tys ℕ) → are_ground ts ≡ true → inst_all numbers g ts ≡ ts
  all-ground g NoTys p = refl
  all-ground g (MoreTys t ts) p =
      let parts = and_parts (is_ground t) (are_ground ts) p in
      λ i. MoreTys (inst-ground g t parts.0 i) (all-ground g ts parts.1 i)

pub ground_put : (ts : List (Ty ℕ)) (s : List (ℕ × ℕ)) (id : ℕ) → is_ground (type_at ts id) ≡ true → id < length ts
    → slice_get ts id ≡ Some (inst numbers (images ts s) (type_at ts id))
ground_put ts s id ground h = slice_get-get_or ts id (TyVar 0) h
    ∙ ap Some (sym (inst-ground (image_of numbers (images ts s)) (type_at ts id) ground))

-- ---- what stays when the table grows
pub images-Extends : (ts us : List (Ty ℕ)) → Extends ts us → (s : List (ℕ × ℕ)) → All (λ p. p.1 < length ts) s
    → images us s ≡ images ts s
images-Extends ts us e [] h = refl
images-Extends ts us e (p ∷ s) h =
    let head = type_at-Extends ts us e p.1 (All-head (λ p. p.1 < length ts) p s h) in
    let tail = images-Extends ts us e s (All-tail (λ p. p.1 < length ts) p s h) in
    λ j. (p.0, head j) ∷ tail j

pub IsMemo-Extends : (ts us : List (Ty ℕ)) → Extends ts us → (s : List (ℕ × Ty ℕ)) (es : List (ℕ × ℕ))
    → IsMemo ts s es → IsMemo us s es
IsMemo-Extends ts us e s es memo = record {
  known = λ k v p.
      let h = memo.known k v p in (
        omega (arith, e.longer, h.0),
        e.keeps v _ h.1
            ∙ ap (λ t. Some (inst numbers s t)) (sym (type_at-Extends ts us e k h.0)),
      );
}

-- ---- one more result
pub IsMemo-insert : (ts : List (Ty ℕ)) (s : List (ℕ × Ty ℕ)) (old new : List (ℕ × ℕ)) (k v : ℕ) → IsMemo ts s old
    → k < length ts → slice_get ts v ≡ Some (inst numbers s (type_at ts k))
    → ((q : ℕ) → lookup (nat_eq q) new ≡ cond (nat_eq k q) (Some v) (lookup (nat_eq q) old)) → IsMemo ts s new
IsMemo-insert ts s old new k v memo within tree after =
    record { known = λ q w p. by q w (nat_eq k q) refl (sym (after q) ∙ p) }
  where
    by : (q w : ℕ) (b : Bool) → nat_eq k q ≡ b → cond (nat_eq k q) (Some v) (lookup (nat_eq q) old) ≡ Some w
        → (q < length ts) × (slice_get ts w ≡ Some (inst numbers s (type_at ts q)))
    by q w true e p =
        let same : k ≡ q = eqb-true k q e in
        let value : v ≡ w = same_Some v w (sym (ap (λ b. cond b (Some v) (lookup (nat_eq q) old)) e) ∙ p) in (
          subst (λ q. q < length ts) same within,
          subst (λ w. slice_get ts w ≡ Some (inst numbers s (type_at ts q)))
              value (subst (λ q. slice_get ts v ≡ Some (inst numbers s (type_at ts q))) same tree),
        )
    by q w false e p = memo.known q w (sym (ap (λ b. cond b (Some v) (lookup (nat_eq q) old)) e) ∙ p)

-- ---- a walk over types, one by one
-- a list of instances is as deep as that of each, at least
member_deep : (ts : List (Ty ℕ)) (g : ℕ → Ty ℕ) (ids : List ℕ) (k : ℕ) → IsMember k ids
    → depth_ty numbers (inst_by numbers g (type_at ts k)) ≤ depth_all numbers (inst_all numbers g (types_at ts ids))
member_deep ts g [] k m = absurd m
member_deep ts g (i ∷ is) k (inl e) =
    omega (arith, ap (λ i. depth_ty numbers (inst_by numbers g (type_at ts i))) e)
member_deep ts g (i ∷ is) k (inr m) = omega (arith, member_deep ts g is k m)

-- ts is the table at first, us the table now, and found the instances so far
pub record IsGoingOn (s : List (ℕ × ℕ)) (ts us : List (Ty ℕ)) (es : List (ℕ × ℕ)) (ids found : List ℕ) : Type
    0 where
  pub extends : Extends ts us
  pub table : IsTypeTable us
  pub names : names_in us ≤ names_in ts
  pub memo : IsMemo us (images us s) es
  pub each : AllZip (IsInstance ts us s) ids found

-- instances stay where the table grows
each_stays : (s : List (ℕ × ℕ)) (ts us vs : List (Ty ℕ)) → Extends us vs → (ids found : List ℕ)
    → AllZip (IsInstance ts us s) ids found → AllZip (IsInstance ts vs s) ids found
each_stays s ts us vs e [] [] h = h
each_stays s ts us vs e [] (y ∷ ys) h = h
each_stays s ts us vs e (x ∷ xs) [] h = h
each_stays s ts us vs e (x ∷ xs) (y ∷ ys) h = (e.keeps y _ h.0, each_stays s ts us vs e xs ys h.1)

-- all pairs of a substitution stay in a table that grows
pub pairs_stay : (ts us : List (Ty ℕ)) → Extends ts us → (s : List (ℕ × ℕ)) → All (λ p. p.1 < length ts) s
    → All (λ p. p.1 < length us) s
pairs_stay ts us e s h = λ i d within. let below = h i d within in omega (arith, e.longer)

-- the instance of a type, in the table at first and in one that grew
module _ (s : List (ℕ × ℕ)) (ts us : List (Ty ℕ)) (e : Extends ts us) (pairs : All (λ p. p.1 < length ts) s) (k : ℕ)
    (within : k < length ts) where
  pub same_instance : inst numbers (images us s) (type_at us k) ≡ inst numbers (images ts s) (type_at ts k)
  same_instance = λ j. inst numbers (images-Extends ts us e s pairs j) (type_at-Extends ts us e k within j)

module _ (s : List (ℕ × ℕ)) (ts us : List (Ty ℕ)) (es : List (ℕ × ℕ)) (ids found : List ℕ) (i k : ℕ)
    (pairs : All (λ p. p.1 < length ts) s) (all : All (λ i. i < length ts) ids) (there : i < length ids)
    (item : k ≡ get_or ids i k) (before : IsGoingOn s ts us es (take i ids) found) where
  -- the next type
  pub item_within : k < length ts
  item_within = subst (λ j. j < length ts) (sym item) (all i k there)

  item_member : IsMember k ids
  item_member = subst (λ j. IsMember j ids) (sym item) (IsMember-get_or ids i k there)

  pub item_low : k < above ids
  item_low = above-member ids k item_member

  pub item_now : k < length us
  item_now = omega (arith, item_within, before.extends.longer)

  -- its refusal is the whole's
  pub item_nesting : depth_limit < depth_ty numbers (inst numbers (images us s) (type_at us k))
      → depth_limit < depth_all numbers (inst_all numbers (image_of numbers (images ts s)) (types_at ts ids))
  item_nesting h =
      omega (
        arith,
        subst (λ u. depth_limit < depth_ty numbers u)
            (same_instance s ts us before.extends pairs k item_within) h,
        member_deep ts (image_of numbers (images ts s)) ids k item_member,
      )

  -- with its instance the walk goes on
  pub goes_on : (vs : List (Ty ℕ)) (fs : List (ℕ × ℕ)) (v : ℕ) → Extends us vs → IsTypeTable vs
      → names_in vs ≤ names_in us → slice_get vs v ≡ Some (inst numbers (images us s) (type_at us k))
      → IsMemo vs (images vs s) fs → IsGoingOn s ts vs fs (take (i + 1) ids) (found ++ v ∷ [])
  goes_on vs fs v e table names tree memo = record {
    extends = Extends-trans before.extends e;
    table = table;
    names = omega (arith, names, before.names);
    memo = memo;
    each = all_zip_more (IsInstance ts vs s) ids found i k v there item
        (each_stays s ts us vs e (take i ids) found before.each)
        (tree ∙ ap Some (same_instance s ts us before.extends pairs k item_within));
  }

-- ---- the arguments are done
module _ (ts us : List (Ty ℕ)) (s : List (ℕ × ℕ)) where
  pub results_below : (ids found : List ℕ) → AllZip (IsInstance ts us s) ids found → All (λ i. i < length us) found
  results_below [] [] h = All-nil (λ i. i < length us)
  results_below [] (y ∷ ys) h = absurd h
  results_below (x ∷ xs) [] h = absurd h
  results_below (x ∷ xs) (y ∷ ys) h =
      All-cons (λ i. i < length us) y ys (slice_get_within us y _ h.0) (results_below xs ys h.1)

  results_trees : (ids found : List ℕ) → AllZip (IsInstance ts us s) ids found
      → types_at us found ≡ inst_all numbers (image_of numbers (images ts s)) (types_at ts ids)
  results_trees [] [] h = refl
  results_trees [] (y ∷ ys) h = absurd h
  results_trees (x ∷ xs) [] h = absurd h
  results_trees (x ∷ xs) (y ∷ ys) h =
      let head = get_or_from_slice_get us y _ (TyVar 0) h.0 in
      let tail = results_trees xs ys h.1 in
      λ j. MoreTys (head j) (tail j)

  -- with the name they make the instance
  pub instance_op : (id : ℕ) (node : TypeNode) (n : ℕ) (a : SmallVec ℕ) (ids found out : List ℕ)
      → slice_get ts id ≡ Some (tree_of ts node) → node ≡ Op n a → ids ≡ a.items
      → AllZip (IsInstance ts us s) ids found → out ≡ found
      → TyOp n (types_at us out) ≡ inst numbers (images ts s) (type_at ts id)
  instance_op id node n a ids found out tree is items each same =
      ap (λ is. TyOp n (types_at us is)) same ∙ ap (TyOp n) (results_trees ids found each)
      ∙ ap (inst numbers (images ts s)) (sym (node_op ts id node n a ids tree is items))

-- ---- the cases of a node
-- the name of an operator is one of the table's
pub name_within : (ts : List (Ty ℕ)) (id : ℕ) (node : TypeNode) (n : ℕ) (a : SmallVec ℕ)
    → slice_get ts id ≡ Some (tree_of ts node) → node ≡ Op n a → n < names_in ts
name_within ts id node n a tree is =
    let root : type_at ts id ≡ TyOp n (types_at ts a.items) = get_or_from_slice_get ts id _ (TyVar 0) tree
    ∙ ap (tree_of ts) is in
    let within : id < length ts = slice_get_within ts id _ tree in
    let bound : bound_ty (TyOp n (types_at ts a.items)) ≤ names_in ts =
    subst (λ t. bound_ty t ≤ names_in ts) root (bound_ty-type_at ts id within) in
    omega (arith, bound)

-- the type in the place of a variable
image_at : (ts : List (Ty ℕ)) (n id : ℕ) → slice_get ts id ≡ Some (TyVar n) → (s : List (ℕ × ℕ))
    → All (λ p. p.1 < length ts) s → slice_get ts (unwrap_or (lookup (nat_eq n) s) id)
    ≡ Some (image_of numbers (images ts s) n)
image_at ts n id tree [] h = tree
image_at ts n id tree (q ∷ s) h = by (nat_eq n q.0) (image_at ts n id tree s (All-tail (λ p. p.1 < length ts) q s h))
  where
    by : (b : Bool) → slice_get ts (unwrap_or (lookup (nat_eq n) s) id) ≡ Some (image_of numbers (images ts s) n)
        → slice_get ts (unwrap_or (cond b (Some q.1) (lookup (nat_eq n) s)) id)
        ≡ Some (cond b (type_at ts q.1) (image_of numbers (images ts s) n))
    by true rest = slice_get-get_or ts q.1 (TyVar 0) (All-head (λ p. p.1 < length ts) q s h)
    by false rest = rest

pub instance_var : (ts : List (Ty ℕ)) (id : ℕ) (node : TypeNode) (n : ℕ) (s : List (ℕ × ℕ)) (r : ℕ)
    → slice_get ts id ≡ Some (tree_of ts node) → node ≡ Var n → All (λ p. p.1 < length ts) s
    → r ≡ unwrap_or (lookup (nat_eq n) s) id → slice_get ts r ≡ Some (inst numbers (images ts s) (type_at ts id))
instance_var ts id node n s r tree is pairs value =
    let here : slice_get ts id ≡ Some (TyVar n) = tree ∙ ap (λ m. Some (tree_of ts m)) is in
    let root : type_at ts id ≡ TyVar n = get_or_from_slice_get ts id _ (TyVar 0) here in
    ap (slice_get ts) value ∙ image_at ts n id here s pairs ∙ ap (λ t. Some (inst numbers (images ts s) t)) (sym root)
