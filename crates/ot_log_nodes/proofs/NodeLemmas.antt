-- The table's nodes meet the laws of nodes.
use Rattle.std.proofs.Common.{◌≡◌, ℕ, ◌<◌, ◌≤◌, Bool, true, false, List, [], ◌∷◌, length, slice_get, Some, None}
use Rattle.std.proofs.Common.{position, ◌++◌, nat_eq, eq-eqb, eqb-true, true≢false, refl, sym, ap, subst, ◌∙◌, arith}
use Rattle.std.specs.Prelude.{IsTrue, ◌↔◌}
use Rattle.std.specs.List.{All}
use Rattle.std.specs.Cmp.Lexicographic.{pointwise}
use Rattle.std.specs.Cmp.Derive.{both_true}
use Rattle.std.proofs.lemmas.Option.{none-some}
use Rattle.std.proofs.lemmas.List.Elements.{All-head, All-tail}
use Rattle.std.proofs.lemmas.Slice.Eq.{bytes_eq-Decides}
use Rattle.ot_logic.specs.Names.{Name, same_name-Decides}
use Rattle.ot_logic.specs.Trees.{Ty, TyVar, TyOp, Tm, Free, Con, Bound, App, Abs}
use Rattle.ot_logic.specs.Table.{Extends, IsInjective}
use Rattle.ot_logic.specs.Naming.{names}
use Rattle.ot_logic.specs.Interned.{NodeLaws, IsSound}
use Rattle.ot_logic.proofs.TableLemmas.{get_or-Extends, Extends-refl}
use Rattle.ot_logic.proofs.InternedLemmas.{pushed, Pushed}
use Rattle.std.specs.Map.{keys_of, lookup}
use Rattle.std.proofs.lemmas.Bool.{and_parts}
use Rattle.indexmap.specs.IndexMap.{IndexMap, keys, insert_entry}
use Rattle.indexmap.proofs.CallerLemmas.{insert_entry-new}
use Rattle.ot_log_nodes.specs.Items.{Item, NameItem, TypeItem, TermItem, as_name, as_type, as_term, HasName}
use Rattle.ot_log_nodes.specs.Items.{HasType, HasTerm, name_at, type_at, term_at, types_at, first_items}
use Rattle.ot_log_nodes.specs.Below.{AreTypesBelow, AreTermsBelow, AreBelow, is_name_node, is_type_node, is_term_node}
use Rattle.ot_log_nodes.specs.Table.{type_tree, term_tree, tree_of, HasTypeParts, HasTermParts}
use Rattle.ot_log_nodes.specs.Table.{HasParts, IsBeside, Fits, items_of, IsTable}
use Rattle.ot_log_nodes.specs.declared.node.TypeNode.{TypeNode}
use Rattle.ot_log_nodes.specs.declared.node.TypeNode.TheVariants as ty
use Rattle.ot_log_nodes.specs.declared.node.TermNode.{TermNode}
use Rattle.ot_log_nodes.specs.declared.node.TermNode.TheVariants as tm
use Rattle.ot_log_nodes.specs.declared.node.Node.{Node}
use Rattle.ot_log_nodes.specs.declared.node.Node.TheVariants as node
use Rattle.ot_log_nodes.specs.declared.table.NodeInfo.{NodeInfo}
use Rattle.ot_log_nodes.specs.contracts.node.NodePartialEq.TheImpl as derived
use Rattle.ot_log_nodes.specs.contracts.node.TypeNodePartialEq.TheImpl as derived_type
use Rattle.ot_log_nodes.specs.contracts.node.TermNodePartialEq.TheImpl as derived_term
use Rattle.ot_log_nodes.proofs.ItemLemmas.{has-name, has-type, has-term, name-within, type-within}
use Rattle.ot_log_nodes.proofs.ItemLemmas.{term-within, still-name, still-type, still-term}
use Rattle.ot_log_nodes.proofs.ItemLemmas.{still-types, name-one, type-one, term-one, types-one}

-- the derived tests
abbrev pub node_eq : Node → Node → Bool
node_eq = derived.ghosts.eq

abbrev pub type_eq : TypeNode → TypeNode → Bool
type_eq = derived_type.ghosts.eq

abbrev pub term_eq : TermNode → TermNode → Bool
term_eq = derived_term.ghosts.eq

-- ---- parts below a number
types_below : (j k : ℕ) → j ≤ k → (n : TypeNode) → AreTypesBelow j n → AreTypesBelow k n
types_below j k le (ty.Var n) h = omega arith
types_below j k le (ty.Op n args) h = (omega (arith, h.0), λ i d within. let below = h.1 i d within in omega arith)

terms_below : (j k : ℕ) → j ≤ k → (n : TermNode) → AreTermsBelow j n → AreTermsBelow k n
terms_below j k le (tm.Free v) h = (omega (arith, h.0), omega (arith, h.1))
terms_below j k le (tm.Const n t) h = (omega (arith, h.0), omega (arith, h.1))
terms_below j k le (tm.Bound i) h = h
terms_below j k le (tm.App f x) h = (omega (arith, h.0), omega (arith, h.1))
terms_below j k le (tm.Abs t b) h = (omega (arith, h.0), omega (arith, h.1))

more_below : (j k : ℕ) → j ≤ k → (n : Node) → AreBelow j n → AreBelow k n
more_below j k le (node.Name n) h = h
more_below j k le (node.Ty n) h = types_below j k le n h
more_below j k le (node.Tm n) h = terms_below j k le n h

-- the parts of a node are of the table
pub parts-below : (ts : List Item) (n : Node) → HasParts ts n → AreBelow (length ts) n
parts-below ts (node.Name n) h = tt
parts-below ts (node.Ty (ty.Var n)) h = name-within ts n h
parts-below ts (node.Ty (ty.Op n args)) h = (name-within ts n h.0, λ k d within. type-within ts _ (h.1 k d within))
parts-below ts (node.Tm (tm.Free v)) h = (name-within ts v.name h.0, type-within ts v.ty h.1)
parts-below ts (node.Tm (tm.Const n t)) h = (name-within ts n h.0, type-within ts t h.1)
parts-below ts (node.Tm (tm.Bound k)) h = tt
parts-below ts (node.Tm (tm.App f x)) h = (term-within ts f h.0, term-within ts x h.1)
parts-below ts (node.Tm (tm.Abs t b)) h = (type-within ts t h.0, term-within ts b h.1)

-- ---- a table that grows
module _ (ts us : List Item) (e : Extends ts us) where
  name_kept : (i : ℕ) → i < length ts → name_at us i ≡ name_at ts i
  name_kept i h = ap as_name (get_or-Extends ts us e i (NameItem []) h)

  type_kept : (i : ℕ) → i < length ts → type_at us i ≡ type_at ts i
  type_kept i h = ap as_type (get_or-Extends ts us e i (NameItem []) h)

  term_kept : (i : ℕ) → i < length ts → term_at us i ≡ term_at ts i
  term_kept i h = ap as_term (get_or-Extends ts us e i (NameItem []) h)

  types_kept : (is : List ℕ) → All (λ i. i < length ts) is → types_at us is ≡ types_at ts is
  types_kept [] h = refl
  types_kept (i ∷ is) h =
      let head = type_kept i (All-head (λ i. i < length ts) i is h) in
      let tail = types_kept is (All-tail (λ i. i < length ts) i is h) in
      cc

  tree_stays : (n : Node) → AreBelow (length ts) n → tree_of us n ≡ tree_of ts n
  tree_stays (node.Name n) h = refl
  tree_stays (node.Ty (ty.Var n)) h = ap (λ m. TypeItem (TyVar m)) (name_kept n h)
  tree_stays (node.Ty (ty.Op n args)) h =
      let name = name_kept n h.0 in
      let types = types_kept args.items h.1 in
      λ j. TypeItem (TyOp (name j) (types j))
  tree_stays (node.Tm (tm.Free v)) h =
      let name = name_kept v.name h.0 in
      let type = type_kept v.ty h.1 in
      λ j. TermItem (Free (record { name = name j; ty = type j }))
  tree_stays (node.Tm (tm.Const n t)) h =
      let name = name_kept n h.0 in
      let type = type_kept t h.1 in
      λ j. TermItem (Con (name j) (type j))
  tree_stays (node.Tm (tm.Bound k)) h = refl
  tree_stays (node.Tm (tm.App f x)) h =
      let left = term_kept f h.0 in
      let right = term_kept x h.1 in
      λ j. TermItem (App (left j) (right j))
  tree_stays (node.Tm (tm.Abs t b)) h =
      let type = type_kept t h.0 in
      let body = term_kept b h.1 in
      λ j. TermItem (Abs (type j) (body j))

  parts_stay : (n : Node) → HasParts ts n → HasParts us n
  parts_stay (node.Name n) h = tt
  parts_stay (node.Ty (ty.Var n)) h = still-name ts us e n h
  parts_stay (node.Ty (ty.Op n args)) h = (still-name ts us e n h.0, still-types ts us e args.items h.1)
  parts_stay (node.Tm (tm.Free v)) h = (still-name ts us e v.name h.0, still-type ts us e v.ty h.1)
  parts_stay (node.Tm (tm.Const n t)) h = (still-name ts us e n h.0, still-type ts us e t h.1)
  parts_stay (node.Tm (tm.Bound k)) h = tt
  parts_stay (node.Tm (tm.App f x)) h = (still-term ts us e f h.0, still-term ts us e x h.1)
  parts_stay (node.Tm (tm.Abs t b)) h = (still-type ts us e t h.0, still-term ts us e b h.1)

-- ---- nodes that pass the test stand for one thing
type_same : (ts : List Item) (m n : TypeNode) → type_eq m n ≡ true → type_tree ts m ≡ type_tree ts n
type_same ts (ty.Var m) (ty.Var n) p = ap (λ i. TyVar (name_at ts i)) (eqb-true m n p)
type_same ts (ty.Op m xs) (ty.Op n ys) p =
    let parts = and_parts (nat_eq m n) (pointwise nat_eq xs.items ys.items) p in
    λ j. TyOp (name_at ts (eqb-true m n parts.0 j)) (types_at ts ((bytes_eq-Decides xs.items ys.items).0 parts.1 j))
type_same ts _ _ p = absurd (true≢false (sym p))

term_same : (ts : List Item) (m n : TermNode) → term_eq m n ≡ true → term_tree ts m ≡ term_tree ts n
term_same ts (tm.Free v) (tm.Free w) p =
    let parts = and_parts (nat_eq v.name w.name) (nat_eq v.ty w.ty) p in
    let name = eqb-true v.name w.name parts.0 in
    let type = eqb-true v.ty w.ty parts.1 in
    λ j. Free (record { name = name_at ts (name j); ty = type_at ts (type j) })
term_same ts (tm.Const n t) (tm.Const m u) p =
    let parts = and_parts (nat_eq n m) (nat_eq t u) p in
    let name = eqb-true n m parts.0 in
    let type = eqb-true t u parts.1 in
    λ j. Con (name_at ts (name j)) (type_at ts (type j))
term_same ts (tm.Bound i) (tm.Bound k) p = ap Bound (eqb-true i k p)
term_same ts (tm.App f x) (tm.App g y) p =
    let parts = and_parts (nat_eq f g) (nat_eq x y) p in
    let left = eqb-true f g parts.0 in
    let right = eqb-true x y parts.1 in
    λ j. App (term_at ts (left j)) (term_at ts (right j))
term_same ts (tm.Abs t b) (tm.Abs u c) p =
    let parts = and_parts (nat_eq t u) (nat_eq b c) p in
    let type = eqb-true t u parts.0 in
    let body = eqb-true b c parts.1 in
    λ j. Abs (type_at ts (type j)) (term_at ts (body j))
term_same ts _ _ p = absurd (true≢false (sym p))

tree_same : (ts : List Item) (m n : Node) → node_eq m n ≡ true → tree_of ts m ≡ tree_of ts n
tree_same ts (node.Name a) (node.Name b) p = ap NameItem ((same_name-Decides a b).0 p)
tree_same ts (node.Ty m) (node.Ty n) p = ap TypeItem (type_same ts m n p)
tree_same ts (node.Tm m) (node.Tm n) p = ap TermItem (term_same ts m n p)
tree_same ts _ _ p = absurd (true≢false (sym p))

-- ---- and the other way
abbrev variable_name : Tm Name → Name
variable_name (Free v) = v.name
variable_name _ = []

abbrev variable_type : Tm Name → Ty Name
variable_type (Free v) = v.ty
variable_type _ = TyVar []

module _ (ts : List Item) (one : IsInjective ts) where
  same_type : (m n : TypeNode) → HasTypeParts ts m → HasTypeParts ts n → type_tree ts m ≡ type_tree ts n
      → type_eq m n ≡ true
  same_type (ty.Var m) (ty.Var n) g h p =
      let e : name_at ts m ≡ name_at ts n = cc in
      eq-eqb m n (name-one ts one m n g h e)
  same_type (ty.Op m xs) (ty.Op n ys) g h p =
      let name : name_at ts m ≡ name_at ts n = cc in
      let args : types_at ts xs.items ≡ types_at ts ys.items = cc in
      both_true (eq-eqb m n (name-one ts one m n g.0 h.0 name))
      ((bytes_eq-Decides xs.items ys.items).1 (types-one ts one xs.items ys.items g.1 h.1 args))
  same_type _ _ g h p = cc

  same_term : (m n : TermNode) → HasTermParts ts m → HasTermParts ts n → term_tree ts m ≡ term_tree ts n
      → term_eq m n ≡ true
  same_term (tm.Free v) (tm.Free w) g h p =
      let name : name_at ts v.name ≡ name_at ts w.name = ap variable_name p in
      let type : type_at ts v.ty ≡ type_at ts w.ty = ap variable_type p in
      both_true (eq-eqb v.name w.name (name-one ts one v.name w.name g.0 h.0 name))
      (eq-eqb v.ty w.ty (type-one ts one v.ty w.ty g.1 h.1 type))
  same_term (tm.Const n t) (tm.Const m u) g h p =
      let name : name_at ts n ≡ name_at ts m = cc in
      let type : type_at ts t ≡ type_at ts u = cc in
      both_true (eq-eqb n m (name-one ts one n m g.0 h.0 name)) (eq-eqb t u (type-one ts one t u g.1 h.1 type))
  same_term (tm.Bound i) (tm.Bound k) g h p =
      let place : i ≡ k = cc in
      eq-eqb i k place
  same_term (tm.App f x) (tm.App a y) g h p =
      let left : term_at ts f ≡ term_at ts a = cc in
      let right : term_at ts x ≡ term_at ts y = cc in
      both_true (eq-eqb f a (term-one ts one f a g.0 h.0 left)) (eq-eqb x y (term-one ts one x y g.1 h.1 right))
  same_term (tm.Abs t b) (tm.Abs u c) g h p =
      let type : type_at ts t ≡ type_at ts u = cc in
      let body : term_at ts b ≡ term_at ts c = cc in
      both_true (eq-eqb t u (type-one ts one t u g.0 h.0 type)) (eq-eqb b c (term-one ts one b c g.1 h.1 body))
  same_term _ _ g h p = cc

  same_tree : (m n : Node) → HasParts ts m → HasParts ts n → tree_of ts m ≡ tree_of ts n → node_eq m n ≡ true
  same_tree (node.Name a) (node.Name b) g h p =
      let e : a ≡ b = cc in
      (same_name-Decides a b).1 e
  same_tree (node.Ty m) (node.Ty n) g h p =
      let e : type_tree ts m ≡ type_tree ts n = cc in
      same_type m n g h e
  same_tree (node.Tm m) (node.Tm n) g h p =
      let e : term_tree ts m ≡ term_tree ts n = cc in
      same_term m n g h e
  same_tree _ _ g h p = cc

-- the table's nodes meet the laws
pub laws : NodeLaws tree_of AreBelow Fits node_eq
laws = record {
  more_below = more_below;
  tree_stays = tree_stays;
  fits_stays =
      λ ts us e n d below h.
      (parts_stay ts us e n h.0, subst (λ x. IsBeside x d) (sym (tree_stays ts us e n below)) h.1);
  tree_same = tree_same;
  same_tree = λ ts one m n d e below above fits also same. same_tree ts one m n fits.0 also.0 same;
}

-- ---- whether the node of a number is that of a name, a type, a term
module _ (ts : List Item) (i : ℕ) where
  pub name-kind : (n : Node) → Some (tree_of ts n) ≡ slice_get ts i → IsTrue (is_name_node n) ↔ HasName ts i
  name-kind (node.Name m) is = (λ _. has-name ts i m (sym is), λ _. refl)
  name-kind (node.Ty m) is = (λ p. cc, λ h. let e = is ∙ h in cc)
  name-kind (node.Tm m) is = (λ p. cc, λ h. let e = is ∙ h in cc)

  pub type-kind : (n : Node) → Some (tree_of ts n) ≡ slice_get ts i → IsTrue (is_type_node n) ↔ HasType ts i
  type-kind (node.Ty m) is = (λ _. has-type ts i (type_tree ts m) (sym is), λ _. refl)
  type-kind (node.Name m) is = (λ p. cc, λ h. let e = is ∙ h in cc)
  type-kind (node.Tm m) is = (λ p. cc, λ h. let e = is ∙ h in cc)

  pub term-kind : (n : Node) → Some (tree_of ts n) ≡ slice_get ts i → IsTrue (is_term_node n) ↔ HasTerm ts i
  term-kind (node.Tm m) is = (λ _. has-term ts i (term_tree ts m) (sym is), λ _. refl)
  term-kind (node.Name m) is = (λ p. cc, λ h. let e = is ∙ h in cc)
  term-kind (node.Ty m) is = (λ p. cc, λ h. let e = is ∙ h in cc)

-- ---- the table of the three primitive names
module _ {S : Type 0} (a b c d : IndexMap Node NodeInfo S) (n : NodeInfo) where
  one-more : (m o : IndexMap Node NodeInfo S) (x : Name) (ts : List Item) → items_of m.entries ≡ ts
      → IsSound tree_of AreBelow Fits m.entries (items_of m.entries) → lookup (node_eq (node.Name x)) m.entries ≡ None
      → position (node_eq (node.Name x)) (keys m) ≡ None → o.entries ≡ insert_entry node_eq m.entries (node.Name x) n
      → Pushed tree_of AreBelow Fits node_eq laws m.entries ts (node.Name x) o.entries
      × (o.entries ≡ m.entries ++ (node.Name x, n) ∷ [])
  one-more m o x ts view sound none absent inserted = (
    pushed tree_of AreBelow Fits node_eq laws m ts view sound (node.Name x) n tt (tt, tt) absent o.entries
        inserted,
    inserted ∙ insert_entry-new node_eq m (node.Name x) n none,
  )

  nothing-sound : IsSound tree_of AreBelow Fits [] []
  nothing-sound =
      record {
        same_length = refl;
        entries = λ i m e p. absurd (none-some _ p);
        injective = record { same = λ i j x p q. absurd (none-some _ p) };
      }

  pub new-table : (x y z : Name) → a.entries ≡ [] → x ≡ names.arrow → b.entries ≡ insert_entry node_eq a.entries
      (node.Name x) n → y ≡ names.bool_name → c.entries ≡ insert_entry node_eq b.entries (node.Name y) n
      → z ≡ names.equals → d.entries ≡ insert_entry node_eq c.entries (node.Name z) n
      → IsTable d.entries (items_of d.entries) × (items_of d.entries ≡ first_items)
  new-table x y z empty is_x add_x is_y add_y is_z add_z =
      let view : items_of a.entries ≡ [] = ap items_of empty in
      let sound = subst (λ es. IsSound tree_of AreBelow Fits es (items_of es)) (sym empty) nothing-sound in
      let one = one-more a b names.arrow [] view sound (ap (lookup (node_eq (node.Name names.arrow))) empty)
      (ap (λ (es : List (Node × NodeInfo)). position (node_eq (node.Name names.arrow)) (keys_of es)) empty)
      (add_x ∙ ap (λ x. insert_entry node_eq a.entries (node.Name x) n) is_x) in
      let first : b.entries ≡ (node.Name names.arrow, n) ∷ [] =
      one.1 ∙ ap (λ es. es ++ (node.Name names.arrow, n) ∷ []) empty in
      let two = one-more b c names.bool_name (NameItem names.arrow ∷ []) one.0.trees one.0.sound
      (ap (lookup (node_eq (node.Name names.bool_name))) first)
      (ap (λ (es : List (Node × NodeInfo)). position (node_eq (node.Name names.bool_name)) (keys_of es)) first)
      (add_y ∙ ap (λ y. insert_entry node_eq b.entries (node.Name y) n) is_y) in
      let second : c.entries ≡ (node.Name names.arrow, n) ∷ (node.Name names.bool_name, n) ∷ [] =
      two.1 ∙ ap (λ es. es ++ (node.Name names.bool_name, n) ∷ []) first in
      let three = one-more c d names.equals (NameItem names.arrow ∷ NameItem names.bool_name ∷ []) two.0.trees
      two.0.sound (ap (lookup (node_eq (node.Name names.equals))) second)
      (ap (λ (es : List (Node × NodeInfo)). position (node_eq (node.Name names.equals)) (keys_of es)) second)
      (add_z ∙ ap (λ z. insert_entry node_eq c.entries (node.Name z) n) is_z) in (
        record {
          nodes = three.0.sound;
          first = subst (Extends first_items) (sym three.0.trees)
              (Extends-refl first_items);
        },
        three.0.trees,
      )
