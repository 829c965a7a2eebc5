-- What the numbers of a kernel's tables stand for, read from the tables.
use Rattle.std.specs.Prelude.{◌↔◌, ◌&&◌, IsTrue}
use Rattle.std.specs.List.{All}
use mathlib.Core.Path.{PathP}
use Rattle.std.proofs.Common.{◌≡◌, ℕ, ◌<◌, ◌≤◌, Bool, nat_eq, List, [], ◌∷◌, length, map, get_or, slice_get}
use Rattle.std.proofs.Common.{slice_index_or, Option, Some, inl, inr, refl, sym, ap, ◌∙◌, subst, arith}
use Rattle.std.proofs.lemmas.List.Elements.{All-head, All-tail}
use Rattle.std.proofs.lemmas.Option.{slice_get_within, get_or_from_slice_get, slice_get-get_or}
use Rattle.std.proofs.lemmas.List.{length-map}
use Rattle.ot_logic.specs.Lists.{IsMember}
use Rattle.ot_logic.specs.Names.{Name}
use Rattle.ot_logic.specs.Trees.{Alphabet, Ty, TyVar, TyOp, MoreTys, Variable, Tm}
use Rattle.ot_logic.specs.Trees.{Free, Con, Bound, App, Abs, Named, NVar, NConst, NApp, NAbs}
use Rattle.ot_logic.specs.Hol.{same_ty, same_var, same_tm, IsFree}
use Rattle.ot_logic.specs.NamedTerms.{nameless, named_type, IsFreeIn}
use Rattle.ot_logic.specs.Renamed.{map_ty, map_tys, map_variable, map_tm, map_named}
use Rattle.ot_logic.specs.Naming.{names, numbers, name_of, IsNameTable}
use Rattle.ot_logic.specs.Bounds.{bound_ty, bound_named}
use Rattle.ot_logic.proofs.Line.{IsLettering, Line, letters, one_end, over_option}
use Rattle.ot_logic.proofs.Line.{over_ty, over_variable, over_tm, over_named}
use Rattle.ot_logic.proofs.Naming.{naming, lettering}
use Rattle.ot_laws.proofs.Named.{free-nameless, nameless-free}
use Rattle.ot_laws.proofs.New.{free-below}
use Rattle.ot_laws.proofs.Tests.{tells_names, tells_numbers}
use Rattle.ot_type.specs.TypeTable as types
use Rattle.ot_type.specs.declared.node.TypeNode.{TypeNode}
use Rattle.ot_type.specs.declared.node.TypeNode.TheVariants as type_nodes
use Rattle.ot_term.specs.Term.{TermTable}
use Rattle.ot_term.specs.TermTable as terms
use Rattle.ot_term.specs.declared.term.VarKey.{VarKey}
use Rattle.ot_term.specs.declared.term.TermNode.{TermNode}
use Rattle.ot_term.specs.declared.term.TermNode.TheVariants as term_nodes
use Rattle.ot_alpha.proofs.Comparison.{same_type}
use Rattle.ot_kernel.specs.State.{State, name_at, type_at, types_at, variable_at, named_at, term_at}
use Rattle.ot_kernel.specs.Spelled.{IsSpelled}
use Rattle.ot_kernel.proofs.Comparing.{tested}
use Rattle.ot_kernel.proofs.Namings.{index-map, name_of-index, table_names, bound_ty-get, bound_named-get}
use Rattle.ot_view.specs.Nodes.{type_tree, IsTypeNode, IsKey, AreKeysIn, term_tree, IsTermNode}
use Rattle.ot_logic.proofs.Members.{IsMember-get_or, IsMember-map, IsMember-map_back}

-- ---- members and free variables under maps

module _ {M N : Type 0} (a : Alphabet M) (b : Alphabet N) (g : M → N) where
  free_mapped : (w : Variable M) (t : Tm M) → IsFree a w t → IsFree b (map_variable g w) (map_tm g t)
  free_mapped w (Free v) m = ap (map_variable g) m
  free_mapped w (Con n t) m = absurd m
  free_mapped w (Bound k) m = absurd m
  free_mapped w (App f x) (inl m) = inl (free_mapped w f m)
  free_mapped w (App f x) (inr m) = inr (free_mapped w x m)
  free_mapped w (Abs t c) m = free_mapped w c m

  mapped_free : (v : Variable N) (t : Tm M) → IsFree b v (map_tm g t) → (w : Variable M) × IsFree a w t
      × (map_variable g w ≡ v)
  mapped_free v (Free w) m = (w, refl, m)
  mapped_free v (Con n t) m = absurd m
  mapped_free v (Bound k) m = absurd m
  mapped_free v (App f x) (inl m) = let (w, h, e) = mapped_free v f m in (w, inl h, e)
  mapped_free v (App f x) (inr m) = let (w, h, e) = mapped_free v x m in (w, inr h, e)
  mapped_free v (Abs t c) m = mapped_free v c m

-- ---- the numbers of a state
module _ (s : State) (t : TermTable) (k : IsSpelled s t) (table : IsNameTable s.names) where
  abbrev f : ℕ → Name
  f = name_of s.names

  types-length : length s.types ≡ length t.types
  types-length = ap length k.types ∙ length-map t.types (map_ty f)

  terms-length : length s.terms ≡ length t.terms
  terms-length = ap length k.terms ∙ length-map t.terms (map_named f)

  pub type_inside : (i : ℕ) → i < length s.types → i < length t.types
  type_inside i h = omega (arith, types-length)

  pub term_inside : (i : ℕ) → i < length s.terms → i < length t.terms
  term_inside i h = omega (arith, terms-length)

  pub type_outside : (i : ℕ) → i < length t.types → i < length s.types
  type_outside i h = omega (arith, types-length)

  pub name_is : (i : ℕ) → i < length s.names → f i ≡ name_at s i
  name_is = name_of-index s.names table

  pub type_is : (i : ℕ) → i < length t.types → map_ty f (types.type_at t.types i) ≡ type_at s i
  type_is i h = sym (index-map (map_ty f) t.types i (TyVar 0) (TyVar []) h)
      ∙ ap (λ ts. slice_index_or ts i (TyVar [])) (sym k.types)

  types_are : (is : List ℕ) → All (λ i. i < length t.types) is → map_tys f (types.types_at t.types is) ≡ types_at s is
  types_are [] h = refl
  types_are (i ∷ is) h =
      let a = type_is i (All-head (λ i. i < length t.types) i is h) in
      let b = types_are is (All-tail (λ i. i < length t.types) i is h) in
      λ j. MoreTys (a j) (b j)

  variable_is : (v : VarKey) → v.name < length s.names → v.ty < length t.types
      → map_variable f (terms.variable_of t.types v) ≡ variable_at s v
  variable_is v h g = let a = name_is v.name h in let b = type_is v.ty g in λ j. record { name = a j; ty = b j }

  pub term_is : (i : ℕ) → i < length t.terms → map_named f (terms.term_at t.terms i) ≡ named_at s.terms i
  term_is i h = sym (index-map (map_named f) t.terms i (NConst 0 (TyVar 0)) (NConst [] (TyVar [])) h)
      ∙ ap (λ ts. named_at ts i) (sym k.terms)

  -- ---- types
  type_bound : (id : ℕ) (u : Ty ℕ) → slice_get t.types id ≡ Some u → bound_ty u ≤ length s.names
  type_bound id u p = let w = bound_ty-get t.types id u p in let b = k.bound.0 in omega arith

  pub type_node-inside : (id : ℕ) (n : TypeNode) → slice_get t.types id ≡ Some (types.tree_of t.types n)
      → types.ArgsBelow id n → IsTypeNode s id n
  type_node-inside id (type_nodes.Var n) p h = let w = type_bound id _ p in omega arith
  type_node-inside id (type_nodes.Op n args) p h = (let w = type_bound id _ p in omega arith, h)

  node-tree : (n : TypeNode) (id : ℕ) → id ≤ length t.types → IsTypeNode s id n → map_ty f (types.tree_of t.types n)
      ≡ type_tree s n
  node-tree (type_nodes.Var n) id g h = ap TyVar (name_is n h)
  node-tree (type_nodes.Op n args) id g h =
      let a = name_is n h.0 in
      let b = types_are args.items (λ i d l. let w = h.1 i d l in omega arith) in
      λ j. TyOp (a j) (b j)

  pub type_node-tree : (id : ℕ) (n : TypeNode) → slice_get t.types id ≡ Some (types.tree_of t.types n)
      → types.ArgsBelow id n → type_at s id ≡ type_tree s n
  type_node-tree id n p h =
      let w = slice_get_within t.types id _ p in
      sym (type_is id w) ∙ ap (map_ty f) (get_or_from_slice_get t.types id _ (TyVar 0) p)
      ∙ node-tree n id (omega arith) (type_node-inside id n p h)

  -- ---- terms
  term_bound : (id : ℕ) (u : Named ℕ) → slice_get t.terms id ≡ Some u → bound_named u ≤ length s.names
  term_bound id u p = let w = bound_named-get t.terms id u p in let b = k.bound.1 in omega arith

  pub term_node-inside : (id : ℕ) (n : TermNode) → slice_get t.terms id ≡ Some (terms.term_of t.types t.terms n)
      → terms.AreBelow (length t.types) id n → IsTermNode s id n
  term_node-inside id (term_nodes.Var v) p h = let w = term_bound id _ p in (omega arith, type_outside v.ty h)
  term_node-inside id (term_nodes.Const n u) p h = let w = term_bound id _ p in (omega arith, type_outside u h)
  term_node-inside id (term_nodes.App g x) p h = h
  term_node-inside id (term_nodes.Abs v b) p h = let w = term_bound id _ p in
      ((omega arith, type_outside v.ty h.0), h.1)

  named-tree : (n : TermNode) (id : ℕ) → id ≤ length t.terms → IsTermNode s id n
      → map_named f (terms.term_of t.types t.terms n) ≡ term_tree s n
  named-tree (term_nodes.Var v) id g h = ap NVar (variable_is v h.0 (type_inside v.ty h.1))
  named-tree (term_nodes.Const n u) id g h = let a = name_is n h.0 in let b = type_is u (type_inside u h.1) in
      λ j. NConst (a j) (b j)
  named-tree (term_nodes.App m x) id g h = let a = term_is m (omega (arith, h.0)) in
      let b = term_is x (omega (arith, h.1)) in λ j. NApp (a j) (b j)
  named-tree (term_nodes.Abs v b) id g h = let a = variable_is v h.0.0 (type_inside v.ty h.0.1) in
      let c = term_is b (omega (arith, h.1)) in λ j. NAbs (a j) (c j)

  pub term_node-tree : (id : ℕ) (n : TermNode) → slice_get t.terms id ≡ Some (terms.term_of t.types t.terms n)
      → terms.AreBelow (length t.types) id n → named_at s.terms id ≡ term_tree s n
  term_node-tree id n p h =
      let w = slice_get_within t.terms id _ p in
      sym (term_is id w) ∙ ap (map_named f) (get_or_from_slice_get t.terms id _ (NConst 0 (TyVar 0)) p)
      ∙ named-tree n id (omega arith) (term_node-inside id n p h)

  -- ---- from numbers to names
  abbrev pub lettered : IsLettering f numbers names
  lettered = lettering s.names (table_names s.names table)

  abbrev alphabet_at : (i : 𝕀) → Alphabet (Line (naming s.names) i)
  alphabet_at i = letters (naming s.names) numbers names lettered i

  same_numbers : (a b : ℕ) → a < length t.types → b < length t.types
      → nat_eq a b ≡ same_ty numbers (types.type_at t.types a) (types.type_at t.types b)
  same_numbers a b h g = same_type t.types a b k.table.types h g

  pub same_types : (a b : ℕ) → a < length s.types → b < length s.types
      → nat_eq a b ≡ same_ty names (type_at s a) (type_at s b)
  same_types a b h g =
      let x = type_is a (type_inside a h) in
      let y = type_is b (type_inside b g) in
      same_numbers a b (type_inside a h) (type_inside b g)
      ∙ (λ i. same_ty (alphabet_at i) (over_ty (naming s.names) (types.type_at t.types a) i)
      (over_ty (naming s.names) (types.type_at t.types b) i))
      ∙ (λ j. same_ty names (x j) (y j))

  pub same_keys : (v w : VarKey) → IsKey s v → IsKey s w → (nat_eq v.name w.name && nat_eq v.ty w.ty)
      ≡ same_var names (variable_at s v) (variable_at s w)
  same_keys v w h g =
      let a = type_inside v.ty h.1 in
      let b = type_inside w.ty g.1 in
      let x = variable_is v h.0 a in
      let y = variable_is w g.0 b in
      ap (λ c. nat_eq v.name w.name && c) (same_numbers v.ty w.ty a b)
      ∙ (λ i. same_var (alphabet_at i) (over_variable (naming s.names) (terms.variable_of t.types v) i)
      (over_variable (naming s.names) (terms.variable_of t.types w) i))
      ∙ (λ j. same_var names (x j) (y j))

  pub same_terms : (a b : ℕ) (r : Bool) → a < length s.terms → b < length s.terms
      → IsTrue r ↔ (nameless numbers (terms.term_at t.terms a) ≡ nameless numbers (terms.term_at t.terms b))
      → r ≡ same_tm names (term_at s a) (term_at s b)
  same_terms a b r h g d =
      let x = term_is a (term_inside a h) in
      let y = term_is b (term_inside b g) in
      tested r (nameless numbers (terms.term_at t.terms a)) (nameless numbers (terms.term_at t.terms b)) d
      ∙ (λ i. same_tm (alphabet_at i)
      (nameless (alphabet_at i) (over_named (naming s.names) (terms.term_at t.terms a) i))
      (nameless (alphabet_at i) (over_named (naming s.names) (terms.term_at t.terms b) i)))
      ∙ (λ j. same_tm names (nameless names (x j)) (nameless names (y j)))

  pub typed_as : (id ty : ℕ) → id < length s.terms → ty < length t.types
      → named_type numbers (terms.term_at t.terms id) ≡ Some (types.type_at t.types ty)
      → named_type names (named_at s.terms id) ≡ Some (type_at s ty)
  typed_as id ty h g e =
      let L : 𝕀 → Type 0 = λ i. Option (Ty (Line (naming s.names) i)) in
      ap (named_type names) (sym (term_is id (term_inside id h)))
      ∙ one_end L (λ i. named_type (alphabet_at i) (over_named (naming s.names) (terms.term_at t.terms id) i))
      (subst (λ o. PathP L o (Some (map_ty f (types.type_at t.types ty)))) (sym e)
      (over_option (λ i. Ty (Line (naming s.names) i)) (map_ty f) (over_ty (naming s.names))
      (Some (types.type_at t.types ty))))
      ∙ ap Some (type_is ty g)

  -- ---- free variables
  nameless_mapped : (u : Named ℕ) → map_tm f (nameless numbers u) ≡ nameless names (map_named f u)
  nameless_mapped u =
      one_end (λ i. Tm (Line (naming s.names) i)) (over_tm (naming s.names) (nameless numbers u))
      (λ i. nameless (alphabet_at i) (over_named (naming s.names) u i))

  module _ (id : ℕ) (h : id < length s.terms) (vs : List VarKey) (within : All (λ v. v.ty < length t.types) vs)
      (free : (w : Variable ℕ) → IsMember w (map (terms.variable_of t.types) vs)
      ↔ IsFree numbers w (nameless numbers (terms.term_at t.terms id))) where
    mapped_is : map_tm f (nameless numbers (terms.term_at t.terms id)) ≡ nameless names (named_at s.terms id)
    mapped_is = nameless_mapped (terms.term_at t.terms id) ∙ ap (nameless names) (term_is id (term_inside id h))

    name_below : (v : VarKey) → IsMember v vs → v.name < length s.names
    name_below v m =
        let is_free = (free (terms.variable_of t.types v)).0 (IsMember-map (terms.variable_of t.types) v vs m) in
        let below = free-below (terms.variable_of t.types v) (terms.term_at t.terms id)
        (free-nameless numbers tells_numbers (terms.variable_of t.types v) (terms.term_at t.terms id) is_free) in
        let bound = term_bound id (terms.term_at t.terms id)
        (slice_get-get_or t.terms id (NConst 0 (TyVar 0)) (term_inside id h)) in
        omega (arith, below, bound)

    type_below : (us : List VarKey) → All (λ v. v.ty < length t.types) us → (v : VarKey) → IsMember v us
        → v.ty < length t.types
    type_below [] a v m = absurd m
    type_below (u ∷ us) a v (inl e) =
        subst (λ z. z.ty < length t.types) e (All-head (λ v. v.ty < length t.types) u us a)
    type_below (u ∷ us) a v (inr m) = type_below us (All-tail (λ v. v.ty < length t.types) u us a) v m

    key_is : (v : VarKey) → IsMember v vs → map_variable f (terms.variable_of t.types v) ≡ variable_at s v
    key_is v m = variable_is v (name_below v m) (type_below vs within v m)

    pub keys_inside : AreKeysIn s vs
    keys_inside i d l =
        let m = IsMember-get_or vs i d l in
        (name_below (get_or vs i d) m, type_outside (get_or vs i d).ty (type_below vs within (get_or vs i d) m))

    pub frees_are : (v : Variable Name) → IsMember v (map (variable_at s) vs) ↔ IsFreeIn names v (named_at s.terms id)
    frees_are v = (
      λ m.
          let (u, here, is) = IsMember-map_back (variable_at s) v vs m in
          let inside = (free (terms.variable_of t.types u)).0 (IsMember-map (terms.variable_of t.types) u vs here) in
          let mapped = free_mapped numbers names f (terms.variable_of t.types u)
          (nameless numbers (terms.term_at t.terms id)) inside in
          free-nameless names tells_names v (named_at s.terms id)
          (subst (λ z. IsFree names z (nameless names (named_at s.terms id))) (key_is u here ∙ is)
          (subst (IsFree names (map_variable f (terms.variable_of t.types u))) mapped_is mapped)),
      λ m.
          let at = subst (IsFree names v) (sym mapped_is)
          (nameless-free names tells_names v (named_at s.terms id) m) in
          let (w, inside, is) = mapped_free numbers names f v (nameless numbers (terms.term_at t.terms id)) at in
          let (u, here, key) = IsMember-map_back (terms.variable_of t.types) w vs ((free w).1 inside) in
          subst (λ z. IsMember z (map (variable_at s) vs)) (sym (key_is u here) ∙ ap (map_variable f) key ∙ is)
          (IsMember-map (variable_at s) u vs here),
    )
