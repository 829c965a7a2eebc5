-- Lemmas on the table of terms.
use Rattle.std.proofs.Common.{◌≡◌, ℕ, suc, ◌<◌, ◌≤◌, Bool, true, ◌&&◌, nat_eq}
use Rattle.std.proofs.Common.{eq-eqb, position, None, List, [], ◌∷◌}
use Rattle.std.proofs.Common.{◌++◌, length, slice_get, get_or, Some, refl, sym, ap, subst, ◌∙◌, arith}
use Rattle.std.proofs.lemmas.List.{length-map}
use Rattle.std.proofs.lemmas.Option.{get_or_from_slice_get, slice_get-get_or, same_Some}
use Rattle.std.specs.Cmp.Derive.{both_true}
use Rattle.ot_logic.specs.Trees.{Ty, TyVar, Named, NVar, NConst, NApp, NAbs}
use Rattle.ot_logic.specs.Hol.{depth_limit}
use Rattle.ot_logic.specs.Table.{Extends, IsInjective}
use Rattle.ot_logic.specs.Interned.{NodeLaws, grow}
use Rattle.ot_logic.proofs.TableLemmas.{Extends-refl, get_or-Extends, get_or-IsInjective}
use Rattle.ot_logic.proofs.InternedLemmas.{entry_at, found, pushed}
use Rattle.indexmap.specs.IndexMap.{IndexMap, keys, get, insert_entry, insert_index}
use Rattle.indexmap.proofs.MapLemmas.{index-absent, or_len-absent, absent_from_lookup}
use Rattle.ot_type.specs.TypeTable.{type_at, IsTypeTable}
use Rattle.ot_type.proofs.TypeTableLemmas.{type_at-Extends}
use Rattle.ot_class.specs.Class.{ClassTable, IsNumber, IsNumberOf, Grows as ClassesGrow, AreOnce}
use Rattle.ot_term.specs.Term.{TermTable}
use Rattle.ot_term.proofs.Limit.{limit_parts}
use Rattle.ot_term.proofs.Classing.{class-types, class-grown, class_at-entry, are_alike, class_new, classes-push}
use Rattle.ot_term.specs.Classing.{form_of, form_with, IsFormBelow, PartsBelow}
use Rattle.ot_term.specs.TermTable.{variable_of, term_at, term_of, terms_of, AreBelow, classes_of, Suits}
use Rattle.ot_term.specs.TermTable.{IsClassOf, IsBeside, AreTermNodes, IsTermTable, IsTermSound, Grows}
use Rattle.ot_term.specs.declared.table.NodeInfo.{NodeInfo}
use Rattle.ot_term.specs.declared.term.VarKey.{VarKey}
use Rattle.ot_term.specs.declared.term.TermNode.{TermNode}
use Rattle.ot_term.specs.declared.term.TermNode.TheVariants.{Var, Const, App, Abs}
use Rattle.ot_term.specs.NodeHash.{same_node}
use Rattle.ot_term.specs.contracts.term.TermNodePartialEq.TheImpl as derived

abbrev pub node_eq : TermNode → TermNode → Bool
node_eq = derived.ghosts.eq

-- ---- the laws, over one table of types
module _ (tys : List (Ty ℕ)) where
  more_below : (j k : ℕ) → j ≤ k → (n : TermNode) → AreBelow (length tys) j n → AreBelow (length tys) k n
  more_below j k le (Var v) h = h
  more_below j k le (Const n t) h = h
  more_below j k le (App f x) h = (omega (arith, h.0), omega (arith, h.1))
  more_below j k le (Abs v b) h = (h.0, omega (arith, h.1))

  tree_stays : (ts us : List (Named ℕ)) → Extends ts us → (n : TermNode) → AreBelow (length tys) (length ts) n
      → term_of tys us n ≡ term_of tys ts n
  tree_stays ts us e (Var v) h = refl
  tree_stays ts us e (Const n t) h = refl
  tree_stays ts us e (App f x) h =
      let left = get_or-Extends ts us e f (NConst 0 (TyVar 0)) h.0 in
      let right = get_or-Extends ts us e x (NConst 0 (TyVar 0)) h.1 in
      λ j. NApp (left j) (right j)
  tree_stays ts us e (Abs v b) h =
      let body = get_or-Extends ts us e b (NConst 0 (TyVar 0)) h.1 in
      λ j. NAbs (variable_of tys v) (body j)

  tree_same : (ts : List (Named ℕ)) (m n : TermNode) → node_eq m n ≡ true → term_of tys ts m ≡ term_of tys ts n
  tree_same ts m n p = ap (term_of tys ts) (same_node m n p)

  same_variable : IsInjective tys → (v w : VarKey) → v.ty < length tys → w.ty < length tys
      → variable_of tys v ≡ variable_of tys w → (nat_eq v.name w.name && nat_eq v.ty w.ty) ≡ true
  same_variable types v w g h p =
      let name : v.name ≡ w.name = ap (λ v. v.name) p in
      let trees : type_at tys v.ty ≡ type_at tys w.ty = ap (λ v. v.ty) p in
      both_true (eq-eqb v.name w.name name)
      (eq-eqb v.ty w.ty (get_or-IsInjective tys types v.ty w.ty (TyVar 0) g h trees))

  same_tree : IsInjective tys → (ts : List (Named ℕ)) → IsInjective ts → (m n : TermNode) → AreBelow (length tys)
      (length ts) m → AreBelow (length tys) (length ts) n → term_of tys ts m ≡ term_of tys ts n → node_eq m n ≡ true
  same_tree types ts terms (Var v) (Var w) g h p =
      let same : variable_of tys v ≡ variable_of tys w = cc in
      same_variable types v w g h same
  same_tree types ts terms (Const n t) (Const m u) g h p =
      let name : n ≡ m = cc in
      let trees : type_at tys t ≡ type_at tys u = cc in
      both_true (eq-eqb n m name) (eq-eqb t u (get_or-IsInjective tys types t u (TyVar 0) g h trees))
  same_tree types ts terms (App f x) (App g y) a b p =
      let left : term_at ts f ≡ term_at ts g = cc in
      let right : term_at ts x ≡ term_at ts y = cc in
      both_true (eq-eqb f g (get_or-IsInjective ts terms f g (NConst 0 (TyVar 0)) a.0 b.0 left))
      (eq-eqb x y (get_or-IsInjective ts terms x y (NConst 0 (TyVar 0)) a.1 b.1 right))
  same_tree types ts terms (Abs v x) (Abs w y) a b p =
      let same : variable_of tys v ≡ variable_of tys w = cc in
      let body : term_at ts x ≡ term_at ts y = cc in
      both_true (same_variable types v w a.0 b.0 same)
      (eq-eqb x y (get_or-IsInjective ts terms x y (NConst 0 (TyVar 0)) a.1 b.1 body))
  same_tree types ts terms (Var v) (Const m u) a b p = cc
  same_tree types ts terms (Var v) (App g y) a b p = cc
  same_tree types ts terms (Var v) (Abs w c) a b p = cc
  same_tree types ts terms (Const n t) (Var w) a b p = cc
  same_tree types ts terms (Const n t) (App g y) a b p = cc
  same_tree types ts terms (Const n t) (Abs w c) a b p = cc
  same_tree types ts terms (App f x) (Var w) a b p = cc
  same_tree types ts terms (App f x) (Const m u) a b p = cc
  same_tree types ts terms (App f x) (Abs w c) a b p = cc
  same_tree types ts terms (Abs v x) (Var w) a b p = cc
  same_tree types ts terms (Abs v x) (Const m u) a b p = cc
  same_tree types ts terms (Abs v x) (App g y) a b p = cc

  -- what stands beside a node, by its tree alone
  beside_of : (cs : ClassTable) (ts : List (Named ℕ)) (n : TermNode) (b : NodeInfo) (t : Named ℕ)
      → t ≡ term_of tys ts n → Suits tys t b.ty b.depth → IsClassOf tys cs t b.class → IsBeside tys cs ts n b
  beside_of cs ts n b t e s k =
      record {
        suits = subst (λ t. Suits tys t b.ty b.depth) e s;
        class = subst (λ t. IsClassOf tys cs t b.class) e k;
      }

  pub laws : IsInjective tys → (cs : ClassTable) → NodeLaws (term_of tys) (AreBelow (length tys)) (IsBeside tys cs)
      node_eq
  laws types cs = record {
    more_below = more_below;
    tree_stays = tree_stays;
    fits_stays = λ ts us e n b below h. beside_of cs us n b (term_of tys ts n) (sym (tree_stays ts us e n below))
        h.suits h.class;
    tree_same = tree_same;
    same_tree = λ ts one m n d e below above fits also same. same_tree types ts one m n below above same;
  }

-- ---- the types grow, and the terms stay
module _ (tys us : List (Ty ℕ)) (e : Extends tys us) where
  term_of-types : (ts : List (Named ℕ)) (k : ℕ) (n : TermNode) → AreBelow (length tys) k n
      → term_of us ts n ≡ term_of tys ts n
  term_of-types ts k (Var v) h = λ j. NVar (record { name = v.name; ty = type_at-Extends tys us e v.ty h j })
  term_of-types ts k (Const n t) h = ap (NConst n) (type_at-Extends tys us e t h)
  term_of-types ts k (App f x) h = refl
  term_of-types ts k (Abs v b) h = λ j. NAbs (record { name = v.name; ty = type_at-Extends tys us e v.ty h.0 j })
      (term_at ts b)

  grow-types : (es : List (TermNode × NodeInfo))
      → ((i : ℕ) (n : TermNode) (b : NodeInfo) → slice_get es i ≡ Some (n, b) → (k : ℕ) × AreBelow (length tys) k n)
      → (ts : List (Named ℕ)) → grow (term_of us) ts es ≡ grow (term_of tys) ts es
  grow-types [] below ts = refl
  grow-types (d ∷ es) below ts =
      let h = below 0 d.0 d.1 refl in
      ap (λ t. grow (term_of us) (ts ++ t ∷ []) es) (term_of-types ts h.0 d.0 h.1)
      ∙ grow-types es (λ i n b p. below (suc i) n b p) (ts ++ term_of tys ts d.0 ∷ [])

  below-types : (k : ℕ) (n : TermNode) → AreBelow (length tys) k n → AreBelow (length us) k n
  below-types k (Var v) h = omega (arith, e.longer)
  below-types k (Const n t) h = omega (arith, e.longer)
  below-types k (App f x) h = h
  below-types k (Abs v b) h = (omega (arith, e.longer, h.0), h.1)

  suits-types : (t : Named ℕ) (ty depth : ℕ) → Suits tys t ty depth → Suits us t ty depth
  suits-types t ty depth h = record {
    below = omega (arith, e.longer, h.below);
    typed = h.typed ∙ ap Some (sym (type_at-Extends tys us e ty h.below));
    depth = h.depth;
    limit = h.limit;
  }

  pub terms_of-types : (cs : ClassTable) (es : List (TermNode × NodeInfo)) (ts : List (Named ℕ))
      → AreTermNodes tys cs es ts → terms_of us es ≡ terms_of tys es
  terms_of-types cs es ts nodes = grow-types es (λ i n b p. (i, (nodes.entries i n b p).below)) []

  pub sound-types : (cs : ClassTable) (es : List (TermNode × NodeInfo)) (ts : List (Named ℕ))
      → IsTermSound tys cs es ts → IsTypeTable us → IsTermSound us cs es ts
  sound-types cs es ts sound table = record {
    nodes = record {
      same_length = sound.nodes.same_length;
      entries = λ i n b p.
          let d = sound.nodes.entries i n b p in
          let same = term_of-types ts i n d.below in
          record {
            tree = d.tree ∙ ap Some (sym same);
            below = below-types i n d.below;
            fits = beside_of us cs ts n b (term_of tys ts n) (sym same)
                (suits-types (term_of tys ts n) b.ty b.depth d.fits.suits)
                (class-types tys us e cs (term_of tys ts n) b.class d.fits.class);
          };
      injective = sound.nodes.injective;
    };
    forms = sound.forms;
    table = record {
      types = table;
      injective = sound.table.injective;
      typed = sound.table.typed;
      limit = sound.table.limit;
      classed = sound.table.classed;
      alike = sound.table.alike;
    };
  }

-- ---- the classes grow, and the terms stay
pub sound-classes : (tys : List (Ty ℕ)) (cs ds : ClassTable) (es : List (TermNode × NodeInfo)) (ts : List (Named ℕ))
    → ClassesGrow cs ds → AreOnce ds → IsTermSound tys cs es ts → IsTermSound tys ds es ts
sound-classes tys cs ds es ts e one sound = record {
  nodes = record {
    same_length = sound.nodes.same_length;
    entries = λ i n b p.
        let d = sound.nodes.entries i n b p in
        record {
          tree = d.tree;
          below = d.below;
          fits = record {
            suits = d.fits.suits;
            class = class-grown tys cs ds e (term_of tys ts n) b.class
                d.fits.class;
          };
        };
    injective = sound.nodes.injective;
  };
  forms = one;
  table = sound.table;
}

module _ (tys : List (Ty ℕ)) (cs : ClassTable) (es : List (TermNode × NodeInfo)) (ts : List (Named ℕ))
    (nodes : AreTermNodes tys cs es ts) where
  -- what stands beside a node is of the term at its number
  pub suits_at : (i : ℕ) (n : TermNode) (b : NodeInfo) → slice_get es i ≡ Some (n, b)
      → Suits tys (term_at ts i) b.ty b.depth
  suits_at i n b p =
      let e = nodes.entries i n b p in
      subst (λ t. Suits tys t b.ty b.depth) (sym (get_or_from_slice_get ts i _ (NConst 0 (TyVar 0)) e.tree))
      e.fits.suits

  classed_at : (i : ℕ) (n : TermNode) (b : NodeInfo) → slice_get es i ≡ Some (n, b)
      → IsClassOf tys cs (term_at ts i) b.class
  classed_at i n b p =
      let e = nodes.entries i n b p in
      subst (λ t. IsClassOf tys cs t b.class) (sym (get_or_from_slice_get ts i _ (NConst 0 (TyVar 0)) e.tree))
      e.fits.class

  pub class_found : (i c : ℕ) → slice_get (classes_of es) i ≡ Some c → IsClassOf tys cs (term_at ts i) c
  class_found i c p =
      let e = class_at-entry es i c p in
      subst (IsClassOf tys cs (term_at ts i)) e.3 (classed_at i e.0 e.1 e.2)

  -- what callers may know of the trees, from the facts of the nodes
  table_from : IsInjective tys → AreOnce cs → IsTypeTable tys
      → IsTermTable (record { types = tys; terms = ts; classes = classes_of es })
  table_from one forms types = record {
    types = types;
    injective = nodes.injective;
    typed = λ i u p. let s = suits i u p in (type_at tys s.0.ty, s.1.typed);
    limit = λ i u p. (suits i u p).1.limit;
    classed = length-map es (λ (e : TermNode × NodeInfo). e.1.class) ∙ sym nodes.same_length;
    alike = λ i j c d p q. are_alike tys cs one forms (term_at ts i) (term_at ts j) c d (class_found i c p)
        (class_found j d q);
  }
    where
      suits : (i : ℕ) (u : Named ℕ) → slice_get ts i ≡ Some u → (b : NodeInfo) × Suits tys u b.ty b.depth
      suits i u p =
          let e = entry_at (term_of tys) (AreBelow (length tys)) (IsBeside tys cs) node_eq (laws tys one cs) es ts
          nodes i u p in
          let d = nodes.entries i e.0 e.1 e.2 in
          let same : u ≡ term_of tys ts e.0 = same_Some _ _ (sym p ∙ d.tree) in
          (e.1, subst (λ t. Suits tys t e.1.ty e.1.depth) (sym same) d.fits.suits)

-- what contracts see of the entries
abbrev pub table_of : List (Ty ℕ) → List (TermNode × NodeInfo) → TermTable
table_of tys es = record { types = tys; terms = terms_of tys es; classes = classes_of es }

only_parts : (j k : ℕ) (n : TermNode) → AreBelow j k n → PartsBelow k n
only_parts j k (Var v) h = tt
only_parts j k (Const n t) h = tt
only_parts j k (App f x) h = h
only_parts j k (Abs v b) h = h.1

module _ (tys : List (Ty ℕ)) (cs : ClassTable) (es : List (TermNode × NodeInfo))
    (sound : IsTermSound tys cs es (terms_of tys es)) where
  -- the class of each number
  pub class_at-number : (i : ℕ) → i < length es
      → IsClassOf tys cs (term_at (terms_of tys es) i) (get_or (classes_of es) i 0)
  class_at-number i h = class_found tys cs es (terms_of tys es) sound.nodes i (get_or (classes_of es) i 0)
      (slice_get-get_or (classes_of es) i 0
      (omega (arith, h, length-map es (λ (e : TermNode × NodeInfo). e.1.class))))

  pub classes_within : (i : ℕ) → i < length es → IsNumber cs (get_or (classes_of es) i 0)
  classes_within i h = (class_at-number i h).within

  pub parts_below : (t : TermTable) → table_of tys es ≡ t → (n : TermNode)
      → AreBelow (length t.types) (length t.terms) n → PartsBelow (length es) n
  parts_below t view n h =
      let same : length t.terms ≡ length es = ap (λ (t : TermTable). length t.terms) (sym view)
      ∙ sound.nodes.same_length in
      subst (λ k. PartsBelow k n) same (only_parts (length t.types) (length t.terms) n h)

  -- the class of a node whose class was added
  pub class_added : (t : TermTable) → table_of tys es ≡ t → (ds : ClassTable) (n : TermNode) (c : ℕ)
      → AreBelow (length t.types) (length t.terms) n → IsNumberOf ds (form_of cs (classes_of es) n) c
      → IsClassOf tys ds (term_of tys (terms_of tys es) n) c
  class_added t view ds n c h p =
      let below : AreBelow (length tys) (length (terms_of tys es)) n =
      subst (λ (t : TermTable). AreBelow (length t.types) (length t.terms) n) (sym view) h in
      class_new tys sound.table.types.injective cs (classes_of es) (terms_of tys es)
      (λ i k. class_at-number i (omega (arith, k, sound.nodes.same_length))) ds n below c p

-- a depth beside a node is within the limit
pub depth-limit : (tys : List (Ty ℕ)) (t : Named ℕ) (ty depth : ℕ) → Suits tys t ty depth → depth ≤ depth_limit
depth-limit tys t ty depth s = omega (arith, s.depth, (limit_parts t s.limit).0)

-- what an insert of a new node leaves, of the table t
pub record PushedTerm (tys : List (Ty ℕ)) (cs : ClassTable) (es : List (TermNode × NodeInfo)) (t : TermTable)
    (n : TermNode) (new : List (TermNode × NodeInfo)) : Type 0 where
  pub sound : IsTermSound tys cs new (terms_of tys new)
  pub trees : terms_of tys new ≡ t.terms ++ term_of t.types t.terms n ∷ []
  pub last : slice_get (terms_of tys new) (length es) ≡ Some (term_of t.types t.terms n)
  pub grows : Grows t (record { types = tys; terms = terms_of tys new; classes = classes_of new })

module _ {S : Type 0} (tys : List (Ty ℕ)) (cs : ClassTable) (m : IndexMap TermNode NodeInfo S)
    (sound : IsTermSound tys cs m.entries (terms_of tys m.entries)) (n : TermNode) where
  pub found_term : (t : TermTable) → table_of tys m.entries ≡ t → (i : ℕ) → position (node_eq n) (keys m) ≡ Some i
      → slice_get t.terms i ≡ Some (term_of t.types t.terms n)
  found_term t view i p =
      subst (λ (t : TermTable). slice_get t.terms i ≡ Some (term_of t.types t.terms n)) view
      (found (term_of tys) (AreBelow (length tys)) (IsBeside tys cs) node_eq (laws tys sound.table.types.injective cs)
      m.entries (terms_of tys m.entries) sound.nodes n i p)

  pub pushed_term : (b : NodeInfo) (new : List (TermNode × NodeInfo)) → position (node_eq n) (keys m) ≡ None
      → new ≡ insert_entry node_eq m.entries n b
      → IsClassOf tys cs (term_of tys (terms_of tys m.entries) n) b.class
      → (t : TermTable) → table_of tys m.entries ≡ t → AreBelow (length t.types) (length t.terms) n
      → Suits t.types (term_of t.types t.terms n) b.ty b.depth → PushedTerm tys cs m.entries t n new
  pushed_term b new absent inserted class t view =
      let P : TermTable → Type 0 = λ t. AreBelow (length t.types) (length t.terms) n
      → Suits t.types (term_of t.types t.terms n) b.ty b.depth → PushedTerm tys cs m.entries t n new in
      subst P view (λ below suits.
      let fits : IsBeside tys cs (terms_of tys m.entries) n b = record { suits = suits; class = class } in
      let p = pushed (term_of tys) (AreBelow (length tys)) (IsBeside tys cs) node_eq
      (laws tys sound.table.types.injective cs) m (terms_of tys m.entries) refl sound.nodes n b below fits absent
      new inserted in
      record {
        sound = record {
          nodes = p.sound;
          forms = sound.forms;
          table = table_from tys cs new (terms_of tys new)
              p.sound sound.table.types.injective sound.forms sound.table.types;
        };
        trees = p.trees;
        last = p.last;
        grows = record {
          types = Extends-refl tys;
          terms = p.extends;
          classes = classes-push node_eq m n b absent new inserted;
        };
      })

-- ---- a node that is looked up, and put in where it is new
form_below : (cs : ClassTable) (m : ℕ) (ks : List ℕ) → ((i : ℕ) → i < m → IsNumber cs (get_or ks i 0))
    → (n : TermNode) → PartsBelow m n → IsFormBelow cs (form_with ks n)
form_below k m ks within (Var v) h = tt
form_below k m ks within (Const n t) h = tt
form_below k m ks within (App f x) h = (within f h.0, within x h.1)
form_below k m ks within (Abs v b) h = within b h

module _ {S : Type 0} (tys : List (Ty ℕ)) (cs : ClassTable) (m : IndexMap TermNode NodeInfo S)
    (sound : IsTermSound tys cs m.entries (terms_of tys m.entries)) (t : TermTable)
    (view : table_of tys m.entries ≡ t) (n : TermNode) where
  pub classes_below : AreBelow (length t.types) (length t.terms) n
      → IsFormBelow cs (form_with (classes_of m.entries) n)
  classes_below below = form_below cs (length m.entries) (classes_of m.entries)
      (classes_within tys cs m.entries sound) n (parts_below tys cs m.entries sound t view n below)

  -- the class was added before
  pub put_in : (ds : ClassTable) → ClassesGrow cs ds → AreOnce ds → (b : NodeInfo)
      → AreBelow (length t.types) (length t.terms) n → Suits t.types (term_of t.types t.terms n) b.ty b.depth
      → IsNumberOf ds (form_of cs (classes_of m.entries) n) b.class → get node_eq m n ≡ None
      → (new : List (TermNode × NodeInfo)) → new ≡ insert_entry node_eq m.entries n b
      → PushedTerm tys ds m.entries t n new
  put_in ds more one b below suits form none new inserted =
      let class = class_added tys cs m.entries sound t view ds n b.class below form in
      let absent = index-absent (node_eq n) m.entries (absent_from_lookup (node_eq n) m.entries none) in
      pushed_term tys ds m (sound-classes tys cs ds m.entries (terms_of tys m.entries) more one sound) n b new absent
      inserted class t view below suits

-- a new node goes last
pub number_new : {S : Type 0} (m : IndexMap TermNode NodeInfo S) (n : TermNode) → get node_eq m n ≡ None → (i : ℕ)
    → i ≡ insert_index node_eq m n → i ≡ length m.entries
number_new m n none i at = at ∙ or_len-absent (node_eq n) m.entries (absent_from_lookup (node_eq n) m.entries none)
