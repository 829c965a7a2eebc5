-- Lemmas on the table of sequences.
use Rattle.std.specs.Prelude.{◌&&◌, ◌||◌, position}
use Rattle.std.specs.List.{IsDistinct, list_any}
use Rattle.std.proofs.Common.{◌≡◌, ℕ, ◌<◌, ◌≤◌, Bool, true, false, nat_eq, eqb-true, eq-eqb, true≢false}
use Rattle.std.proofs.Common.{List, [], ◌∷◌, ◌++◌, length, slice_get, Some, None, refl, sym, ap, subst, ◌∙◌, inl, inr}
use Rattle.std.proofs.Common.{◌⊎◌, arith, get_or}
use Rattle.std.proofs.lemmas.Bool.{and_parts}
use Rattle.std.proofs.lemmas.Option.{get_or_from_slice_get, slice_get-get_or, same_Some}
use Rattle.std.proofs.lemmas.List.Quantifiers.{position-Some}
use Rattle.std.specs.Cmp.Derive.{both_true}
use Rattle.std.specs.Map.{keys_of}
use Rattle.indexmap.specs.IndexMap.{IndexMap, keys, insert_entry, insert_index}
use Rattle.indexmap.proofs.MapLemmas.{Missing-position}
use Rattle.ot_logic.specs.Lists.{IsMember, AreDistinct}
use Rattle.ot_logic.specs.Table.{Extends, IsInjective}
use Rattle.ot_logic.specs.Interned.{IsEntry, NodeLaws}
use Rattle.ot_logic.proofs.Members.{IsMember-right}
use Rattle.ot_logic.proofs.TableLemmas.{get_or-Extends, get_or-IsInjective, injective_from_distinct}
use Rattle.ot_logic.proofs.InternedLemmas.{entry_at, below_all, found, pushed}
use Rattle.ot_lists.specs.Ranks.{rank}
use Rattle.ot_lists.specs.SequenceTable.{SequenceTable, sequence_in, IsUnder, Grows, IsSequenceTable}
use Rattle.ot_lists.specs.Sequences.{sequence_of, sequences_of, IsBelow, IsCutAtTop, Describes, IsBeside}
use Rattle.ot_lists.specs.Sequences.{AreSequences}
use Rattle.ot_lists.specs.declared.list.Key.{Key}
use Rattle.ot_lists.specs.declared.sequence.SequenceNode.{SequenceNode}
use Rattle.ot_lists.specs.declared.sequence.SequenceNode.TheVariants.{Empty, Cut}
use Rattle.ot_lists.specs.declared.sequence.Extent.{Extent}
use Rattle.ot_lists.specs.contracts.sequence.SequenceNodePartialEq.TheImpl as derived
use Rattle.ot_lists.specs.contracts.list.KeyPartialEq.TheImpl as keyed
use Rattle.ot_lists.proofs.Sublists.{cut-one, cut-some}

abbrev pub node_eq : SequenceNode → SequenceNode → Bool
node_eq = derived.ghosts.eq

abbrev pub key_eq : Key → Key → Bool
key_eq = keyed.ghosts.eq

-- ---- keys
pub same_key : (v w : Key) → key_eq v w ≡ true → v ≡ w
same_key v w p =
    let parts = and_parts (nat_eq v.name w.name) (nat_eq v.ty w.ty) p in
    λ i. record { name = eqb-true v.name w.name parts.0 i; ty = eqb-true v.ty w.ty parts.1 i }

pub key-same : (v : Key) → key_eq v v ≡ true
key-same v = both_true (eq-eqb v.name v.name refl) (eq-eqb v.ty v.ty refl)

-- keys that the test tells apart have one number each
pub keys-once : (ks : List Key) → IsDistinct key_eq ks → IsInjective ks
keys-once ks d = injective_from_distinct key_eq key-same ks d

pub key-found : (ks : List Key) (k : Key) (i : ℕ) → position (key_eq k) ks ≡ Some i → slice_get ks i ≡ Some k
key-found ks k i p =
    let at = position-Some (key_eq k) ks i k p in
    slice_get-get_or ks i k at.0 ∙ ap Some (sym (same_key k (get_or ks i k) at.1))

pub key-missing : (ks : List Key) (k : Key) → list_any (key_eq k) ks ≡ false → ¬ (IsMember k ks)
key-missing [] k p m = m
key-missing (w ∷ ks) k p m = by (key-missing ks k) (key_eq k w) refl (list_any (key_eq k) ks) refl p m
  where
    by : (list_any (key_eq k) ks ≡ false → ¬ (IsMember k ks)) → (b : Bool) → key_eq k w ≡ b → (a : Bool)
        → list_any (key_eq k) ks ≡ a → (b || a) ≡ false → (w ≡ k) ⊎ IsMember k ks → ⊥
    by rest true e a f p n = true≢false p
    by rest false e true f p n = true≢false p
    by rest false e false f p (inl q) = true≢false (sym (subst (λ w. key_eq k w ≡ true) (sym q) (key-same k)) ∙ e)
    by rest false e false f p (inr n) = rest f n

-- ---- nodes
same_node : (m n : SequenceNode) → node_eq m n ≡ true → m ≡ n
same_node Empty Empty p = refl
same_node Empty (Cut c y d) p = absurd (true≢false (sym p))
same_node (Cut a x b) Empty p = absurd (true≢false (sym p))
same_node (Cut a x b) (Cut c y d) p =
    let ps = and_parts (nat_eq a c) (nat_eq x y && nat_eq b d) p in
    let qs = and_parts (nat_eq x y) (nat_eq b d) ps.1 in
    λ i. Cut (eqb-true a c ps.0 i) (eqb-true x y qs.0 i) (eqb-true b d qs.1 i)

more_below : (j k : ℕ) → j ≤ k → (n : SequenceNode) → IsBelow j n → IsBelow k n
more_below j k le Empty h = tt
more_below j k le (Cut a x b) h = (omega (arith, h.0), omega (arith, h.1))

tree_stays : (ss us : List (List ℕ)) → Extends ss us → (n : SequenceNode) → IsBelow (length ss) n
    → sequence_of us n ≡ sequence_of ss n
tree_stays ss us e Empty h = refl
tree_stays ss us e (Cut a x b) h =
    let left = get_or-Extends ss us e a [] h.0 in
    let right = get_or-Extends ss us e b [] h.1 in
    λ i. left i ++ x ∷ right i

fits_stays : (k : ℕ) (ss us : List (List ℕ)) → Extends ss us → (n : SequenceNode) (d : Extent)
    → IsBelow (length ss) n → IsBeside k ss n d → IsBeside k us n d
fits_stays k ss us e n d below h =
    let same = sym (tree_stays ss us e n below) in
    record {
      describes = subst (λ l. Describes l d) same h.describes;
      top = subst (IsCutAtTop n) same h.top;
      under = subst (IsUnder k) same h.under;
    }

-- a sequence has one number of the highest rank
one_top : (x y : ℕ) → (y ≡ x) ⊎ (rank y < rank x) → (x ≡ y) ⊎ (rank x < rank y) → x ≡ y
one_top x y (inl e) q = sym e
one_top x y (inr h) (inl e) = e
one_top x y (inr h) (inr k) = absurd (omega (arith, h, k))

same_tree : (k : ℕ) (ss : List (List ℕ)) → IsInjective ss → (m n : SequenceNode) (d e : Extent)
    → IsBelow (length ss) m → IsBelow (length ss) n → IsBeside k ss m d → IsBeside k ss n e
    → sequence_of ss m ≡ sequence_of ss n → node_eq m n ≡ true
same_tree k ss one Empty Empty d e below above fits also p = refl
same_tree k ss one Empty (Cut c y z) d e below above fits also p =
    absurd (cut-some (sequence_in ss c) (sequence_in ss z) y (sym p))
same_tree k ss one (Cut a x b) Empty d e below above fits also p =
    absurd (cut-some (sequence_in ss a) (sequence_in ss b) x p)
same_tree k ss one (Cut a x b) (Cut c y z) d e below above fits also p =
    let xs = sequence_in ss a in
    let zs = sequence_in ss c in
    let ys = sequence_in ss b in
    let ws = sequence_in ss z in
    let left : IsMember x (zs ++ y ∷ ws) = subst (IsMember x) p (IsMember-right x xs (x ∷ ys) (inl refl)) in
    let right : IsMember y (xs ++ x ∷ ys) = subst (IsMember y) (sym p) (IsMember-right y zs (y ∷ ws) (inl refl)) in
    let top : x ≡ y = one_top x y (fits.top y right) (also.top x left) in
    let (before, behind) = cut-one xs zs ys ws x (p ∙ ap (λ w. zs ++ w ∷ ws) (sym top)) fits.describes.distinct in
    both_true (eq-eqb a c (get_or-IsInjective ss one a c [] below.0 above.0 before))
    (both_true (eq-eqb x y top) (eq-eqb b z (get_or-IsInjective ss one b z [] below.1 above.1 behind)))

pub laws : (k : ℕ) → NodeLaws sequence_of IsBelow (IsBeside k) node_eq
laws k = record {
  more_below = more_below;
  tree_stays = tree_stays;
  fits_stays = fits_stays k;
  tree_same = λ ss m n p. ap (sequence_of ss) (same_node m n p);
  same_tree = same_tree k;
}

-- ---- what is known of each number
module _ (ks : List Key) (es : List (SequenceNode × Extent)) (ss : List (List ℕ)) (sound : AreSequences ks es ss)
  where
    pub table-of : IsSequenceTable (record { keys = ks; lists = ss })
    table-of = record {
      keys = sound.keys;
      lists = sound.nodes.injective;
      distinct = λ i l p.
          let e = entry_at sequence_of IsBelow (IsBeside (length ks)) node_eq (laws (length ks)) es ss sound.nodes i l p in
          let entry = sound.nodes.entries i e.0 e.1 e.2 in
          subst AreDistinct (sym (same_Some _ _ (sym p ∙ entry.tree))) entry.fits.describes.distinct;
      under = λ i l p.
          let e = entry_at sequence_of IsBelow (IsBeside (length ks)) node_eq (laws (length ks)) es ss sound.nodes i l p in
          let entry = sound.nodes.entries i e.0 e.1 e.2 in
          subst (IsUnder (length ks)) (sym (same_Some _ _ (sym p ∙ entry.tree))) entry.fits.under;
    }

    module _ (i : ℕ) (n : SequenceNode) (d : Extent) (at : slice_get es i ≡ Some (n, d)) where
      abbrev entry : IsEntry sequence_of IsBelow (IsBeside (length ks)) ss i n d
      entry = sound.nodes.entries i n d at

      pub node-is : sequence_in ss i ≡ sequence_of ss n
      node-is = get_or_from_slice_get ss i _ [] entry.tree

      pub node-below : IsBelow (length ss) n
      node-below =
          below_all sequence_of IsBelow (IsBeside (length ks)) node_eq (laws (length ks)) es ss sound.nodes i n d entry

      pub node-top : IsCutAtTop n (sequence_in ss i)
      node-top = subst (IsCutAtTop n) (sym node-is) entry.fits.top

      pub node-extent : Describes (sequence_in ss i) d
      node-extent = subst (λ l. Describes l d) (sym node-is) entry.fits.describes

    pub node-found : (n : SequenceNode) (i : ℕ) → position (node_eq n) (keys_of es) ≡ Some i
        → slice_get ss i ≡ Some (sequence_of ss n)
    node-found n i p =
        found sequence_of IsBelow (IsBeside (length ks)) node_eq (laws (length ks)) es ss sound.nodes n i p

-- ---- more variables
pub sound-keys : (ks ls : List Key) (es : List (SequenceNode × Extent)) (ss : List (List ℕ)) → Extends ks ls
    → IsInjective ls → AreSequences ks es ss → AreSequences ls es ss
sound-keys ks ls es ss e once sound = record {
  nodes = record {
    same_length = sound.nodes.same_length;
    entries = λ i n d p.
        let entry = sound.nodes.entries i n d p in
        record {
          tree = entry.tree;
          below = entry.below;
          fits = record {
            describes = entry.fits.describes;
            top = entry.fits.top;
            under = λ x m. let h = entry.fits.under x m in omega (arith, h, e.longer);
          };
        };
    injective = sound.nodes.injective;
  };
  keys = once;
}

-- ---- a new node
pub record Put (t : SequenceTable) (ks : List Key) (n : SequenceNode) (new : List (SequenceNode × Extent))
    (index : ℕ) : Type 0 where
  pub sound : AreSequences ks new (sequences_of new)
  pub found : slice_get (sequences_of new) index ≡ Some (sequence_of t.lists n)
  pub grows : Grows t (record { keys = ks; lists = sequences_of new })

pub put : {S : Type 0} (ks : List Key) (m : IndexMap SequenceNode Extent S)
    → AreSequences ks m.entries (sequences_of m.entries) → (t : SequenceTable)
    → record { keys = ks; lists = sequences_of m.entries } ≡ t → (n : SequenceNode) (d : Extent)
    → IsBelow (length t.lists) n → IsBeside (length t.keys) t.lists n d → position (node_eq n) (keys m) ≡ None
    → (new : List (SequenceNode × Extent)) → new ≡ insert_entry node_eq m.entries n d
    → (index : ℕ) → index ≡ insert_index node_eq m n → Put t ks n new index
put ks m sound t view n d below fits absent new inserted index place =
    let lists : sequences_of m.entries ≡ t.lists = ap (λ (t : SequenceTable). t.lists) view in
    let same : ks ≡ t.keys = ap (λ (t : SequenceTable). t.keys) view in
    let push = pushed sequence_of IsBelow (IsBeside (length ks)) node_eq (laws (length ks)) m t.lists lists sound.nodes n d
    below (subst (λ ks. IsBeside (length ks) t.lists n d) (sym same) fits) absent new inserted in
    let at : length m.entries ≡ index = sym (place ∙ (Missing-position (node_eq n) m.entries absent).or_len) in
    record {
      sound = record { nodes = push.sound; keys = sound.keys };
      found = subst (λ j. slice_get (sequences_of new) j ≡ Some (sequence_of t.lists n)) at push.last;
      grows = record { keys = same; lists = push.extends };
    }
