-- Lemmas on the table of maps.
use Rattle.std.proofs.Common.{◌≡◌, ◌≢◌, ℕ, zero, suc, ◌+◌, ◌<◌, ◌≤◌, Bool, true, eq-eqb}
use Rattle.std.proofs.Common.{List, [], ◌∷◌, ◌++◌, length, slice_get, position, Option, Some, None, refl, sym, ap, subst, ◌∙◌}
use Rattle.std.proofs.Common.{append_assoc, arith}
use Rattle.std.proofs.lemmas.List.{replicate-append-replicate}
use Rattle.std.specs.Cmp.Derive.{both_true}
use Rattle.indexmap.specs.IndexMap.{IndexMap, keys, insert_entry, insert_index, set_value_at}
use Rattle.indexmap.proofs.MapLemmas.{Found-position, Missing-position, insert_entry-first}
use Rattle.ot_logic.specs.Table.{Extends, IsInjective}
use Rattle.ot_logic.specs.Interned.{IsEntry, NodeLaws}
use Rattle.ot_logic.proofs.TableLemmas.{Extends-refl, get_or-Extends, get_or-IsInjective}
use Rattle.ot_logic.proofs.InternedLemmas.{found, pushed}
use Rattle.ot_lists.specs.Maps.{map_of, map_at, maps_of, IsBelow, IsLongest, IsBeside, AreMapNodes}
use Rattle.ot_lists.specs.NodeHash.{same_map}
use Rattle.ot_lists.specs.declared.map.MapNode.{MapNode}
use Rattle.ot_lists.specs.declared.map.MapNode.TheVariants.{Empty, New, Same}
use Rattle.ot_lists.specs.contracts.map.MapNodePartialEq.TheImpl as derived
use Rattle.ot_lists.proofs.Snoc.{snoc-some}
use Rattle.ot_lists.proofs.Runs.{fresh, kept, fresh-more, kept-more, kept-append, run-ends, run-some, runs-same}

abbrev pub node_eq : MapNode → MapNode → Bool
node_eq = derived.ghosts.eq

more_below : (j k : ℕ) → j ≤ k → (n : MapNode) → IsBelow j n → IsBelow k n
more_below j k le Empty h = tt
more_below j k le (New f n) h = omega arith
more_below j k le (Same f i n) h = omega arith

tree_stays : (ls ms : List (List (Option ℕ))) → Extends ls ms → (n : MapNode) → IsBelow (length ls) n
    → map_of ms n ≡ map_of ls n
tree_stays ls ms e Empty h = refl
tree_stays ls ms e (New f n) h = ap (λ m. m ++ fresh n) (get_or-Extends ls ms e f [] h)
tree_stays ls ms e (Same f k n) h = ap (λ m. m ++ kept k n) (get_or-Extends ls ms e f [] h)

fits_stays : (ls ms : List (List (Option ℕ))) → Extends ls ms → (n : MapNode) (b : Unit {0}) → IsBelow (length ls) n
    → IsBeside ls n b → IsBeside ms n b
fits_stays ls ms e Empty b below h = tt
fits_stays ls ms e (New f n) b below h =
    (h.0, λ m p. h.1 m (sym (get_or-Extends ls ms e f [] below) ∙ p))
fits_stays ls ms e (Same f k n) b below h =
    (h.0, λ m j next p. h.1 m j next (sym (get_or-Extends ls ms e f [] below) ∙ p))

-- new holes are no holes of the function
runs-differ : (ls ms : List (Option ℕ)) (k a b : ℕ) → 0 < a → 0 < b → ls ++ fresh a ≡ ms ++ kept k b → ⊥
runs-differ ls ms k a (suc b) h i p =
    let at = p ∙ ap (λ l. ms ++ l) (kept-more k b) ∙ sym (append_assoc ms (kept k b) (Some (k + b) ∷ [])) in
    let (n, count, same) = run-ends fresh (λ n. None) fresh-more ls a h (ms ++ kept k b) (Some (k + b)) at in
    cc
runs-differ ls ms k a zero h i p = omega arith

same_tree : (ls : List (List (Option ℕ))) → IsInjective ls → (m n : MapNode) → IsBelow (length ls) m
    → IsBelow (length ls) n → IsLongest ls m → IsLongest ls n → map_of ls m ≡ map_of ls n → node_eq m n ≡ true
same_tree ls one Empty Empty a b h k p = refl
same_tree ls one (New f i) (New g j) a b h k p =
    let (n, e, fronts, counts) = runs-same fresh fresh (λ n. None) (λ n. None) refl refl fresh-more fresh-more
    (map_at ls f) (map_at ls g) i j h.0 k.0 p (λ m n e. h.1 m) (λ m n e. k.1 m) in
    both_true (eq-eqb f g (get_or-IsInjective ls one f g [] a b fronts)) (eq-eqb i j counts)
same_tree ls one (Same f s i) (Same g t j) a b h k p =
    let (n, e, fronts, counts) = runs-same (kept s) (kept t) (λ n. Some (s + n)) (λ n. Some (t + n)) refl refl
    (kept-more s) (kept-more t) (map_at ls f) (map_at ls g) i j h.0 k.0 p
    (λ m n e. let d : s + 0 ≡ t + suc n = cc in h.1 m (t + n) (omega arith))
    (λ m n e. let d : t + 0 ≡ s + suc n = cc in k.1 m (s + n) (omega arith)) in
    let d : s + n ≡ t + n = cc in
    let start : s ≡ t = omega arith in
    both_true (eq-eqb f g (get_or-IsInjective ls one f g [] a b fronts))
    (both_true (eq-eqb s t start) (eq-eqb i j counts))
same_tree ls one Empty (New g j) a b h k p = absurd (run-some fresh (λ n. None) fresh-more (map_at ls g) j k.0 (sym p))
same_tree ls one Empty (Same g t j) a b h k p =
    absurd (run-some (kept t) (λ n. Some (t + n)) (kept-more t) (map_at ls g) j k.0 (sym p))
same_tree ls one (New f i) Empty a b h k p = absurd (run-some fresh (λ n. None) fresh-more (map_at ls f) i h.0 p)
same_tree ls one (Same f s i) Empty a b h k p =
    absurd (run-some (kept s) (λ n. Some (s + n)) (kept-more s) (map_at ls f) i h.0 p)
same_tree ls one (New f i) (Same g t j) a b h k p =
    absurd (runs-differ (map_at ls f) (map_at ls g) t i j h.0 k.0 p)
same_tree ls one (Same f s i) (New g j) a b h k p =
    absurd (runs-differ (map_at ls g) (map_at ls f) s j i k.0 h.0 (sym p))

pub laws : NodeLaws map_of IsBelow IsBeside node_eq
laws = record {
  more_below = more_below;
  tree_stays = tree_stays;
  fits_stays = fits_stays;
  tree_same = λ ls m n p. ap (map_of ls) (same_map m n p);
  same_tree = λ ls one m n d e below above fits also same. same_tree ls one m n below above fits also same;
}

-- the first node can stand upon no other
pub first-empty : (es : List (MapNode × Unit {0})) (ms : List (List (Option ℕ))) → AreMapNodes es ms → (n : MapNode)
    (d : Unit {0}) → slice_get es 0 ≡ Some (n, d) → slice_get ms 0 ≡ Some []
first-empty es ms sound n d at = by n (sound.entries 0 n d at)
  where
    by : (n : MapNode) → IsEntry map_of IsBelow IsBeside ms 0 n d → slice_get ms 0 ≡ Some []
    by Empty entry = entry.tree
    by (New f k) entry = let h = entry.below in absurd (omega (arith, h))
    by (Same f j k) entry = let h = entry.below in absurd (omega (arith, h))

-- ---- a node that is put in
pub record Put (ts : List (List (Option ℕ))) (n : MapNode) (new : List (MapNode × Unit {0})) (index : ℕ) : Type 0 where
  pub sound : AreMapNodes new (maps_of new)
  pub found : slice_get (maps_of new) index ≡ Some (map_of ts n)
  pub extends : Extends ts (maps_of new)

set-same : (es : List (MapNode × Unit {0})) (i : ℕ) → set_value_at es i tt ≡ es
set-same [] i = refl
set-same (e ∷ es) zero = refl
set-same (e ∷ es) (suc i) = ap (λ l. e ∷ l) (set-same es i)

pub put : {S : Type 0} (m : IndexMap MapNode (Unit {0}) S) (ts : List (List (Option ℕ))) → maps_of m.entries ≡ ts
    → AreMapNodes m.entries (maps_of m.entries) → (n : MapNode) → IsBelow (length ts) n → IsLongest ts n
    → (new : List (MapNode × Unit {0})) → new ≡ insert_entry node_eq m.entries n tt
    → (index : ℕ) → index ≡ insert_index node_eq m n → Put ts n new index
put m ts view sound n below fits new inserted index place = by (position (node_eq n) (keys m)) refl
  where
    here : AreMapNodes m.entries ts
    here = subst (AreMapNodes m.entries) view sound

    by : (r : Option ℕ) → position (node_eq n) (keys m) ≡ r → Put ts n new index
    by (Some i) p =
        let f = Found-position (node_eq n) m.entries i p in
        let same : new ≡ m.entries = inserted ∙ insert_entry-first node_eq n tt m.entries i f.first ∙ set-same m.entries i in
        let at : i ≡ index = sym (place ∙ f.or_len) in
        let there : slice_get ts i ≡ Some (map_of ts n) = found map_of IsBelow IsBeside node_eq laws m.entries ts here n i p in
        let trees : maps_of new ≡ ts = ap maps_of same ∙ view in
        record {
          sound = subst (λ es. AreMapNodes es (maps_of es)) (sym same) sound;
          found = subst (λ us. slice_get us index ≡ Some (map_of ts n)) (sym trees)
              (subst (λ j. slice_get ts j ≡ Some (map_of ts n)) at there);
          extends = subst (Extends ts) (sym trees) (Extends-refl ts);
        }
    by None p =
        let f = Missing-position (node_eq n) m.entries p in
        let push = pushed map_of IsBelow IsBeside node_eq laws m ts view sound n tt below fits p new inserted in
        let at : length m.entries ≡ index = sym (place ∙ f.or_len) in
        record {
          sound = push.sound;
          found = subst (λ j. slice_get (maps_of new) j ≡ Some (map_of ts n)) at push.last;
          extends = push.extends;
        }

-- ---- a run that is put behind a map
module _ (ms : List (List (Option ℕ))) (front : ℕ) (node : MapNode) (is : map_at ms front ≡ map_of ms node) where
  module _ (longer before count n : ℕ) (sum : n ≡ before + count) where
    pub new-longer : node ≡ New longer before → map_of ms (New longer n) ≡ map_at ms front ++ fresh count
    new-longer e =
        ap (λ k. map_at ms longer ++ fresh k) sum
        ∙ ap (λ l. map_at ms longer ++ l) (sym (replicate-append-replicate before count None))
        ∙ sym (append_assoc (map_at ms longer) (fresh before) (fresh count))
        ∙ ap (λ l. l ++ fresh count) (sym (is ∙ ap (map_of ms) e))

    pub same-longer : (first start : ℕ) → node ≡ Same longer first before → first + before ≡ start
        → map_of ms (Same longer first n) ≡ map_at ms front ++ kept start count
    same-longer first start e next =
        ap (λ k. map_at ms longer ++ kept first k) sum
        ∙ ap (λ l. map_at ms longer ++ l) (kept-append first before count)
        ∙ ap (λ k. map_at ms longer ++ (kept first before ++ kept k count)) next
        ∙ sym (append_assoc (map_at ms longer) (kept first before) (kept start count))
        ∙ ap (λ l. l ++ kept start count) (sym (is ∙ ap (map_of ms) e))

pub new-starts : (ms : List (List (Option ℕ))) (front : ℕ) (node : MapNode) → map_at ms front ≡ map_of ms node
    → IsLongest ms node → ((l b : ℕ) → node ≡ New l b → ⊥) → (m : List (Option ℕ)) → map_at ms front ≢ m ++ None ∷ []
new-starts ms front Empty is h other m p = snoc-some m None (sym p ∙ is)
new-starts ms front (New l b) is h other m p = other l b refl
new-starts ms front (Same l k b) is h other m p =
    let (n, count, same) = run-ends (kept k) (λ n. Some (k + n)) (kept-more k) (map_at ms l) b h.0 m None
    (sym is ∙ p) in
    cc

pub same-starts : (ms : List (List (Option ℕ))) (front start : ℕ) (node : MapNode) → map_at ms front ≡ map_of ms node
    → IsLongest ms node → ((l k b : ℕ) → node ≡ Same l k b → k + b ≡ start → ⊥) → (m : List (Option ℕ)) (j : ℕ)
    → suc j ≡ start → map_at ms front ≢ m ++ Some j ∷ []
same-starts ms front start Empty is h other m j next p = snoc-some m (Some j) (sym p ∙ is)
same-starts ms front start (New l b) is h other m j next p =
    let (n, count, same) = run-ends fresh (λ n. None) fresh-more (map_at ms l) b h.0 m (Some j) (sym is ∙ p) in
    cc
same-starts ms front start (Same l k b) is h other m j next p =
    let (n, count, same) = run-ends (kept k) (λ n. Some (k + n)) (kept-more k) (map_at ms l) b h.0 m (Some j)
    (sym is ∙ p) in
    let at : j ≡ k + n = cc in
    other l k b refl (omega (arith, at, count, next))
