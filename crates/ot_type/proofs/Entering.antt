-- Lemmas on a node that is put into a table, with what stands beside it, whether the table had the node or not.
use Rattle.std.proofs.Common.{◌≡◌, ℕ, zero, suc, ◌⊎◌, inl, inr, Bool, List, [], ◌∷◌, ◌++◌, Option}
use Rattle.std.proofs.Common.{None, Some, length, slice_get, position, refl, sym, ap, subst, ◌∙◌}
use Rattle.std.proofs.lemmas.Option.{same_Some}
use Rattle.indexmap.specs.IndexMap.{IndexMap, keys, insert_entry, insert_index, set_value_at}
use Rattle.indexmap.specs.Layout.{length-set_value_at}
use Rattle.indexmap.proofs.MapLemmas.{Found-position, Missing-position, insert_entry-first}
use Rattle.ot_logic.specs.Table.{Extends}
use Rattle.ot_logic.specs.Interned.{grow, trees_of, IsSound, NodeLaws}
use Rattle.ot_logic.proofs.TableLemmas.{Extends-refl}
use Rattle.ot_logic.proofs.InternedLemmas.{found, pushed}

module _ {N T D : Type 0} where
  grow-set : (of : List T → N → T) (ts : List T) (es : List (N × D)) (i : ℕ) (d : D)
      → grow of ts (set_value_at es i d) ≡ grow of ts es
  grow-set of ts [] i d = refl
  grow-set of ts (e ∷ es) zero d = refl
  grow-set of ts (e ∷ es) (suc i) d = grow-set of (ts ++ of ts e.0 ∷ []) es i d

module _ {N D : Type 0} where
  -- an entry of the list after the write was there before, or has the node that was there and the new value
  get-set : (es : List (N × D)) (i j : ℕ) (d c : D) (m : N) → slice_get (set_value_at es i d) j ≡ Some (m, c)
      → (slice_get es j ≡ Some (m, c)) ⊎ ((j ≡ i) × (c ≡ d) × (b : D) × (slice_get es j ≡ Some (m, b)))
  get-set [] i j d c m p = inl p
  get-set (e ∷ es) zero zero d c m p =
      let same : (e.0, d) ≡ (m, c) = same_Some _ _ p in
      inr (refl, ap (λ (q : N × D). q.1) (sym same), e.1, λ k. Some ((same k).0, e.1))
  get-set (e ∷ es) zero (suc j) d c m p = inl p
  get-set (e ∷ es) (suc i) zero d c m p = inl p
  get-set (e ∷ es) (suc i) (suc j) d c m p = elim (get-set es i j d c m p) [
    | inl q ↦ inl q
    | inr q ↦ inr (ap suc q.0, q.1, q.2, q.3)
  ]

module _ {N T D : Type 0} (of : List T → N → T) (Below : ℕ → N → Type 0) (Describes : T → D → Type 0)
    (same : N → N → Bool) where
  abbrev Fits : List T → N → D → Type 0
  Fits ts n d = Describes (of ts n) d

  -- the table after a node was put in, which stands at this number now
  pub record Entered (ts : List T) (n : N) (new : List (N × D)) (index : ℕ) : Type 0 where
    pub sound : IsSound of Below Fits new (trees_of of new)
    pub found : slice_get (trees_of of new) index ≡ Some (of ts n)
    pub grown : (trees_of of new ≡ ts) ⊎ (trees_of of new ≡ ts ++ of ts n ∷ [])
    pub extends : Extends ts (trees_of of new)

  -- what stands beside a node may be any that describes its tree
  sound-set : (es : List (N × D)) (ts : List T) → IsSound of Below Fits es ts → (i : ℕ) (d : D) (t : T)
      → slice_get ts i ≡ Some t → Describes t d → IsSound of Below Fits (set_value_at es i d) ts
  sound-set es ts sound i d t at describes = record {
    same_length = sound.same_length ∙ sym (length-set_value_at es i d);
    entries = λ j m c p. elim (get-set es i j d c m p) [
      | inl q ↦ sound.entries j m c q
      | inr q ↦
          let e = sound.entries j m q.2 q.3 in
          let tree : t ≡ of ts m = same_Some _ _ (sym at ∙ ap (slice_get ts) (sym q.0) ∙ e.tree) in
          record {
            tree = e.tree;
            below = e.below;
            fits = subst (λ u. Describes u c) tree (subst (Describes t) (sym q.1) describes);
          }
    ];
    injective = sound.injective;
  }

  pub entered : {S : Type 0} → NodeLaws of Below Fits same → (m : IndexMap N D S) (ts : List T)
      → trees_of of m.entries ≡ ts → IsSound of Below Fits m.entries (trees_of of m.entries)
      → (n : N) (d : D) → Below (length ts) n → Describes (of ts n) d → (new : List (N × D))
      → new ≡ insert_entry same m.entries n d
      → (index : ℕ) → index ≡ insert_index same m n → Entered ts n new index
  entered laws m ts view sound n d below fits new inserted index place = by (position (same n) (keys m)) refl
    where
      here : IsSound of Below Fits m.entries ts
      here = subst (IsSound of Below Fits m.entries) view sound

      by : (r : Option ℕ) → position (same n) (keys m) ≡ r → Entered ts n new index
      by (Some i) p =
          let f = Found-position (same n) m.entries i p in
          let written : new ≡ set_value_at m.entries i d =
          inserted ∙ insert_entry-first same n d m.entries i f.first in
          let at : i ≡ index = sym (place ∙ f.or_len) in
          let there : slice_get ts i ≡ Some (of ts n) = found of Below Fits same laws m.entries ts here n i p in
          let trees : trees_of of new ≡ ts = ap (trees_of of) written ∙ grow-set of [] m.entries i d ∙ view in
          record {
            sound = subst (IsSound of Below Fits new) (sym trees)
                (subst (λ es. IsSound of Below Fits es ts) (sym written)
                (sound-set m.entries ts here i d (of ts n) there fits));
            found = subst (λ us. slice_get us index ≡ Some (of ts n)) (sym trees)
                (subst (λ j. slice_get ts j ≡ Some (of ts n)) at there);
            grown = inl trees;
            extends = subst (Extends ts) (sym trees) (Extends-refl ts);
          }
      by None p =
          let f = Missing-position (same n) m.entries p in
          let push = pushed of Below Fits same laws m ts view sound n d below fits p new inserted in
          let at : length m.entries ≡ index = sym (place ∙ f.or_len) in
          record {
            sound = push.sound;
            found = subst (λ j. slice_get (trees_of of new) j ≡ Some (of ts n)) at push.last;
            grown = inr push.trees;
            extends = push.extends;
          }
