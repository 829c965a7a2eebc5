-- Lemmas on tables of nodes that refer to earlier nodes by number.
use Rattle.std.proofs.Common.{◌≡◌, ℕ, zero, suc, ◌<◌, ◌⊎◌, inl, inr, Bool, true, false, List}
use Rattle.std.proofs.Common.{[], ◌∷◌, ◌++◌, length, slice_get, get_or, position, None, Some}
use Rattle.std.proofs.Common.{refl, sym, ap, subst, ◌∙◌, true≢false, arith, length-append}
use Rattle.std.specs.Map.{keys_of, lookup}
use Rattle.std.proofs.lemmas.Option.{slice_get_within, none-some, same_Some}
use Rattle.std.proofs.lemmas.Map.{NonePasses, none_passes_from_lookup}
use Rattle.std.proofs.lemmas.Map.Entries.{length-keys_of}
use Rattle.std.proofs.lemmas.List.Quantifiers.{position-Some}
use Rattle.indexmap.specs.IndexMap.{IndexMap, keys, insert_entry}
use Rattle.indexmap.proofs.CallerLemmas.{insert_entry-new}
use Rattle.indexmap.proofs.MapLemmas.{Missing-position}
use Rattle.ot_logic.specs.Table.{Extends, IsInjective}
use Rattle.ot_logic.specs.Interned.{grow, trees_of, IsEntry, IsSound, NodeLaws}
use Rattle.ot_logic.proofs.TableLemmas.{Extends-append}

-- ---- a list with one more at its end
module _ {X : Type 0} where
  pub slice_get-last : (xs : List X) (x : X) → slice_get (xs ++ x ∷ []) (length xs) ≡ Some x
  slice_get-last [] x = refl
  slice_get-last (y ∷ xs) x = slice_get-last xs x

  pub slice_get-push : (xs : List X) (x : X) (i : ℕ) (y : X) → slice_get (xs ++ x ∷ []) i ≡ Some y
      → (slice_get xs i ≡ Some y) ⊎ ((i ≡ length xs) × (x ≡ y))
  slice_get-push [] x zero y p = let e : x ≡ y = cc in inr (refl, e)
  slice_get-push [] x (suc i) y p = absurd (none-some y p)
  slice_get-push (z ∷ xs) x zero y p = inl p
  slice_get-push (z ∷ xs) x (suc i) y p =
      elim (slice_get-push xs x i y p) [ inl q ↦ inl q | inr q ↦ inr (ap suc q.0, q.1) ]

  -- one more that is new leaves the list with each element once
  pub IsInjective-push : (xs : List X) (x : X) → IsInjective xs → ((i : ℕ) → slice_get xs i ≡ Some x → ⊥)
      → IsInjective (xs ++ x ∷ [])
  IsInjective-push xs x one fresh = record {
    same = λ i j y p q. elim (slice_get-push xs x i y p) [
      | inl a ↦ elim (slice_get-push xs x j y q) [
        | inl b ↦ one.same i j y a b
        | inr b ↦ absurd (fresh i (a ∙ ap Some (sym b.1)))
      ]
      | inr a ↦ elim (slice_get-push xs x j y q) [
        | inl b ↦ absurd (fresh j (b ∙ ap Some (sym a.1)))
        | inr b ↦ a.0 ∙ sym b.0
      ]
    ];
  }

apart_at : {N D : Type 0} (test : N → Bool) (es : List (N × D)) → NonePasses test es → (i : ℕ) (n : N) (d : D)
    → slice_get es i ≡ Some (n, d) → test n ≡ false
apart_at test [] h i n d p = absurd (none-some _ p)
apart_at {N} {D} test (e ∷ es) h zero n d p = let first : e ≡ (n, d) = same_Some e (n, d) p in
    ap (λ (e : N × D). test e.0) (sym first) ∙ h.0
apart_at test (e ∷ es) h (suc i) n d p = apart_at test es h.1 i n d p

-- the entry at a place, and its key
entry_within : {N D : Type 0} (es : List (N × D)) (i : ℕ) → i < length es
    → (m : N) × (d : D) × (slice_get es i ≡ Some (m, d))
entry_within [] i h = absurd (omega arith)
entry_within (e ∷ es) zero h = (e.0, e.1, refl)
entry_within (e ∷ es) (suc i) h = entry_within es i (omega arith)

key_at : {N D : Type 0} (es : List (N × D)) (i : ℕ) (n m : N) (d : D) → slice_get es i ≡ Some (m, d)
    → get_or (keys_of es) i n ≡ m
key_at [] i n m d p = absurd (none-some _ p)
key_at {N} {D} (e ∷ es) zero n m d p = let first : e ≡ (m, d) = same_Some e (m, d) p in ap (λ (e : N × D). e.0) first
key_at (e ∷ es) (suc i) n m d p = key_at es i n m d p

module _ {N T D : Type 0} (of : List T → N → T) where
  grow-push : (ts : List T) (es : List (N × D)) (e : N × D) → grow of ts (es ++ e ∷ []) ≡ grow of ts es
      ++ of (grow of ts es) e.0 ∷ []
  grow-push ts [] e = refl
  grow-push ts (x ∷ es) e = grow-push (ts ++ of ts x.0 ∷ []) es e

  module _ (Below : ℕ → N → Type 0) (Fits : List T → N → D → Type 0) (same : N → N → Bool)
      (laws : NodeLaws of Below Fits same) where
    module _ (es : List (N × D)) (ts : List T) (sound : IsSound of Below Fits es ts) where
      -- each number has an entry
      pub entry_at : (i : ℕ) (t : T) → slice_get ts i ≡ Some t → (n : N) × (d : D) × (slice_get es i ≡ Some (n, d))
      entry_at i t p = entry_within es i (omega (arith, slice_get_within ts i t p, sound.same_length))

      -- an entry's numbers are of the table
      pub below_all : (i : ℕ) (n : N) (d : D) → IsEntry of Below Fits ts i n d → Below (length ts) n
      below_all i n d e =
          let within : i < length ts = slice_get_within ts i _ e.tree in
          laws.more_below i (length ts) (omega arith) n e.below

      -- the tree of a node that the table has
      pub found : (n : N) (i : ℕ) → position (same n) (keys_of es) ≡ Some i → slice_get ts i ≡ Some (of ts n)
      found n i p =
          let f = position-Some (same n) (keys_of es) i n p in
          let e = entry_within es i (omega (arith, f.0, length-keys_of es)) in
          let passes : same n e.0 ≡ true = subst (λ m. same n m ≡ true) (key_at es i n e.0 e.1 e.2) f.1 in
          (sound.entries i e.0 e.1 e.2).tree ∙ ap Some (sym (laws.tree_same ts n e.0 passes))

      module _ (n : N) (d : D) (below : Below (length ts) n) (fits : Fits ts n d)
          (absent : NonePasses (same n) es) where
        abbrev after : List T
        after = ts ++ of ts n ∷ []

        grown : Extends ts after
        grown = Extends-append ts (of ts n ∷ [])

        entry_stays : (i : ℕ) (m : N) (c : D) → IsEntry of Below Fits ts i m c → IsEntry of Below Fits after i m c
        entry_stays i m c e =
            let all = below_all i m c e in
            record {
              tree = grown.keeps i _ e.tree ∙ ap Some (sym (laws.tree_stays ts after grown m all));
              below = e.below;
              fits = laws.fits_stays ts after grown m c all e.fits;
            }

        entry_last : IsEntry of Below Fits after (length es) n d
        entry_last =
            let stays = laws.tree_stays ts after grown n below in
            let place : slice_get after (length ts) ≡ Some (of after n) = slice_get-last ts (of ts n)
            ∙ ap Some (sym stays) in
            record {
              tree = subst (λ k. slice_get after k ≡ Some (of after n)) sound.same_length place;
              below = subst (λ k. Below k n) sound.same_length below;
              fits = laws.fits_stays ts after grown n d below fits;
            }

        -- the tree is new
        fresh : (i : ℕ) → slice_get ts i ≡ Some (of ts n) → ⊥
        fresh i p =
            let e = entry_at i _ p in
            let entry = sound.entries i e.0 e.1 e.2 in
            let one : of ts n ≡ of ts e.0 = same_Some _ _ (sym p ∙ entry.tree) in
            true≢false
            (sym (laws.same_tree ts sound.injective n e.0 d e.1 below (below_all i e.0 e.1 entry) fits entry.fits
            one) ∙ apart_at (same n) es absent i e.0 e.1 e.2)

        sound_push : IsSound of Below Fits (es ++ (n, d) ∷ []) after
        sound_push = record {
          same_length =
              omega (arith, length-append ts (of ts n ∷ []), length-append es ((n, d) ∷ []), sound.same_length);
          entries = λ i m c p. elim (slice_get-push es (n, d) i (m, c) p) [
            | inl a ↦ entry_stays i m c (sound.entries i m c a)
            | inr a ↦ subst (λ (e : N × D). IsEntry of Below Fits after i e.0 e.1) a.1
                (subst (λ k. IsEntry of Below Fits after k n d) (sym a.0) entry_last)
          ];
          injective = IsInjective-push ts (of ts n) sound.injective fresh;
        }

    -- what an insert of a new node leaves
    pub record Pushed (es : List (N × D)) (ts : List T) (n : N) (new : List (N × D)) : Type 0 where
      pub trees : trees_of of new ≡ ts ++ of ts n ∷ []
      pub sound : IsSound of Below Fits new (trees_of of new)
      pub last : slice_get (trees_of of new) (length es) ≡ Some (of ts n)
      pub extends : Extends ts (trees_of of new)

    pub pushed : {S : Type 0} (m : IndexMap N D S) (ts : List T) → trees_of of m.entries ≡ ts
        → IsSound of Below Fits m.entries (trees_of of m.entries)
        → (n : N) (d : D) → Below (length ts) n → Fits ts n d → position (same n) (keys m) ≡ None
        → (new : List (N × D)) → new ≡ insert_entry same m.entries n d → Pushed m.entries ts n new
    pushed m ts view sound n d below fits absent new inserted =
        let es = m.entries in
        let empty : lookup (same n) es ≡ None = (Missing-position (same n) es absent).value in
        let entries : new ≡ es ++ (n, d) ∷ [] = inserted ∙ insert_entry-new same m n d empty in
        let here : IsSound of Below Fits es ts = subst (IsSound of Below Fits es) view sound in
        let trees : trees_of of new ≡ ts ++ of ts n ∷ [] = ap (trees_of of) entries ∙ grow-push [] es (n, d)
        ∙ ap (λ ts. ts ++ of ts n ∷ []) view in
        let push = sound_push es ts here n d below fits (none_passes_from_lookup (same n) es empty) in
        record {
          trees = trees;
          sound = subst (λ us. IsSound of Below Fits new us) (sym trees)
              (subst (λ es. IsSound of Below Fits es (ts ++ of ts n ∷ [])) (sym entries) push);
          last = rw (trees, ← here.same_length) (slice_get-last ts (of ts n));
          extends = subst (Extends ts) (sym trees) (Extends-append ts (of ts n ∷ []));
        }
