-- Lists of binders: their numbers, and what is found in them.
use Rattle.std.proofs.Common.{◌≡◌, ℕ, zero, suc, ◌+◌, ◌<◌, ◌≤◌, Bool, true, ◌&&◌, nat_eq, eqb-true, eq-eqb}
use Rattle.std.proofs.Common.{List, [], ◌∷◌, length, slice_get, get_or, Option, None, Some, inl, inr, refl, sym, ap}
use Rattle.std.proofs.Common.{subst, ◌∙◌, arith}
use Rattle.std.specs.List.{All}
use Rattle.std.specs.Cmp.Derive.{both_true}
use Rattle.std.proofs.lemmas.Bool.{and_parts}
use Rattle.std.proofs.lemmas.Option.{slice_get_within, slice_get-get_or, get_or_from_slice_get}
use Rattle.std.proofs.lemmas.List.Elements.{All-cons, All-from_get_or}
use Rattle.ot_logic.specs.Table.{Extends, IsInjective}
use Rattle.ot_logic.specs.Interned.{NodeLaws}
use Rattle.ot_logic.proofs.TableLemmas.{get_or-Extends, get_or-IsInjective}
use Rattle.ot_log_nodes.specs.Lists.{run, spread, Agree, list_at, types_of, IsLinked, HasList, IsList}
use Rattle.ot_log_nodes.specs.Lists.{IsSplit, link_list, IsLinkBelow, HasRest, AreLinks}
use Rattle.ot_log_nodes.specs.declared.table.lists.Link.{Link}
use Rattle.ot_log_nodes.specs.contracts.table.lists.LinkPartialEq.TheImpl as derived

-- ---- what is found in a list of types
pub run-here : (n k t : ℕ) (l : List ℕ) → k ≤ n → slice_get (run n t (t ∷ l)) k ≡ Some t
run-here zero zero t l h = refl
run-here zero (suc k) t l h = absurd (omega arith)
run-here (suc n) zero t l h = refl
run-here (suc n) (suc k) t l h = run-here n k t l (omega arith)

pub run-past : (n j k t : ℕ) (l : List ℕ) → k ≡ suc (n + j) → slice_get (run n t (t ∷ l)) k ≡ slice_get l j
run-past zero j zero t l e = absurd (omega arith)
run-past zero j (suc k) t l e = let same : k ≡ j = omega arith in ap (slice_get l) same
run-past (suc n) j zero t l e = absurd (omega arith)
run-past (suc n) j (suc k) t l e = run-past n j k t l (omega arith)

All-run : (P : ℕ → Type 0) (n t : ℕ) (l : List ℕ) → P t → All P l → All P (run n t (t ∷ l))
All-run P zero t l p h = All-cons P t l p h
All-run P (suc n) t l p h = All-cons P t (run n t (t ∷ l)) p (All-run P n t l p h)

-- what holds of all of a list holds of what is found in another one, if it is found in this one
All-found : (P : ℕ → Type 0) (l r : List ℕ) (n : ℕ) → All P l
    → ((j : ℕ) → slice_get l (n + j) ≡ slice_get r j) → All P r
All-found P l r n h e = All-from_get_or P r 0
    (λ i within. let found : slice_get l (n + i) ≡ Some (get_or r i 0) = e i ∙ slice_get-get_or r i 0 within in
    subst P (get_or_from_slice_get l (n + i) (get_or r i 0) 0 found)
    (h (n + i) 0 (slice_get_within l (n + i) (get_or r i 0) found)))

-- ---- a table of lists that grows
linked : (o : Option (List (ℕ × ℕ))) → IsLinked o → (l : List (ℕ × ℕ)) × (o ≡ Some l)
linked None h = absurd h
linked (Some l) h = (l, refl)

pub list-within : (ls : List (List (ℕ × ℕ))) (i : ℕ) → HasList ls (suc i) → i < length ls
list-within ls i h = let l = linked (slice_get ls i) h in slice_get_within ls i l.0 l.1

module _ (ls ms : List (List (ℕ × ℕ))) (e : Extends ls ms) where
  pub list-stays : (b : ℕ) → HasList ls b → list_at ms b ≡ list_at ls b
  list-stays zero h = refl
  list-stays (suc i) h = get_or-Extends ls ms e i [] (list-within ls i h)

  pub still-list : (b : ℕ) → HasList ls b → HasList ms b
  still-list zero h = tt
  still-list (suc i) h =
      let l = linked (slice_get ls i) h in
      subst IsLinked (sym (e.keeps i l.0 l.1)) (subst IsLinked l.1 h)

  pub still-is : (b : ℕ) (l : List (ℕ × ℕ)) → IsList ls b l → IsList ms b l
  still-is b l h = record { has = still-list b h.has; is = list-stays b h.has ∙ h.is }

-- a link at its place
pub linked-at : (ls : List (List (ℕ × ℕ))) (i b : ℕ) (p : ℕ × ℕ) (l : List (ℕ × ℕ)) → b ≡ suc i
    → slice_get ls i ≡ Some (p ∷ l) → IsList ls b (p ∷ l)
linked-at ls i b p l e h = subst (λ b. IsList ls b (p ∷ l)) (sym e)
    (record { has = subst IsLinked (sym h) tt; is = get_or_from_slice_get ls i (p ∷ l) [] h })

-- ---- links meet the laws of nodes
abbrev pub link_eq : Link → Link → Bool
link_eq = derived.ghosts.eq

list_kept : (ls ms : List (List (ℕ × ℕ))) → Extends ls ms → (b : ℕ) → b ≤ length ls → list_at ms b ≡ list_at ls b
list_kept ls ms e zero h = refl
list_kept ls ms e (suc i) h = get_or-Extends ls ms e i [] (omega arith)

pub list-below : (ls : List (List (ℕ × ℕ))) (b : ℕ) → HasList ls b → b ≤ length ls
list-below ls zero h = omega arith
list-below ls (suc i) h = let within = list-within ls i h in omega arith

-- the empty list has no other number
nonempty : (ls : List (List (ℕ × ℕ))) (i : ℕ) → HasList ls (suc i) → list_at ls (suc i) ≡ [] → ⊥
nonempty ls i h e = by (slice_get ls i) h refl
  where
    by : (o : Option (List (ℕ × ℕ))) → IsLinked o → slice_get ls i ≡ o → ⊥
    by None g is = g
    by (Some []) g is = g
    by (Some (p ∷ l)) g is = let same : p ∷ l ≡ [] = sym (get_or_from_slice_get ls i (p ∷ l) [] is) ∙ e in cc

list_one : (ls : List (List (ℕ × ℕ))) → IsInjective ls → (b c : ℕ) → HasList ls b → HasList ls c
    → list_at ls b ≡ list_at ls c → b ≡ c
list_one ls one zero zero g h e = refl
list_one ls one zero (suc j) g h e = absurd (nonempty ls j h (sym e))
list_one ls one (suc i) zero g h e = absurd (nonempty ls i g e)
list_one ls one (suc i) (suc j) g h e =
    ap suc (get_or-IsInjective ls one i j [] (list-within ls i g) (list-within ls j h) e)

tree_same : (ls : List (List (ℕ × ℕ))) (m n : Link) → link_eq m n ≡ true → link_list ls m ≡ link_list ls n
tree_same ls m n p =
    let parts = and_parts (nat_eq m.skipped n.skipped) (nat_eq m.ty n.ty && nat_eq m.rest n.rest) p in
    let others = and_parts (nat_eq m.ty n.ty) (nat_eq m.rest n.rest) parts.1 in
    let skipped = eqb-true m.skipped n.skipped parts.0 in
    let ty = eqb-true m.ty n.ty others.0 in
    let rest = eqb-true m.rest n.rest others.1 in
    λ i. (skipped i, ty i) ∷ list_at ls (rest i)

same_tree : (ls : List (List (ℕ × ℕ))) → IsInjective ls → (m n : Link) → HasList ls m.rest → HasList ls n.rest
    → link_list ls m ≡ link_list ls n → link_eq m n ≡ true
same_tree ls one m n g h p =
    let heads : ◌≡◌ {A = ℕ × ℕ} (m.skipped, m.ty) (n.skipped, n.ty) = cc in
    let rests : list_at ls m.rest ≡ list_at ls n.rest = cc in
    let skipped = ap (λ (z : ℕ × ℕ). z.0) heads in
    let ty = ap (λ (z : ℕ × ℕ). z.1) heads in
    both_true (eq-eqb m.skipped n.skipped skipped)
    (both_true (eq-eqb m.ty n.ty ty) (eq-eqb m.rest n.rest (list_one ls one m.rest n.rest g h rests)))

pub laws : NodeLaws link_list IsLinkBelow HasRest link_eq
laws = record {
  more_below = λ j k le n h. omega arith;
  tree_stays = λ ls ms e n below. ap (λ l. (n.skipped, n.ty) ∷ l) (list_kept ls ms e n.rest below);
  fits_stays = λ ls ms e n d below h. (still-list ls ms e n.rest h.0, still-list ls ms e d h.1);
  tree_same = tree_same;
  same_tree = λ ls one m n d e below above fits also same. same_tree ls one m n fits.0 also.0 same;
}

-- ---- of binders those that count
module _ (ls : List (List (ℕ × ℕ))) (l : List (ℕ × ℕ)) (n : Link) (is : l ≡ (n.skipped, n.ty) ∷ list_at ls n.rest) where
  pub place-here : (k : ℕ) → k ≤ n.skipped → slice_get (spread l) k ≡ Some n.ty
  place-here k h = ap (λ l. slice_get (spread l) k) is ∙ run-here n.skipped k n.ty (types_of ls n.rest) h

  pub place-later : (k j : ℕ) → k ≡ suc (n.skipped + j) → slice_get (spread l) k ≡ slice_get (types_of ls n.rest) j
  place-later k j e = ap (λ l. slice_get (spread l) k) is ∙ run-past n.skipped j k n.ty (types_of ls n.rest) e

  -- a list is longer than that behind its first link
  pub length-rest : length l ≡ suc (length (list_at ls n.rest))
  length-rest = ap length is

pub place-nowhere : (l : List (ℕ × ℕ)) (k : ℕ) → l ≡ [] → slice_get (spread l) k ≡ None
place-nowhere l k is = ap (λ l. slice_get (spread l) k) is

pub split-here : (ls : List (List (ℕ × ℕ))) (l : List (ℕ × ℕ)) (n : Link) → HasList ls n.rest
    → l ≡ (n.skipped, n.ty) ∷ list_at ls n.rest → IsSplit ls (spread l) n.skipped n.ty n.rest
split-here ls l n h e = subst (λ l. IsSplit ls (spread l) n.skipped n.ty n.rest) (sym e) (record {
  has = h;
  here = run-here n.skipped n.skipped n.ty (types_of ls n.rest) (omega arith);
  behind = λ j. run-past n.skipped j (suc (n.skipped + j)) n.ty (types_of ls n.rest) refl;
})

-- behind a link that is passed over
pub split-later : (ls : List (List (ℕ × ℕ))) (l : List (ℕ × ℕ)) (n : Link) (k j t b : ℕ)
    → l ≡ (n.skipped, n.ty) ∷ list_at ls n.rest → k ≡ suc (n.skipped + j)
    → IsSplit ls (types_of ls n.rest) j t b → IsSplit ls (spread l) k t b
split-later ls l n k j t b e is h = subst (λ l. IsSplit ls (spread l) k t b) (sym e) (record {
  has = h.has;
  here = run-past n.skipped j k n.ty (types_of ls n.rest) is ∙ h.here;
  behind = λ i. run-past n.skipped (suc (j + i)) (suc (k + i)) n.ty (types_of ls n.rest) (omega arith) ∙ h.behind i;
})

-- a list cut to its places
pub agree-cut : (places ps : List (ℕ × ℕ)) (l r s : List ℕ) (n u t : ℕ) → places ≡ (n, u) ∷ ps
    → slice_get l n ≡ Some t → ((j : ℕ) → slice_get l (suc (n + j)) ≡ slice_get r j) → Agree ps r s
    → Agree places l (run n t (t ∷ s))
agree-cut places ps l r s n u t is here behind h = subst (λ m. Agree m l (run n t (t ∷ s))) (sym is)
    (λ k place. elim place [
      | inl e ↦ ap (slice_get l) e ∙ here ∙ sym (run-here n k t s (omega arith))
      | inr q ↦ ap (slice_get l) q.1 ∙ behind q.0 ∙ h q.0 q.2 ∙ sym (run-past n q.0 k t s q.1)
    ])

pub types-cut : (P : ℕ → Type 0) (l r s : List ℕ) (k t : ℕ) → slice_get l k ≡ Some t
    → ((j : ℕ) → slice_get l (suc (k + j)) ≡ slice_get r j) → All P l → (All P r → All P s)
    → All P (run k t (t ∷ s))
types-cut P l r s k t here behind h more =
    All-run P k t s (subst P (get_or_from_slice_get l k t 0 here) (h k 0 (slice_get_within l k t here)))
    (more
    (All-found P l r (suc k) h
    (λ j. let same : suc k + j ≡ suc (k + j) = omega arith in ap (slice_get l) same ∙ behind j)))

-- ---- a list by its first link
pub front-link : (es : List (Link × ℕ)) (ls : List (List (ℕ × ℕ))) → AreLinks es ls → (b i : ℕ) (n : Link) (d : ℕ)
    → b ≡ suc i → slice_get es i ≡ Some (n, d)
    → (HasList ls n.rest × (list_at ls b ≡ (n.skipped, n.ty) ∷ list_at ls n.rest)) × HasList ls d
front-link es ls sound b i n d e found =
    let entry = sound.entries i n d found in (
      (entry.fits.0, ap (list_at ls) e ∙ get_or_from_slice_get ls i (link_list ls n) [] entry.tree),
      entry.fits.1,
    )

pub list-link : (es : List (Link × ℕ)) (ls : List (List (ℕ × ℕ))) → AreLinks es ls → (b i : ℕ) → b ≡ suc i
    → HasList ls b → i < length es
list-link es ls sound b i e h =
    let within = list-within ls i (subst (HasList ls) e h) in
    omega (arith, within, sound.same_length)
