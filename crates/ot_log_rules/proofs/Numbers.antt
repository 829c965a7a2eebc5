-- Hypotheses by numbers: what is done to the numbers is done to the terms.
use Rattle.std.specs.Prelude.{filter, not, slice_get}
use Rattle.std.specs.Bool.{Decides}
use Rattle.std.specs.List.{All, list_any, list_all}
use Rattle.std.proofs.Common.{◌≡◌, ℕ, ◌+◌, ◌-◌, ◌<◌, ◌&&◌, length, get_or, take, arith, drop}
use Rattle.std.proofs.Common.{drop-cons, add-one, Bool, true, false, ◌||◌, cond, List, [], ◌∷◌, ◌++◌}
use Rattle.std.proofs.Common.{map, Some, nat_eq, eq-eqb, eqb-true, true≢false, refl, sym, ap, ◌∙◌}
use Rattle.std.proofs.lemmas.List.Elements.{All-head, All-tail, All-nil, All-cons}
use Rattle.std.proofs.lemmas.List.{take_all, length-drop, map-append}
use Rattle.std.proofs.lemmas.Option.{slice_get_within, get_or_from_slice_get}
use Rattle.ot_logic.specs.Names.{Name}
use Rattle.ot_logic.specs.Naming.{names}
use Rattle.ot_logic.specs.Trees.{Tm}
use Rattle.ot_logic.specs.Hol.{same_tm, is_in, minus, lacking, union, once_each}
use Rattle.ot_logic.specs.Table.{IsInjective}
use Rattle.ot_laws.proofs.Tests.{tells_names, same_tm-is}
use Rattle.ot_log_nodes.specs.Items.{Item, HasTerm, term_at}
use Rattle.ot_log_nodes.proofs.ItemLemmas.{term-one}
use Rattle.ot_log_rules.specs.Statements.{terms_at, once_of}

-- the next of the numbers
pub terms-drop : (ts : List Item) (ids : List ℕ) (k i : ℕ) → k < length ids → i ≡ get_or ids k i
    → terms_at ts (drop k ids) ≡ term_at ts i ∷ terms_at ts (drop (k + 1) ids)
terms-drop ts ids k i h e = ap (terms_at ts) (drop-cons ids k i h)
    ∙ (λ j. term_at ts (sym e j) ∷ terms_at ts (drop (sym (add-one k) j) ids))

pub all-next : (p : Tm Name → Bool) (ts : List Item) (ids : List ℕ) (k i : ℕ) (b : Bool) → k < length ids
    → i ≡ get_or ids k i → b ≡ p (term_at ts i) → list_all p (terms_at ts (drop k ids))
    ≡ (b && list_all p (terms_at ts (drop (k + 1) ids)))
all-next p ts ids k i b h e d = ap (list_all p) (terms-drop ts ids k i h e)
    ∙ ap (λ c. c && list_all p (terms_at ts (drop (k + 1) ids))) (sym d)

-- each member once: the next one falls away where it stands again among the rest
pub once-next : (is : List ℕ) (k i : ℕ) (b : Bool) → k < length is → i ≡ get_or is k i
    → b ≡ list_any (λ u. nat_eq u i) (take (length is - (k + 1)) (drop (k + 1) is))
    → once_of (drop k is) ≡ cond b (once_of (drop (k + 1) is)) (i ∷ once_of (drop (k + 1) is))
once-next is k i b h e d =
    let rest = once_of (drop (k + 1) is) in
    let next : drop k is ≡ i ∷ drop (k + 1) is = drop-cons is k i h ∙ (λ j. sym e j ∷ drop (sym (add-one k) j) is) in
    let whole = take_all (length is - (k + 1)) (drop (k + 1) is) (omega (arith, length-drop (k + 1) is)) in
    ap once_of next ∙ ap (λ c. cond c rest (i ∷ rest)) (sym (d ∙ ap (λ l. list_any (λ u. nat_eq u i) l) whole))

pub from_not-true : (b : Bool) → not b ≡ true → b ≡ false
from_not-true true p = sym p
from_not-true false p = refl

pub from_not-false : (b : Bool) → not b ≡ false → b ≡ true
from_not-false true p = refl
from_not-false false p = sym p

module _ (ts : List Item) (one : IsInjective ts) where
  pub same-terms : (i j : ℕ) → HasTerm ts i → HasTerm ts j → same_tm names (term_at ts i) (term_at ts j) ≡ nat_eq i j
  same-terms i j g h = by (nat_eq i j) refl
    where
      by : (b : Bool) → nat_eq i j ≡ b → same_tm names (term_at ts i) (term_at ts j) ≡ b
      by true e = (same_tm-is names tells_names (term_at ts i) (term_at ts j)).1 (ap (term_at ts) (eqb-true i j e))
      by false e = other (same_tm names (term_at ts i) (term_at ts j)) refl
        where
          other : (b : Bool) → same_tm names (term_at ts i) (term_at ts j) ≡ b → b ≡ false
          other true p =
              absurd (true≢false
              (sym (eq-eqb i j
              (term-one ts one i j g h ((same_tm-is names tells_names (term_at ts i) (term_at ts j)).0 p))) ∙ e))
          other false p = refl

  pub in-numbers : (t : ℕ) (us : List ℕ) → HasTerm ts t → All (HasTerm ts) us
      → is_in names (term_at ts t) (terms_at ts us) ≡ list_any (λ u. nat_eq u t) us
  in-numbers t [] g h = refl
  in-numbers t (u ∷ us) g h =
      let head = same-terms u t (All-head (HasTerm ts) u us h) g in
      let tail = in-numbers t us g (All-tail (HasTerm ts) u us h) in
      λ i. head i || tail i

  pub minus-numbers : (t : ℕ) (us : List ℕ) → HasTerm ts t → All (HasTerm ts) us
      → terms_at ts (filter (λ u. not (nat_eq u t)) us) ≡ minus names (term_at ts t) (terms_at ts us)
  minus-numbers t [] g h = refl
  minus-numbers t (u ∷ us) g h = by (nat_eq u t) refl (minus-numbers t us g (All-tail (HasTerm ts) u us h))
    where
      same : same_tm names (term_at ts u) (term_at ts t) ≡ nat_eq u t
      same = same-terms u t (All-head (HasTerm ts) u us h) g

      by : (b : Bool) → nat_eq u t ≡ b → terms_at ts (filter (λ u. not (nat_eq u t)) us)
          ≡ minus names (term_at ts t) (terms_at ts us)
          → terms_at ts (filter (λ u. not (nat_eq u t)) (u ∷ us)) ≡ minus names (term_at ts t) (terms_at ts (u ∷ us))
      by true e rest =
          ap (λ b. terms_at ts
          (cond (not b) (u ∷ filter (λ u. not (nat_eq u t)) us) (filter (λ u. not (nat_eq u t)) us))) e ∙ rest
          ∙ sym (ap
          (λ b. cond b (minus names (term_at ts t) (terms_at ts us))
          (term_at ts u ∷ minus names (term_at ts t) (terms_at ts us))) (same ∙ e))
      by false e rest =
          ap (λ b. terms_at ts
          (cond (not b) (u ∷ filter (λ u. not (nat_eq u t)) us) (filter (λ u. not (nat_eq u t)) us))) e
          ∙ ap (λ l. term_at ts u ∷ l) rest
          ∙ sym (ap
          (λ b. cond b (minus names (term_at ts t) (terms_at ts us))
          (term_at ts u ∷ minus names (term_at ts t) (terms_at ts us))) (same ∙ e))

  pub lacking-numbers : (g us : List ℕ) → All (HasTerm ts) g → All (HasTerm ts) us
      → terms_at ts (filter (λ t. not (list_any (λ u. nat_eq u t) g)) us) ≡ lacking names (terms_at ts g)
      (terms_at ts us)
  lacking-numbers g [] k h = refl
  lacking-numbers g (u ∷ us) k h =
      by (list_any (λ w. nat_eq w u) g) refl (lacking-numbers g us k (All-tail (HasTerm ts) u us h))
    where
      same : is_in names (term_at ts u) (terms_at ts g) ≡ list_any (λ w. nat_eq w u) g
      same = in-numbers u g (All-head (HasTerm ts) u us h) k

      by : (b : Bool) → list_any (λ w. nat_eq w u) g ≡ b
          → terms_at ts (filter (λ t. not (list_any (λ u. nat_eq u t) g)) us) ≡ lacking names (terms_at ts g)
          (terms_at ts us)
          → terms_at ts (filter (λ t. not (list_any (λ u. nat_eq u t) g)) (u ∷ us)) ≡ lacking names (terms_at ts g)
          (terms_at ts (u ∷ us))
      by true e rest =
          ap (λ b. terms_at ts (cond (not b) (u ∷ filter (λ t. not (list_any (λ u. nat_eq u t) g)) us)
          (filter (λ t. not (list_any (λ u. nat_eq u t) g)) us))) e ∙ rest
          ∙ sym (ap (λ b. cond b (lacking names (terms_at ts g) (terms_at ts us))
          (term_at ts u ∷ lacking names (terms_at ts g) (terms_at ts us))) (same ∙ e))
      by false e rest =
          ap (λ b. terms_at ts (cond (not b) (u ∷ filter (λ t. not (list_any (λ u. nat_eq u t) g)) us)
          (filter (λ t. not (list_any (λ u. nat_eq u t) g)) us))) e ∙ ap (λ l. term_at ts u ∷ l) rest
          ∙ sym (ap (λ b. cond b (lacking names (terms_at ts g) (terms_at ts us))
          (term_at ts u ∷ lacking names (terms_at ts g) (terms_at ts us))) (same ∙ e))

  pub union-numbers : (g us : List ℕ) → All (HasTerm ts) g → All (HasTerm ts) us
      → terms_at ts (g ++ filter (λ t. not (list_any (λ u. nat_eq u t) g)) us)
      ≡ union names (terms_at ts g) (terms_at ts us)
  union-numbers g us k h = map-append (term_at ts) g (filter (λ t. not (list_any (λ u. nat_eq u t) g)) us)
      ∙ ap (λ l. terms_at ts g ++ l) (lacking-numbers g us k h)

  pub once-numbers : (us : List ℕ) → All (HasTerm ts) us → terms_at ts (once_of us) ≡ once_each names (terms_at ts us)
  once-numbers [] h = refl
  once-numbers (u ∷ us) h = by (list_any (λ w. nat_eq w u) us) refl (once-numbers us (All-tail (HasTerm ts) u us h))
    where
      same : is_in names (term_at ts u) (terms_at ts us) ≡ list_any (λ w. nat_eq w u) us
      same = in-numbers u us (All-head (HasTerm ts) u us h) (All-tail (HasTerm ts) u us h)

      by : (b : Bool) → list_any (λ w. nat_eq w u) us ≡ b → terms_at ts (once_of us)
          ≡ once_each names (terms_at ts us) → terms_at ts (once_of (u ∷ us)) ≡ once_each names (terms_at ts (u ∷ us))
      by true e rest =
          ap (λ b. terms_at ts (cond b (once_of us) (u ∷ once_of us))) e ∙ rest
          ∙ sym (ap (λ b. cond b (once_each names (terms_at ts us)) (term_at ts u ∷ once_each names (terms_at ts us)))
          (same ∙ e))
      by false e rest =
          ap (λ b. terms_at ts (cond b (once_of us) (u ∷ once_of us))) e ∙ ap (λ l. term_at ts u ∷ l) rest
          ∙ sym (ap (λ b. cond b (once_each names (terms_at ts us)) (term_at ts u ∷ once_each names (terms_at ts us)))
          (same ∙ e))

-- ---- the numbers stay of terms
pub has-once : (P : ℕ → Type 0) (us : List ℕ) → All P us → All P (once_of us)
has-once P [] h = All-nil P
has-once P (u ∷ us) h = by (list_any (λ w. nat_eq w u) us) (has-once P us (All-tail P u us h))
  where
    by : (b : Bool) → All P (once_of us) → All P (cond b (once_of us) (u ∷ once_of us))
    by true rest = rest
    by false rest = All-cons P u (once_of us) (All-head P u us h) rest

-- the next of a list, under a test of what its items stand for
pub all-next_map : {X Y : Type 0} (p : Y → Bool) (f : X → Y) (xs : List X) (k : ℕ) (x : X) (b : Bool) → k < length xs
    → x ≡ get_or xs k x → b ≡ p (f x) → list_all p (map f (drop k xs)) ≡ (b && list_all p (map f (drop (k + 1) xs)))
all-next_map p f xs k x b h e d =
    ap (λ l. list_all p (map f l)) (drop-cons xs k x h ∙ (λ j. sym e j ∷ drop (sym (add-one k) j) xs))
    ∙ ap (λ c. c && list_all p (map f (drop (k + 1) xs))) (sym d)

-- what holds of what the items stand for
pub All-unmap : {X Y : Type 0} (P : Y → Type 0) (f : X → Y) (xs : List X) → All P (map f xs) → All (λ x. P (f x)) xs
All-unmap P f [] h = All-nil (λ x. P (f x))
All-unmap P f (x ∷ xs) h =
    All-cons (λ x. P (f x)) x xs (All-head P (f x) (map f xs) h) (All-unmap P f xs (All-tail P (f x) (map f xs) h))

-- two tests that decide one thing answer alike
pub one-answer : {P : Type 0} (b c : Bool) → Decides b P → Decides c P → b ≡ c
one-answer true c d e = sym (e.1 (d.0 refl))
one-answer false true d e = d.1 (e.0 refl)
one-answer false false d e = refl

-- an element that was got by its index
pub entry-at : {X : Type 0} (xs : List X) (i : ℕ) (x : X) → Some x ≡ slice_get xs i
    → (i < length xs) × (x ≡ get_or xs i x)
entry-at xs i x e = (slice_get_within xs i x (sym e), sym (get_or_from_slice_get xs i x x (sym e)))
