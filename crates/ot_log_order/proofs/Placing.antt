-- The place of a term among others whose texts ascend.
use Rattle.std.specs.Prelude.{◌≡◌, ℕ, zero, suc, ◌+◌, ◌<◌, ◌≤◌, List, [], ◌∷◌, map, length}
use Rattle.std.specs.List.{AllByRecursion, insert}
use Rattle.std.specs.List.Sorted.{IsStrictlySortedBy}
use Rattle.std.specs.Ordering.{ordering_reverse}
use Rattle.std.specs.declared.cmp.Ordering.{Ordering}
use Rattle.std.specs.declared.cmp.Ordering.TheVariants.{Less, Equal, Greater}
use Rattle.std.proofs.lemmas.Cmp.{nat_list_cmp_total}
use Rattle.std.proofs.lemmas.List.{get_or-map, get_or_default, length-map}
use Rattle.std.proofs.lemmas.Map.Keys.{Less-from_sorted}
use Rattle.std.proofs.Common.{refl, sym, ◌∙◌, ap, subst, arith, get_or, below_more}
use Rattle.ot_logic.specs.Names.{Name}
use Rattle.ot_logic.specs.Trees.{Tm}
use Rattle.ot_log_nodes.specs.Items.{Item, term_at}
use Rattle.ot_text.specs.Texts.{tm_text, order}
use Rattle.ot_text.proofs.Ascending.{equal-is, order-back, order-trans}
use Rattle.ot_log_records.specs.Expansions.{put_between, with_term, by_text}
use Rattle.ot_log_order.specs.Places.{text_at, AreAscending}

-- ---- what is put at its place ascends
abbrev Ascend : List (List ℕ) → Type 0
Ascend = IsStrictlySortedBy order

all-with : (P : List ℕ → Type 0) (t : Tm Name) (us : List (Tm Name)) → P (tm_text t)
    → AllByRecursion P (map tm_text us)
    → AllByRecursion P (map tm_text (with_term t us))
all-with P t [] p a = (p, tt)
all-with P t (u ∷ us) p a = go (order (tm_text t) (tm_text u)) (all-with P t us p a.1) where
  go : (o : Ordering) → AllByRecursion P (map tm_text (with_term t us))
      → AllByRecursion P (map tm_text (put_between o t u us (with_term t us)))
  go Less b = (p, a)
  go Equal b = a
  go Greater b = (a.0, b)

all-above : (x y : List ℕ) (zs : List (List ℕ)) → order x y ≡ Less → AllByRecursion (λ z. order y z ≡ Less) zs
    → AllByRecursion (λ z. order x z ≡ Less) zs
all-above x y [] h a = tt
all-above x y (z ∷ zs) h a = (order-trans x y z h a.0, all-above x y zs h a.1)

with-ascends : (t : Tm Name) (us : List (Tm Name)) → Ascend (map tm_text us) → Ascend (map tm_text (with_term t us))
unfolding IsStrictlySortedBy
with-ascends t [] a = (tt, tt)
with-ascends t (u ∷ us) a = go (order (tm_text t) (tm_text u)) refl (with-ascends t us a.1) where
  go : (o : Ordering) → order (tm_text t) (tm_text u) ≡ o → Ascend (map tm_text (with_term t us))
      → Ascend (map tm_text (put_between o t u us (with_term t us)))
  go Less e b = ((e, all-above (tm_text t) (tm_text u) (map tm_text us) e a.0), a)
  go Equal e b = a
  go Greater e b = (all-with (λ z. order (tm_text u) z ≡ Less) t us (order-back (tm_text t) (tm_text u) e) a.0, b)

by_text-ascends : (ts : List (Tm Name)) → Ascend (map tm_text (by_text ts))
unfolding IsStrictlySortedBy
by_text-ascends [] = tt
by_text-ascends (t ∷ ts) = with-ascends t (by_text ts) (by_text-ascends ts)

map-map : (ts : List Item) (is : List ℕ) → map tm_text (map (term_at ts) is) ≡ map (text_at ts) is
map-map ts [] = refl
map-map ts (i ∷ is) = ap (λ xs. text_at ts i ∷ xs) (map-map ts is)

pub sorted-ascends : (ts : List Item) (is : List ℕ) (us : List (Tm Name)) → map (term_at ts) is ≡ by_text us
    → AreAscending ts is
sorted-ascends ts is us e = subst Ascend (ap (map tm_text) (sym e) ∙ map-map ts is) (by_text-ascends us)

-- ---- halving
-- the terms in front of the number k come before the term t
abbrev pub AreBefore : List Item → List ℕ → (t k : ℕ) → Type 0
AreBefore ts is t k = (j : ℕ) → j < k → order (text_at ts t) (text_at ts (get_or is j 0)) ≡ Greater

ascending-less : (ts : List Item) (is : List ℕ) (j k : ℕ) → AreAscending ts is → j < k → k < length is
    → order (text_at ts (get_or is j 0)) (text_at ts (get_or is k 0)) ≡ Less
ascending-less ts is j k a lt h =
    let n = length-map is (text_at ts) in
    let left = get_or-map (text_at ts) is j 0 [] (omega arith) in
    let right = get_or-map (text_at ts) is k 0 [] h in
    (λ i. order (sym left i) (sym right i)) ∙ Less-from_sorted order (map (text_at ts) is) j k [] a lt
    (omega (arith, n))

less-back : (x y : List ℕ) → order y x ≡ Less → order x y ≡ Greater
less-back x y h = nat_list_cmp_total.antisymm x y ∙ ap ordering_reverse h

-- what was read at a number
pub read-at : (is : List ℕ) (m k : ℕ) → m < length is → k ≡ get_or is m k → k ≡ get_or is m 0
read-at is m k h e = e ∙ get_or_default is m k 0 h

-- where both ends of what is looked through are one
pub at-high : (ts : List Item) (is : List ℕ) (t low high : ℕ) → low ≤ high → high ≤ low
    → (high < length is → order (text_at ts t) (text_at ts (get_or is high 0)) ≡ Less)
    → low < length is → order (text_at ts t) (text_at ts (get_or is low 0)) ≡ Less
at-high ts is t low high p q h =
    let e : high ≡ low = omega arith in
    subst (λ i. i < length is → order (text_at ts t) (text_at ts (get_or is i 0)) ≡ Less) e h

pub before-greater : (ts : List Item) (is : List ℕ) (t m k : ℕ) → AreAscending ts is → m < length is
    → k ≡ get_or is m 0
    → order (text_at ts t) (text_at ts k) ≡ Greater → AreBefore ts is t (m + 1)
before-greater ts is t m k a h e g =
    let here = ap (λ z. order (text_at ts t) (text_at ts z)) (sym e) ∙ g in
    let back = order-back (text_at ts t) (text_at ts (get_or is m 0)) here in
    below_more (λ j. order (text_at ts t) (text_at ts (get_or is j 0)) ≡ Greater) m
    (λ j lt. less-back (text_at ts t) (text_at ts (get_or is j 0))
    (order-trans (text_at ts (get_or is j 0)) (text_at ts (get_or is m 0)) (text_at ts t)
    (ascending-less ts is j m a lt h) back))
    here

pub before-equal : (ts : List Item) (is : List ℕ) (t m k : ℕ) → AreAscending ts is → m < length is → k ≡ get_or is m 0
    → order (text_at ts t) (text_at ts k) ≡ Equal → AreBefore ts is t m
before-equal ts is t m k a h e g j lt =
    ap (λ x. order x (text_at ts (get_or is j 0))) (equal-is (text_at ts t) (text_at ts k) g ∙ ap (text_at ts) e)
    ∙ less-back (text_at ts (get_or is m 0)) (text_at ts (get_or is j 0)) (ascending-less ts is j m a lt h)

-- ---- at its place
abbrev put_at : List Item → (t u : ℕ) → List ℕ → Ordering → List (Tm Name)
put_at ts t u us o =
    put_between o (term_at ts t) (term_at ts u) (map (term_at ts) us) (with_term (term_at ts t) (map (term_at ts) us))

pub place-some : (ts : List Item) (is : List ℕ) (t i : ℕ) → i ≤ length is → AreBefore ts is t i
    → (i < length is → order (text_at ts t) (text_at ts (get_or is i 0)) ≡ Less)
    → map (term_at ts) (insert is i t) ≡ with_term (term_at ts t) (map (term_at ts) is)
place-some ts [] t zero h b l = refl
place-some ts [] t (suc i) h b l = absurd (omega arith)
place-some ts (u ∷ us) t zero h b l = ap (put_at ts t u us) (sym (l (omega arith)))
place-some ts (u ∷ us) t (suc i) h b l =
    ap (λ xs. term_at ts u ∷ xs)
    (place-some ts us t i (omega arith) (λ j lt. b (suc j) (omega arith)) (λ lt. l (omega arith)))
    ∙ ap (put_at ts t u us) (sym (b 0 (omega arith)))

none-at : (ts : List Item) (is : List ℕ) (t i : ℕ) → i < length is → AreBefore ts is t i
    → order (text_at ts t) (text_at ts (get_or is i 0)) ≡ Equal
    → map (term_at ts) is ≡ with_term (term_at ts t) (map (term_at ts) is)
none-at ts [] t i h b e = absurd (omega arith)
none-at ts (u ∷ us) t zero h b e = ap (put_at ts t u us) (sym e)
none-at ts (u ∷ us) t (suc i) h b e =
    ap (λ xs. term_at ts u ∷ xs) (none-at ts us t i (omega arith) (λ j lt. b (suc j) (omega arith)) e)
    ∙ ap (put_at ts t u us) (sym (b 0 (omega arith)))

pub place-none : (ts : List Item) (is : List ℕ) (t i k : ℕ) → i < length is → k ≡ get_or is i 0 → AreBefore ts is t i
    → order (text_at ts t) (text_at ts k) ≡ Equal
    → map (term_at ts) is ≡ with_term (term_at ts t) (map (term_at ts) is)
place-none ts is t i k h e b g = none-at ts is t i h b (ap (λ j. order (text_at ts t) (text_at ts j)) (sym e) ∙ g)
