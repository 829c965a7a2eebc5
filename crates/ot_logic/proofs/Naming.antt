-- The naming under a list of distinct names is an equivalence.
use Rattle.std.specs.Prelude.{◌≡◌, ◌≢◌, ℕ, zero, suc, ◌+◌, ◌<◌, Bool, true, false}
use Rattle.std.specs.Prelude.{nat_eq, List, [], ◌∷◌, map, slice_get, Some, ◌⊎◌}
use Rattle.std.specs.Bool.{Decides}
use Rattle.std.proofs.Common.{refl, sym, ◌∙◌, ap, subst, inl, inr, arith, eq-eqb, eqb-true}
use Rattle.std.proofs.lemmas.Option.{none-some, same_Some}
use Rattle.std.proofs.lemmas.Slice.Eq.{slice_eq-Decides, bytes_eq-Decides}
use mathlib.Core.Equiv.{Iso, IsEquiv, iso_to_equiv}
use Rattle.ot_logic.specs.Lists.{IsMember, AreDistinct}
use Rattle.ot_logic.proofs.Line.{IsLettering}
use Rattle.ot_logic.specs.Names.{Name, same_name}
use Rattle.ot_logic.specs.Naming.{IsNames, names, numbers, longer, next, list_of, swap, settle, name_of}

-- ---- lists of numbers, counted
double : ℕ → ℕ
double zero = 0
double (suc n) = suc (suc (double n))

scale : ℕ → ℕ → ℕ
scale zero n = n
scale (suc x) n = double (scale x n)

number_of : List ℕ → ℕ
number_of [] = 0
number_of (x ∷ xs) = scale x (suc (double (number_of xs)))

number_of-longer : (x : ℕ) (xs : List ℕ) → number_of (longer (x ∷ xs)) ≡ double (number_of (x ∷ xs))
unfolding number_of longer scale
number_of-longer x xs = refl

next-some : (xs : List ℕ) → (y : ℕ) × (ys : List ℕ) × (next xs ≡ y ∷ ys)
unfolding next longer
next-some [] = (0, [], refl)
next-some (zero ∷ xs) = let r = next-some xs in (suc r.0, r.1, ap longer r.2)
next-some (suc x ∷ xs) = (0, x ∷ xs, refl)

number_of-next : (xs : List ℕ) → number_of (next xs) ≡ suc (number_of xs)
unfolding next number_of scale double
number_of-next [] = refl
number_of-next (zero ∷ xs) =
    let r = next-some xs in
    ap (λ l. number_of (longer l)) r.2 ∙ number_of-longer r.0 r.1 ∙ ap (λ l. double (number_of l)) (sym r.2)
    ∙ ap double (number_of-next xs)
number_of-next (suc x ∷ xs) = refl

number_of-list_of : (n : ℕ) → number_of (list_of n) ≡ n
unfolding list_of number_of
number_of-list_of zero = refl
number_of-list_of (suc n) = number_of-next (list_of n) ∙ ap suc (number_of-list_of n)

next-next-longer : (l : List ℕ) → next (next (longer l)) ≡ longer (next l)
unfolding next longer
next-next-longer [] = refl
next-next-longer (y ∷ ys) = refl

list_of-double : (n : ℕ) → list_of (double n) ≡ longer (list_of n)
unfolding list_of double longer
list_of-double zero = refl
list_of-double (suc n) = ap (λ l. next (next l)) (list_of-double n) ∙ next-next-longer (list_of n)

next-longer : (l : List ℕ) → next (longer l) ≡ 0 ∷ l
unfolding next longer
next-longer [] = refl
next-longer (y ∷ ys) = refl

list_of-scale : (x : ℕ) (l : List ℕ) → list_of (number_of l) ≡ l → list_of (scale x (suc (double (number_of l)))) ≡ x
    ∷ l
unfolding scale list_of longer
list_of-scale zero l h = ap next (list_of-double (number_of l) ∙ ap longer h) ∙ next-longer l
list_of-scale (suc x) l h = list_of-double (scale x (suc (double (number_of l)))) ∙ ap longer (list_of-scale x l h)

list_of-number_of : (l : List ℕ) → list_of (number_of l) ≡ l
unfolding number_of list_of
list_of-number_of [] = refl
list_of-number_of (x ∷ l) = list_of-scale x l (list_of-number_of l)

-- ---- lists of such lists
lists : Iso (List ℕ) Name
lists = record {
  fun = map list_of;
  inv = map number_of;
  rinv = back;
  linv = forth;
}
  where
    back : (l : Name) → map list_of (map number_of l) ≡ l
    back [] = refl
    back (x ∷ l) = λ i. list_of-number_of x i ∷ back l i

    forth : (l : List ℕ) → map number_of (map list_of l) ≡ l
    forth [] = refl
    forth (x ∷ l) = λ i. number_of-list_of x i ∷ forth l i

-- each number has a name, and each name a number
start : Iso ℕ Name
unfolding lists
start = record {
  fun = λ i. map list_of (list_of i);
  inv = λ n. number_of (map number_of n);
  rinv = λ n. ap (map list_of) (list_of-number_of (map number_of n)) ∙ lists.rinv n;
  linv = λ i. ap number_of (lists.linv (list_of i)) ∙ number_of-list_of i;
}

-- ---- swaps
pub same_name-is : (a b : Name) → Decides (same_name a b) (a ≡ b)
same_name-is a b = slice_eq-Decides bytes_eq-Decides a b (same_name a b) refl

name_cases : (a b : Name) → ((same_name a b ≡ true) × (a ≡ b)) ⊎ ((same_name a b ≡ false) × (a ≢ b))
name_cases a b = go (same_name a b) refl
  where
    go : (t : Bool) → same_name a b ≡ t → ((same_name a b ≡ true) × (a ≡ b)) ⊎ ((same_name a b ≡ false) × (a ≢ b))
    go true h = inl (h, (same_name-is a b).0 h)
    go false h = inr (h, λ p. let g = (same_name-is a b).1 p in cc)

swap-left : (x y : Name) → swap x y x ≡ y
unfolding swap
swap-left x y = rw ((same_name-is x x).1 refl)

swap-right : (x y : Name) → swap x y y ≡ x
unfolding swap
swap-right x y = elim (name_cases y x) [ inl p ↦ rw p.0 p.1 | inr p ↦ rw (p.0, (same_name-is y y).1 refl) ]

swap-other : (x y z : Name) → z ≢ x → z ≢ y → swap x y z ≡ z
unfolding swap
swap-other x y z p q = elim (name_cases z x) [
  | inl a ↦ absurd (p a.1)
  | inr a ↦ elim (name_cases z y) [ inl b ↦ absurd (q b.1) | inr b ↦ rw (a.0, b.0) ]
]

swap-swap : (x y z : Name) → swap x y (swap x y z) ≡ z
swap-swap x y z = elim (name_cases z x) [
  | inl a ↦ ap (λ n. swap x y (swap x y n)) a.1 ∙ ap (swap x y) (swap-left x y) ∙ swap-right x y ∙ sym a.1
  | inr a ↦ elim (name_cases z y) [
    | inl b ↦ ap (λ n. swap x y (swap x y n)) b.1 ∙ ap (swap x y) (swap-right x y) ∙ swap-left x y ∙ sym b.1
    | inr b ↦ ap (swap x y) (swap-other x y z a.1 b.1) ∙ swap-other x y z a.1 b.1
  ]
]

-- ---- the numbers of a list
swapped : Iso ℕ Name → ℕ → Name → Iso ℕ Name
swapped I k n = record {
  fun = λ i. swap (I.fun k) n (I.fun i);
  inv = λ m. I.inv (swap (I.fun k) n m);
  rinv = λ m. ap (swap (I.fun k) n) (I.rinv (swap (I.fun k) n m)) ∙ swap-swap (I.fun k) n m;
  linv = λ i. ap I.inv (swap-swap (I.fun k) n (I.fun i)) ∙ I.linv i;
}

settled : Iso ℕ Name → ℕ → List Name → Iso ℕ Name
settled I k [] = I
settled I k (n ∷ ns) = settled (swapped I k n) (suc k) ns

settled-fun : (I : Iso ℕ Name) (k : ℕ) (ns : List Name) → (settled I k ns).fun ≡ settle I.fun k ns
unfolding settled settle swapped
settled-fun I k [] = refl
settled-fun I k (n ∷ ns) = settled-fun (swapped I k n) (suc k) ns

-- the naming and its inverse
naming_iso : (ns : List Name) → Iso ℕ Name
unfolding name_of start
naming_iso ns = record {
  fun = name_of ns;
  inv = I.inv;
  rinv = λ m. ap (λ f. f (I.inv m)) (sym same)
      ∙ I.rinv m;
  linv = λ i. ap (λ f. I.inv (f i)) (sym same) ∙ I.linv i;
}
  where
    I : Iso ℕ Name
    I = settled start 0 ns

    same : I.fun ≡ name_of ns
    same = settled-fun start 0 ns

pub naming-equiv : (ns : List Name) → IsEquiv (name_of ns)
unfolding naming_iso
naming-equiv ns = (iso_to_equiv (naming_iso ns)).1

-- the equivalence
abbrev pub naming : List Name → Equiv ℕ Name
naming ns = (name_of ns, naming-equiv ns)

-- ---- the number of a place has the name at the place
-- a number below k keeps its name
settle-keeps : (I : Iso ℕ Name) (k j : ℕ) (ns : List Name) → j < k → ¬ (IsMember (I.fun j) ns)
    → settle I.fun k ns j ≡ I.fun j
unfolding settle swapped
settle-keeps I k j [] h fresh = refl
settle-keeps I k j (n ∷ ns) h fresh =
    let apart : I.fun j ≢ I.fun k = λ p. let q : j ≡ k = sym (I.linv j) ∙ ap I.inv p ∙ I.linv k in omega arith in
    let same : swap (I.fun k) n (I.fun j) ≡ I.fun j =
    swap-other (I.fun k) n (I.fun j) apart (λ p. fresh (inl (sym p))) in
    settle-keeps (swapped I k n) (suc k) j ns (omega arith) (λ m. fresh (inr (subst (λ x. IsMember x ns) same m)))
    ∙ same

settle-hits : (I : Iso ℕ Name) (k i : ℕ) (ns : List Name) (n : Name) → AreDistinct ns
    → ((j : ℕ) → j < k → ¬ (IsMember (I.fun j) ns)) → slice_get ns i ≡ Some n → settle I.fun k ns (i + k) ≡ n
unfolding settle swapped
settle-hits I k i [] n d fresh p = absurd (none-some n p)
settle-hits I k zero (m ∷ ns) n d fresh p =
    let first : m ≡ n = same_Some m n p in
    let here : swap (I.fun k) m (I.fun k) ≡ m = swap-left (I.fun k) m in
    let at : zero + k ≡ k = omega arith in
    ap (settle (swapped I k m).fun (suc k) ns) at ∙ settle-keeps (swapped I k m) (suc k) k ns (omega arith)
    (λ i. d.0 (subst (λ x. IsMember x ns) here i)) ∙ here ∙ first
settle-hits I k (suc i) (m ∷ ns) n d fresh p =
    let at : suc i + k ≡ i + suc k = omega arith in
    ap (settle (swapped I k m).fun (suc k) ns) at ∙ settle-hits (swapped I k m) (suc k) i ns n d.1 others p
  where
    others : (j : ℕ) → j < suc k → ¬ (IsMember ((swapped I k m).fun j) ns)
    others j h = λ mem. elim (name_cases (I.fun j) (I.fun k)) [
      | inl a ↦ d.0 (subst (λ x. IsMember x ns) (ap (swap (I.fun k) m) a.1 ∙ swap-left (I.fun k) m) mem)
      | inr a ↦
          let below : j < k = let apart : j ≢ k = λ q. a.1 (ap I.fun q) in omega arith in
          let out : I.fun j ≢ m = λ q. fresh j below (inl (sym q)) in
          fresh j below (inr (subst (λ x. IsMember x ns) (swap-other (I.fun k) m (I.fun j) a.1 out) mem))
    ]

pub name_of-at : (ns : List Name) (i : ℕ) (n : Name) → AreDistinct ns → slice_get ns i ≡ Some n → name_of ns i ≡ n
unfolding name_of start
name_of-at ns i n d p =
    let at : i ≡ i + 0 = omega arith in
    ap (name_of ns) at ∙ settle-hits start 0 i ns n d (λ j h. let no : ⊥ = omega arith in absurd no) p

-- two numbers with one name are one
pub name_of-injective : (ns : List Name) (i j : ℕ) → name_of ns i ≡ name_of ns j → i ≡ j
unfolding naming_iso
name_of-injective ns i j p = let I = naming_iso ns in sym (I.linv i) ∙ ap I.inv p ∙ I.linv j

-- ---- the test and the primitive names, under a list that begins with these
pub lettering : (ns : List Name) → IsNames ns → IsLettering (name_of ns) numbers names
lettering ns h = record {
  same = same;
  arrow = name_of-at ns 0 names.arrow h.distinct h.arrow;
  bool_name = name_of-at ns 1 names.bool_name h.distinct h.bool_name;
  equals = name_of-at ns 2 names.equals h.distinct h.equals;
}
  where
    same : (x y : ℕ) → nat_eq x y ≡ same_name (name_of ns x) (name_of ns y)
    same x y = elim (name_cases (name_of ns x) (name_of ns y)) [
      | inl a ↦ eq-eqb x y (name_of-injective ns x y a.1) ∙ sym a.0
      | inr a ↦ off (nat_eq x y) refl a.1 ∙ sym a.0
    ]
      where
        off : (t : Bool) → nat_eq x y ≡ t → name_of ns x ≢ name_of ns y → t ≡ false
        off true h n = absurd (n (ap (name_of ns) (eqb-true x y h)))
        off false h n = refl
