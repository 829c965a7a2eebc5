-- A term's refusal is that of the first of its refused parts, and these stand in the order in which they count.
use Rattle.std.specs.Prelude.{◌≡◌, ◌≤◌, ◌<◌, ◌⊎◌, ℕ, suc, ◌+◌, ◌-◌, ◌||◌, ◌&&◌, not, Bool, true, false}
use Rattle.std.specs.Prelude.{List, [], ◌∷◌, ◌++◌, length, codes, Option, Some, None, Result, Ok, Err}
use Rattle.std.specs.List.{AllByRecursion}
use Rattle.std.proofs.Common.{refl, sym, ◌∙◌, ap, subst, inl, inr, append_assoc, length-append, arith, lit<}
use Rattle.std.proofs.lemmas.Bool.Decides.{eqb_tells}
use Rattle.ot_logic.specs.Answers.{◌>>=◌, some_or}
use Rattle.ot_logic.specs.Names.{Name}
use Rattle.ot_logic.specs.Naming.{names}
use Rattle.ot_logic.specs.Trees.{Tm, Free, Con, Bound, App, Abs, Symbol}
use Rattle.ot_logic.specs.Hol.{bool_ty}
use Rattle.ot_forms.specs.declared.fault.TextFault.{TextFault}
use Rattle.ot_forms.specs.declared.fault.TextFault.TheVariants.{Unbound, UnknownOperator, BadTypes, TooDeep}
use Rattle.ot_forms.specs.Forms.{Written, Writtens, Place, FreeAs, ConAs, Equal, Infix, Applied, Binding}
use Rattle.ot_forms.specs.Forms.{NoMore, More, type_text, term_text, terms_text, IsWritten, AreWritten}
use Rattle.ot_forms.specs.Meaning.{Around, Refusal, place_of, constant_of, has_type, is_typed, fits, check}
use Rattle.ot_forms.specs.Meaning.{whole, relation_ty, equated, are_alike, meaning, meaning_applied}
use Rattle.ot_forms.specs.Parts.{Part, CountsBefore, refused, whole_parts, fitting, meant}
use Rattle.ot_forms.specs.Parts.{applied_meaning, end_of, parts, parts_applied, AreOrdered}
use Rattle.ot_logic.proofs.Elements.{AllByRecursion-append}

-- the refusal is that of the first part
abbrev pub Agrees : {A : Type 0} → Result A Refusal → List Part → Type 0
Agrees (Ok t) ps = ps ≡ []
Agrees (Err r) ps = (stop : ℕ) × (rest : List Part) × (ps ≡ record { start = r.0; stop = stop; fault = r.1 } ∷ rest)

pub agrees-then : {A B : Type 0} (o : Result A Refusal) (ps qs : List Part) (f : A → Result B Refusal) → Agrees o ps
    → ((t : A) → o ≡ Ok t → Agrees (f t) qs) → Agrees (o >>= f) (ps ++ qs)
agrees-then (Ok t) ps qs f h k = subst (λ z. Agrees (f t) (z ++ qs)) (sym h) (k t refl)
agrees-then (Err r) ps qs f (stop, rest, e) k = (stop, rest ++ qs, ap (λ z. z ++ qs) e)

whole-agrees : (l : Around) (wanted : Bool) (k e : ℕ) (t : Tm Name)
    → Agrees (whole l wanted k t) (whole_parts l wanted k e t)
whole-agrees l wanted k e t = go wanted (has_type l t (bool_ty names)) (fits l t) where
  go : (w b d : Bool) → Agrees (check k BadTypes (not w || b) >>= λ _. (check k TooDeep d >>= λ _. Ok t))
      (refused k e BadTypes (w && not b) ++ refused k e TooDeep (not d))
  go true false d = (e, refused k e TooDeep (not d), refl)
  go true true true = refl
  go true true false = (e, [], refl)
  go false true true = refl
  go false false true = refl
  go false true false = (e, [], refl)
  go false false false = (e, [], refl)

fitting-agrees : (k e : ℕ) (b : Bool) (o : Result (Tm Name) Refusal) (ps : List Part) → Agrees o ps
    → Agrees (check k BadTypes b >>= λ _. o) (fitting k e b ps)
fitting-agrees k e true o ps h = h
fitting-agrees k e false o ps h = (e, [], refl)

regroup : (o : Result (Unit {0}) Refusal) (p : Result (Tm Name) Refusal) (f : Tm Name → Result (Tm Name) Refusal)
    → ((o >>= λ _. p) >>= f) ≡ (o >>= λ _. (p >>= f))
regroup (Ok u) p f = refl
regroup (Err r) p f = refl

operator : (l : Around) (wanted : Bool) (k e : ℕ) (x y : Tm Name) (o : Option Name)
    → Agrees (some_or (k, UnknownOperator) o >>= λ n. whole l wanted k (App (App (Con n relation_ty) x) y))
    (elim o [
      | None ↦ refused k e UnknownOperator true
      | Some n ↦
          whole_parts l wanted k e (App (App (Con n relation_ty) x) y)
    ])
operator l wanted k e x y None = (e, [], refl)
operator l wanted k e x y (Some n) = whole-agrees l wanted k e (App (App (Con n relation_ty) x) y)

module _ (hidden : List (Symbol Name)) where
  mutual
    pub agrees : (l : Around) (wanted : Bool) (k : ℕ) (w : Written)
        → Agrees (meaning hidden l wanted k w) (parts hidden l wanted k w)
    agrees l wanted k (Place x) = place (place_of l x) where
      place : (o : Option ℕ) → Agrees (some_or (k, Unbound) o >>= λ i. whole l wanted k (Bound i))
          (elim o [
            | None ↦ refused k (k + length x) Unbound true
            | Some i ↦ whole_parts l wanted k (k + length x)
                (Bound i)
          ])
      place None = (k + length x, [], refl)
      place (Some i) = whole-agrees l wanted k (k + length x) (Bound i)
    agrees l wanted k (FreeAs n t) =
        whole-agrees l wanted k (end_of hidden k (FreeAs n t)) (Free (record { name = n; ty = t }))
    agrees l wanted k (ConAs n t) = whole-agrees l wanted k (end_of hidden k (ConAs n t)) (Con n t)
    agrees l wanted k (Equal a b) =
        let ka = k + 1 in let kb = k + 4 + length (term_text hidden a) in
        let e = end_of hidden k (Equal a b) in
        agrees-then (meaning hidden l false ka a) (parts hidden l false ka a) _ _ (agrees l false ka a) (λ x ex.
        subst (λ o.
        Agrees (meaning hidden l false kb b
        >>= λ y. (check k BadTypes (are_alike l x y) >>= λ _. whole l wanted k (equated l x y)))
        (parts hidden l false kb b
        ++ meant o (λ x. meant (meaning hidden l false kb b)
        (λ y. fitting k e (are_alike l x y) (whole_parts l wanted k e (equated l x y)))))) (sym ex)
        (agrees-then (meaning hidden l false kb b) (parts hidden l false kb b) _ _ (agrees l false kb b) (λ y ey.
        subst (λ o. Agrees (check k BadTypes (are_alike l x y) >>= λ _. whole l wanted k (equated l x y))
        (meant o (λ y. fitting k e (are_alike l x y) (whole_parts l wanted k e (equated l x y))))) (sym ey)
        (fitting-agrees k e (are_alike l x y) (whole l wanted k (equated l x y))
        (whole_parts l wanted k e (equated l x y)) (whole-agrees l wanted k e (equated l x y))))))
    agrees l wanted k (Infix o a b) =
        let ka = k + 1 in let kb = k + 3 + length (term_text hidden a) + length o in
        let e = end_of hidden k (Infix o a b) in
        let own : Tm Name → Tm Name → List Part =
        λ x y. elim (constant_of hidden o) [
          | None ↦ refused k e UnknownOperator true
          | Some n ↦
              whole_parts l wanted k e (App (App (Con n relation_ty) x) y)
        ] in
        let last : Tm Name → Tm Name → Result (Tm Name) Refusal = λ x y. some_or (k, UnknownOperator)
        (constant_of hidden o) >>= λ n. whole l wanted k (App (App (Con n relation_ty) x) y) in
        agrees-then (meaning hidden l true ka a) (parts hidden l true ka a) _ _ (agrees l true ka a) (λ x ex.
        subst (λ q. Agrees (meaning hidden l true kb b >>= last x)
        (parts hidden l true kb b ++ meant q (λ x. meant (meaning hidden l true kb b) (own x)))) (sym ex)
        (agrees-then (meaning hidden l true kb b) (parts hidden l true kb b) _ _ (agrees l true kb b) (λ y ey.
        subst (λ q. Agrees (last x y) (meant q (own x))) (sym ey)
        (operator l wanted k e x y (constant_of hidden o)))))
    agrees l wanted k (Applied f a more) =
        let kf = k + 1 in let ka = k + 2 + length (term_text hidden f) in
        let i = k + 3 + length (term_text hidden f) + length (term_text hidden a) in
        agrees-then (meaning hidden l false kf f) (parts hidden l false kf f) _ _ (agrees l false kf f) (λ g eg.
        subst (λ o. Agrees (meaning hidden l false ka a >>= λ x. meaning_applied hidden l wanted k i g x more)
        (parts hidden l false ka a ++ parts_applied hidden l wanted k i o (meaning hidden l false ka a) more))
        (sym eg)
        (agrees-then (meaning hidden l false ka a) (parts hidden l false ka a) _ _ (agrees l false ka a) (λ x ex.
        subst (λ o. Agrees (meaning_applied hidden l wanted k i g x more)
        (parts_applied hidden l wanted k i (Ok g) o more)) (sym ex) (agrees-applied l wanted k i g x more))))
    agrees l wanted k (Binding x t a) =
        let ka = k + 8 + length x + length (type_text hidden t) in
        let e = end_of hidden k (Binding x t a) in
        agrees-then (meaning hidden ((x, t) ∷ l) false ka a) (parts hidden ((x, t) ∷ l) false ka a) _ _
        (agrees ((x, t) ∷ l) false ka a) (λ b eb.
        subst (λ o. Agrees (whole l wanted k (Abs t b)) (meant o (λ b. whole_parts l wanted k e (Abs t b)))) (sym eb)
        (whole-agrees l wanted k e (Abs t b)))

    agrees-applied : (l : Around) (wanted : Bool) (k i : ℕ) (g x : Tm Name) (more : Writtens)
        → Agrees (meaning_applied hidden l wanted k i g x more) (parts_applied hidden l wanted k i (Ok g) (Ok x) more)
    agrees-applied l wanted k i g x NoMore = fitting-agrees k i (is_typed l (App g x)) (whole l wanted k (App g x))
        (whole_parts l wanted k i (App g x)) (whole-agrees l wanted k i (App g x))
    agrees-applied l wanted k i g x (More b bs) =
        let own = applied_meaning l k (Ok g) (Ok x) in
        let j = i + 1 + length (term_text hidden b) in
        let further : Tm Name → Result (Tm Name) Refusal =
        λ z. meaning hidden l false i b >>= λ y. meaning_applied hidden l wanted k j z y bs in
        subst (λ o. Agrees o (parts_applied hidden l wanted k i (Ok g) (Ok x) (More b bs)))
        (regroup (check k BadTypes (is_typed l (App g x))) (whole l false k (App g x)) further)
        (agrees-then own (fitting k (i - 1) (is_typed l (App g x)) (whole_parts l false k (i - 1) (App g x))) _
        further
        (fitting-agrees k (i - 1) (is_typed l (App g x)) (whole l false k (App g x))
        (whole_parts l false k (i - 1) (App g x)) (whole-agrees l false k (i - 1) (App g x)))
        (λ z ez. subst
        (λ o. Agrees (further z) (parts hidden l false i b ++ parts_applied hidden l wanted k j o
        (meaning hidden l false i b) bs)) (sym ez)
        (agrees-then (meaning hidden l false i b) (parts hidden l false i b) _ _ (agrees l false i b) (λ y ey.
        subst (λ o. Agrees (meaning_applied hidden l wanted k j z y bs)
        (parts_applied hidden l wanted k j (Ok z) o bs)) (sym ey) (agrees-applied l wanted k j z y bs)))))

-- ---- the parts stand in the order in which they count
le-split : (a b : ℕ) → a ≤ b → (a < b) ⊎ (a ≡ b)
le-split a b h = elim (eqb_tells a b) [ inl p ↦ inr p.1 | inr q ↦ inl (let n = q.1 in omega (arith, n)) ]

pub all-to : {X : Type 0} (P Q : X → Type 0) (xs : List X) → ((x : X) → P x → Q x) → AllByRecursion P xs
    → AllByRecursion Q xs
all-to P Q [] f h = tt
all-to P Q (x ∷ xs) f h = (f x h.0, all-to P Q xs f h.1)

pub ordered-append : (ps qs : List Part) → AreOrdered ps → AreOrdered qs
    → AllByRecursion (λ p. AllByRecursion (CountsBefore p) qs) ps → AreOrdered (ps ++ qs)
ordered-append [] qs h k w = k
ordered-append (p ∷ ps) qs h k w =
    (AllByRecursion-append (CountsBefore p) ps qs h.0 w.0, ordered-append ps qs h.1 k w.1)

-- within these places
pub record IsIn (lo hi : ℕ) (p : Part) : Type 0 where
  pub from : lo ≤ p.start
  pub past : lo < p.stop
  pub to : p.stop ≤ hi

-- before what begins at k and ends at e
abbrev IsPrior : ℕ → ℕ → Part → Type 0
IsPrior k e p = (p.stop < e) ⊎ ((p.stop ≤ e) × (k < p.start))

pub record IsOwn (k e : ℕ) (p : Part) : Type 0 where
  pub from : p.start ≡ k
  pub to : p.stop ≡ e

prior-counts : (k e : ℕ) (p q : Part) → IsPrior k e p → IsOwn k e q → CountsBefore p q
prior-counts k e p q h o = elim h [
  | inl s ↦ inl (let t = o.to in omega (arith, s, t))
  | inr s ↦ elim (le-split p.stop e s.0) [
    | inl t ↦ inl (let u = o.to in omega (arith, t, u))
    | inr t ↦
        inr (t ∙ sym o.to, inl (let u = o.from in let v = s.1 in omega (arith, u, v)))
  ]
]

-- the parts so far of a part that begins at k: all before what ends at e
pub record AreSoFar (k e : ℕ) (ps : List Part) : Type 0 where
  pub ordered : AreOrdered ps
  pub prior : AllByRecursion (IsPrior k e) ps
  pub from : AllByRecursion (λ p. (k ≤ p.start) × (k < p.stop)) ps

pub record AreIn (lo hi : ℕ) (ps : List Part) : Type 0 where
  pub ordered : AreOrdered ps
  pub inside : AllByRecursion (IsIn lo hi) ps

pub record AreOwn (k e : ℕ) (ps : List Part) : Type 0 where
  pub ordered : AreOrdered ps
  pub own : AllByRecursion (IsOwn k e) ps

-- further parts behind
so-far-in : (k e lo hi : ℕ) (ps qs : List Part) → AreSoFar k e ps → AreIn lo hi qs → e ≤ lo → k < lo → lo < hi
    → AreSoFar k hi (ps ++ qs)
so-far-in k e lo hi ps qs h w a b c = go qs w.inside w.ordered where
  bound : (p : Part) → IsPrior k e p → p.stop ≤ e
  bound p s = elim s [ inl t ↦ omega arith | inr t ↦ t.0 ]

  apart : (qs : List Part) → AllByRecursion (IsIn lo hi) qs → (p : Part) → IsPrior k e p
      → AllByRecursion (CountsBefore p) qs
  apart qs z p s = all-to (IsIn lo hi) (CountsBefore p) qs
      (λ q i. inl (let t = bound p s in let u = i.past in omega (arith, t, u, a))) z

  go : (qs : List Part) → AllByRecursion (IsIn lo hi) qs → AreOrdered qs → AreSoFar k hi (ps ++ qs)
  go qs z o = record {
    ordered = ordered-append ps qs h.ordered o
        (all-to (IsPrior k e) (λ p. AllByRecursion (CountsBefore p) qs) ps (apart qs z) h.prior);
    prior = AllByRecursion-append (IsPrior k hi) ps qs
        (all-to (IsPrior k e) (IsPrior k hi) ps (λ p s. inl (let t = bound p s in omega (arith, t, a, c))) h.prior)
        (all-to (IsIn lo hi) (IsPrior k hi) qs (λ p i. inr (i.to, (let t = i.from in omega (arith, t, b)))) z);
    from = AllByRecursion-append (λ p. (k ≤ p.start) × (k < p.stop)) ps qs h.from
        (all-to (IsIn lo hi) (λ p. (k ≤ p.start) × (k < p.stop)) qs
        (λ p i. let t = i.from in let u = i.past in (omega (arith, t, b), omega (arith, u, b))) z);
  }

-- the part's own refusals behind them
so-far-own : (k e : ℕ) (ps qs : List Part) → AreSoFar k e ps → AreOwn k e qs → k < e
    → AreOrdered (ps ++ qs) × AllByRecursion (IsIn k e) (ps ++ qs)
so-far-own k e ps qs h w c = (
  ordered-append ps qs h.ordered w.ordered (all-to (IsPrior k e) (λ p. AllByRecursion (CountsBefore p) qs) ps
      (λ p s. all-to (IsOwn k e) (CountsBefore p) qs (λ q o. prior-counts k e p q s o) w.own) h.prior),
  AllByRecursion-append (IsIn k e) ps qs (both ps h.prior h.from)
      (all-to (IsOwn k e) (IsIn k e) qs
      (λ q o. record {
        from = (let t = o.from in omega (arith, t));
        past = (let t = o.to in omega (arith, t, c));
        to = (let t = o.to in omega (arith, t));
      }) w.own),
)
  where
    bound : (p : Part) → IsPrior k e p → p.stop ≤ e
    bound p s = elim s [ inl t ↦ omega arith | inr t ↦ t.0 ]

    both : (ps : List Part) → AllByRecursion (IsPrior k e) ps → AllByRecursion (λ p. (k ≤ p.start) × (k < p.stop)) ps
        → AllByRecursion (IsIn k e) ps
    both [] s f = tt
    both (p ∷ ps) s f = (record { from = f.0.0; past = f.0.1; to = bound p s.0 }, both ps s.1 f.1)

own-then : (k e j : ℕ) (ps qs : List Part) → AreSoFar k e ps → AreOwn k e qs → k < e → e < j → AreSoFar k j (ps ++ qs)
own-then k e j ps qs h w c d = let r = so-far-own k e ps qs h w c in record {
  ordered = r.0;
  prior = all-to (IsIn k e) (IsPrior k j) (ps ++ qs) (λ p i. inl (let t = i.to in omega (arith, t, d))) r.1;
  from = all-to (IsIn k e) (λ p. (k ≤ p.start) × (k < p.stop)) (ps ++ qs) (λ p i. (i.from, i.past)) r.1;
}

none-so-far : (k e : ℕ) → AreSoFar k e []
none-so-far k e = record { ordered = tt; prior = tt; from = tt }

-- ---- own refusals
own-refused : (k e : ℕ) (f : TextFault) (b : Bool) → AreOwn k e (refused k e f b)
own-refused k e f true = record { ordered = (tt, tt); own = (record { from = refl; to = refl }, tt) }
own-refused k e f false = record { ordered = tt; own = tt }

own-whole : (l : Around) (wanted : Bool) (k e : ℕ) (t : Tm Name) → AreOwn k e (whole_parts l wanted k e t)
own-whole l wanted k e t = go (wanted && not (has_type l t (bool_ty names))) (not (fits l t)) where
  go : (b c : Bool) → AreOwn k e (refused k e BadTypes b ++ refused k e TooDeep c)
  go true true =
      record {
        ordered = ((inr (refl, inr (refl, lit< tt)), tt), (tt, tt));
        own = (record { from = refl; to = refl }, (record { from = refl; to = refl }, tt));
      }
  go true false = own-refused k e BadTypes true
  go false c = own-refused k e TooDeep c

own-fitting : (k e : ℕ) (b : Bool) (ps : List Part) → AreOwn k e ps → AreOwn k e (fitting k e b ps)
own-fitting k e true ps h = h
own-fitting k e false ps h = own-refused k e BadTypes true

own-meant : (k e : ℕ) (o : Result (Tm Name) Refusal) (f : Tm Name → List Part) → ((t : Tm Name) → AreOwn k e (f t))
    → AreOwn k e (meant o f)
own-meant k e (Ok t) f h = h t
own-meant k e (Err r) f h = record { ordered = tt; own = tt }

own-operator : (l : Around) (wanted : Bool) (k e : ℕ) (x y : Tm Name) (o : Option Name)
    → AreOwn k e (elim o [
      | None ↦ refused k e UnknownOperator true
      | Some n ↦
          whole_parts l wanted k e (App (App (Con n relation_ty) x) y)
    ])
own-operator l wanted k e x y None = own-refused k e UnknownOperator true
own-operator l wanted k e x y (Some n) = own-whole l wanted k e (App (App (Con n relation_ty) x) y)

only-own : (k e : ℕ) (ps : List Part) → AreOwn k e ps → k < e → AreIn k e ps
only-own k e ps h c = let r = so-far-own k e [] ps (none-so-far k e) h c in record { ordered = r.0; inside = r.1 }

so-far-weaken : (k e j : ℕ) (ps : List Part) → AreSoFar k e ps → e ≤ j → AreSoFar k j ps
so-far-weaken k e j ps h a =
    record {
      ordered = h.ordered;
      prior = all-to (IsPrior k e) (IsPrior k j) ps
          (λ p s. elim s [ inl t ↦ inl (omega arith) | inr t ↦ inr ((let u = t.0 in omega (arith, u)), t.1) ]) h.prior;
      from = h.from;
    }

-- the first part that is inside
first-in : (k lo hi : ℕ) (ps : List Part) → AreIn lo hi ps → k < lo → lo < hi → AreSoFar k hi ps
first-in k lo hi ps h a b = so-far-in k lo lo hi [] ps (none-so-far k lo) h (omega arith) a b

in-to : (k e j : ℕ) (ps : List Part) → e ≡ j → AreIn k e ps → AreIn k j ps
in-to k e j ps q h = subst (λ z. AreIn k z ps) q h

in-list : (k e : ℕ) (ps qs : List Part) → qs ≡ ps → AreIn k e ps → AreIn k e qs
in-list k e ps qs q h = subst (AreIn k e) (sym q) h

last-own : (k e f : ℕ) (ps qs : List Part) → AreSoFar k e ps → AreOwn k f qs → e ≤ f → k < f → AreIn k f (ps ++ qs)
last-own k e f ps qs h w a b = let r = so-far-own k f ps qs (so-far-weaken k e f ps h a) w b in
    record { ordered = r.0; inside = r.1 }

pub length4 : (a b c d : List ℕ) → length (((a ++ b) ++ c) ++ d) ≡ length a + length b + length c + length d
length4 a b c d = let p = length-append ((a ++ b) ++ c) d in let q = length-append (a ++ b) c in
    let r = length-append a b in omega (arith, p, q, r)

length5 : (a b c d e : List ℕ) → length ((((a ++ b) ++ c) ++ d) ++ e) ≡ length a + length b + length c + length d
    + length e
length5 a b c d e = let p = length-append (((a ++ b) ++ c) ++ d) e in let q = length4 a b c d in omega (arith, p, q)

length6 : (a b c d e f : List ℕ) → length (((((a ++ b) ++ c) ++ d) ++ e) ++ f) ≡ length a + length b + length c
    + length d + length e + length f
length6 a b c d e f = let p = length-append ((((a ++ b) ++ c) ++ d) ++ e) f in let q = length5 a b c d e in
    omega (arith, p, q)

module _ (hidden : List (Symbol Name)) where
  pub some-bytes : (w : Written) → IsWritten w → 0 < length (term_text hidden w)
  some-bytes (Place []) h = cc
  some-bytes (Place (b ∷ x)) h = omega arith
  some-bytes (FreeAs n t) h = omega arith
  some-bytes (ConAs n t) h = omega arith
  some-bytes (Equal a b) h = omega arith
  some-bytes (Infix o a b) h = omega arith
  some-bytes (Applied f a more) h = omega arith
  some-bytes (Binding x t a) h = omega arith

  mutual
    pub parts-in : (l : Around) (wanted : Bool) (k : ℕ) (w : Written) → IsWritten w
        → AreIn k (end_of hidden k w) (parts hidden l wanted k w)
    parts-in l wanted k (Place x) h =
        only-own k (k + length x) _ (place (place_of l x)) (let s = some-bytes (Place x) h in omega (arith, s)) where
          place : (o : Option ℕ)
              → AreOwn k (k + length x)
              (elim o [
                | None ↦ refused k (k + length x) Unbound true
                | Some i ↦ whole_parts l wanted k (k + length x)
                    (Bound i)
              ])
          place None = own-refused k (k + length x) Unbound true
          place (Some i) = own-whole l wanted k (k + length x) (Bound i)
    parts-in l wanted k (FreeAs n t) h =
        only-own k (end_of hidden k (FreeAs n t)) _
        (own-whole l wanted k (end_of hidden k (FreeAs n t)) (Free (record { name = n; ty = t })))
        (let s = some-bytes (FreeAs n t) h in omega (arith, s))
    parts-in l wanted k (ConAs n t) h =
        only-own k (end_of hidden k (ConAs n t)) _ (own-whole l wanted k (end_of hidden k (ConAs n t)) (Con n t))
        (let s = some-bytes (ConAs n t) h in omega (arith, s))
    parts-in l wanted k (Equal a b) h =
        let ka = k + 1 in let kb = k + 4 + length (term_text hidden a) in
        let e = end_of hidden k (Equal a b) in
        let pa = parts hidden l false ka a in let pb = parts hidden l false kb b in
        let own =
        meant (meaning hidden l false ka a)
        (λ x. meant (meaning hidden l false kb b)
        (λ y. fitting k e (are_alike l x y) (whole_parts l wanted k e (equated l x y)))) in
        let len = length4 (term_text hidden a) (codes " = ") (term_text hidden b) (codes ")") in
        let sa = some-bytes a h.0 in let sb = some-bytes b h.1 in
        let s1 = first-in k ka (end_of hidden ka a) pa (parts-in l false ka a h.0) (omega arith)
        (omega (arith, sa)) in
        let s2 = so-far-in k (end_of hidden ka a) kb (end_of hidden kb b) pa pb s1 (parts-in l false kb b h.1)
        (omega arith) (omega arith) (omega (arith, sb)) in
        let w : AreOwn k e own =
        own-meant k e (meaning hidden l false ka a) _
        (λ x. own-meant k e (meaning hidden l false kb b) _
        (λ y. own-fitting k e (are_alike l x y) (whole_parts l wanted k e (equated l x y))
        (own-whole l wanted k e (equated l x y)))) in
        in-list k e ((pa ++ pb) ++ own) (pa ++ (pb ++ own)) (sym (append_assoc pa pb own))
        (last-own k (end_of hidden kb b) e (pa ++ pb) own s2 w (omega (arith, len)) (omega (arith, len)))
    parts-in l wanted k (Infix o a b) h =
        let ka = k + 1 in let kb = k + 3 + length (term_text hidden a) + length o in
        let e = end_of hidden k (Infix o a b) in
        let pa = parts hidden l true ka a in let pb = parts hidden l true kb b in
        let last : Tm Name → Tm Name → List Part =
        λ x y. elim (constant_of hidden o) [
          | None ↦ refused k e UnknownOperator true
          | Some n ↦
              whole_parts l wanted k e (App (App (Con n relation_ty) x) y)
        ] in
        let own = meant (meaning hidden l true ka a) (λ x. meant (meaning hidden l true kb b) (last x)) in
        let len = length6 (term_text hidden a) (codes " ") o (codes " ") (term_text hidden b) (codes ")") in
        let sa = some-bytes a h.1 in let sb = some-bytes b h.2 in
        let s1 = first-in k ka (end_of hidden ka a) pa (parts-in l true ka a h.1) (omega arith) (omega (arith, sa)) in
        let s2 = so-far-in k (end_of hidden ka a) kb (end_of hidden kb b) pa pb s1 (parts-in l true kb b h.2)
        (omega arith) (omega arith) (omega (arith, sb)) in
        let w : AreOwn k e own =
        own-meant k e (meaning hidden l true ka a) _
        (λ x. own-meant k e (meaning hidden l true kb b) _
        (λ y. own-operator l wanted k e x y (constant_of hidden o))) in
        in-list k e ((pa ++ pb) ++ own) (pa ++ (pb ++ own)) (sym (append_assoc pa pb own))
        (last-own k (end_of hidden kb b) e (pa ++ pb) own s2 w (omega (arith, len)) (omega (arith, len)))
    parts-in l wanted k (Applied f a more) h =
        let kf = k + 1 in let ka = k + 2 + length (term_text hidden f) in
        let i = k + 3 + length (term_text hidden f) + length (term_text hidden a) in
        let e = end_of hidden k (Applied f a more) in
        let pf = parts hidden l false kf f in let pa = parts hidden l false ka a in
        let rest = parts_applied hidden l wanted k i (meaning hidden l false kf f) (meaning hidden l false ka a)
        more in
        let len = length5 (term_text hidden f) (codes " ") (term_text hidden a) (terms_text hidden more)
        (codes ")") in
        let sf = some-bytes f h.0 in let sa = some-bytes a h.1 in
        let s1 = first-in k kf (end_of hidden kf f) pf (parts-in l false kf f h.0) (omega arith)
        (omega (arith, sf)) in
        let s2 = so-far-in k (end_of hidden kf f) ka (end_of hidden ka a) pf pa s1 (parts-in l false ka a h.1)
        (omega arith) (omega arith) (omega (arith, sa)) in
        let s3 = so-far-weaken k (end_of hidden ka a) (i - 1) (pf ++ pa) s2 (omega arith) in
        in-list k e ((pf ++ pa) ++ rest) (pf ++ (pa ++ rest)) (sym (append_assoc pf pa rest))
        (applied-in l wanted k i (meaning hidden l false kf f) (meaning hidden l false ka a) more h.2 (pf ++ pa) s3
        (omega arith) e (omega (arith, len)))
    parts-in l wanted k (Binding x t a) h =
        let ka = k + 8 + length x + length (type_text hidden t) in
        let e = end_of hidden k (Binding x t a) in
        let len = length6 x (codes " : ") (type_text hidden t) (codes " . ") (term_text hidden a) (codes ")") in
        let sa = some-bytes a h.2 in
        let s1 = first-in k ka (end_of hidden ka a) _ (parts-in ((x, t) ∷ l) false ka a h.2) (omega arith)
        (omega (arith, sa)) in
        last-own k (end_of hidden ka a) e _ _ s1
        (own-meant k e (meaning hidden ((x, t) ∷ l) false ka a) _ (λ b. own-whole l wanted k e (Abs t b)))
        (omega (arith, len)) (omega (arith, len))

    applied-in : (l : Around) (wanted : Bool) (k i : ℕ) (f x : Result (Tm Name) Refusal) (more : Writtens)
        → AreWritten more → (ps : List Part) → AreSoFar k (i - 1) ps → suc k < i → (e : ℕ)
        → e ≡ i + length (terms_text hidden more) → AreIn k e (ps ++ parts_applied hidden l wanted k i f x more)
    applied-in l wanted k i f x NoMore h ps s c e q =
        in-to k i e _ (omega (arith, q))
        (last-own k (i - 1) i ps _ s
        (own-meant k i f _
        (λ g. own-meant k i x _ (λ y. own-fitting k i (is_typed l (App g y)) (whole_parts l wanted k i (App g y))
        (own-whole l wanted k i (App g y))))) (omega arith) (omega arith))
    applied-in l wanted k i f x (More b bs) h ps s c e q =
        let own =
        meant f (λ g.
        meant x (λ y. fitting k (i - 1) (is_typed l (App g y)) (whole_parts l false k (i - 1) (App g y)))) in
        let pb = parts hidden l false i b in
        let j = i + 1 + length (term_text hidden b) in
        let rest = parts_applied hidden l wanted k j (applied_meaning l k f x) (meaning hidden l false i b) bs in
        let sb = some-bytes b h.0 in
        let w : AreOwn k (i - 1) own =
        own-meant k (i - 1) f _
        (λ g. own-meant k (i - 1) x _
        (λ y. own-fitting k (i - 1) (is_typed l (App g y)) (whole_parts l false k (i - 1) (App g y))
        (own-whole l false k (i - 1) (App g y)))) in
        let s1 = own-then k (i - 1) i ps own s w (omega arith) (omega arith) in
        let s2 = so-far-in k i i (end_of hidden i b) (ps ++ own) pb s1 (parts-in l false i b h.0) (omega arith)
        (omega arith) (omega (arith, sb)) in
        let s3 = so-far-weaken k (end_of hidden i b) (j - 1) ((ps ++ own) ++ pb) s2 (omega arith) in
        let len = length-append (term_text hidden b) (terms_text hidden bs) in
        in-list k e (((ps ++ own) ++ pb) ++ rest) (ps ++ (own ++ (pb ++ rest)))
        (sym (append_assoc ps own (pb ++ rest)) ∙ sym (append_assoc (ps ++ own) pb rest))
        (applied-in l wanted k j (applied_meaning l k f x) (meaning hidden l false i b) bs h.1 ((ps ++ own) ++ pb) s3
        (omega arith) e (omega (arith, q, len)))
