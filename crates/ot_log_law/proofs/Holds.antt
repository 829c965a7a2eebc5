-- What stands in a log that is put together: each theorem that was written, and the assumptions of the axioms among
-- them.
use Rattle.std.specs.Prelude.{slice_get, ◌-◌}
use Rattle.std.proofs.Common.{◌≡◌, ℕ, true, false, Bool, cond, List, [], ◌∷◌, ◌++◌, length, Some, Ok}
use Rattle.std.proofs.Common.{refl, sym, ap, subst, ◌∙◌, inl, inr, arith, length-append, append_assoc}
use Rattle.std.specs.Bool.{Decides}
use Rattle.ot_logic.specs.Lists.{IsMember}
use Rattle.ot_logic.specs.Names.{Name}
use Rattle.ot_logic.specs.Naming.{names}
use Rattle.ot_logic.specs.Trees.{Sequent}
use Rattle.ot_logic.specs.Hol.{same_sequent}
use Rattle.ot_logic.specs.declared.command.Cmd.{Cmd}
use Rattle.ot_logic.specs.declared.command.Cmd.TheVariants as words
use Rattle.ot_laws.proofs.Tests.{tells_names}
use Rattle.ot_trace.specs.Origins.{Origin, Origins, Make, NoOrigins, MoreOrigins}
use Rattle.ot_log_format.specs.State.{LogState}
use Rattle.ot_written.specs.Same.{same_origin}
use Rattle.ot_written.proofs.Same.{same-origin-law}
use Rattle.ot_machine.specs.Objects.{theorem}
use Rattle.ot_machine.specs.Makers.{Read}
use Rattle.ot_machine.specs.Values.{value}
use Rattle.ot_machine.specs.Lawful.{IsAxiom, AreApart}
use Rattle.ot_machine.specs.Writable.{IsWritable}
use Rattle.ot_log_records.specs.Entries.{Entry}
use Rattle.ot_log_records.specs.Logged.{write_sequents}
use Rattle.ot_log_records.specs.Same.{IsSame}
use Rattle.ot_log_records.proofs.Standing.{Stands}
use Rattle.ot_log_records.proofs.Several.{last-at}
use Rattle.ot_log_law.specs.Writing.{Written, number_of, mark}
use Rattle.ot_log_law.proofs.Told.{IsTold, sequents-told}
use Rattle.ot_log_law.proofs.Texts.{is-same, same-back, same-then, once-member, member-once, once-has, once-apart}
use Rattle.ot_log_law.proofs.Makes.{Makes}
use Rattle.ot_logic.proofs.Members.{IsMember-cases, IsMember-left, IsMember-right}
use Rattle.ot_logic.proofs.TableLemmas.{slice_get-append_left}

abbrev pub is_one : Origin Name → Origin Name → Bool
is_one = same_origin names.same

pub one-is : (a b : Origin Name) → Decides (is_one a b) (a ≡ b)
one-is = same-origin-law names.same tells_names

-- ---- numbers of origins

pub number-member : (o : Origin Name) (k : ℕ) (ps : List (Origin Name × ℕ)) → number_of o ps ≡ Some k
    → IsMember (o, k) ps
number-member o k [] e = absurd (cc)
number-member o k (p ∷ ps) e = by (is_one o p.0) refl e (number-member o k ps)
  where
    by : (b : Bool) → is_one o p.0 ≡ b → cond b (Some p.1) (number_of o ps) ≡ Some k
        → (number_of o ps ≡ Some k → IsMember (o, k) ps) → IsMember (o, k) (p ∷ ps)
    by true f g later = let s : o ≡ p.0 = (one-is o p.0).0 f in let n : p.1 ≡ k = cc in inl (λ i. (sym s i, n i))
    by false f g later = inr (later g)

pub member-number : (o : Origin Name) (k : ℕ) (ps : List (Origin Name × ℕ)) → IsMember (o, k) ps
    → (j : ℕ) × (number_of o ps ≡ Some j)
member-number o k [] m = absurd m
member-number o k (p ∷ ps) m = by (is_one o p.0) refl m (member-number o k ps)
  where
    by : (b : Bool) → is_one o p.0 ≡ b → IsMember (o, k) (p ∷ ps)
        → (IsMember (o, k) ps → (j : ℕ) × (number_of o ps ≡ Some j))
        → (j : ℕ) × (cond b (Some p.1) (number_of o ps) ≡ Some j)
    by true f i later = (p.1, refl)
    by false f (inl e) later = absurd (let g = (one-is o p.0).1 (ap (λ (z : Origin Name × ℕ). z.0) (sym e)) in cc)
    by false f (inr i) later = later i

-- ---- what was written

-- the origin's theorem was written
abbrev pub Has : Written → Origin Name → Type 0
Has x o = (k : ℕ) × IsMember (o, k) x.theorems

-- where its value is a theorem
abbrev pub HasTheorem : Written → Origin Name → Type 0
HasTheorem x o = (q : Sequent Name) → value o ≡ Ok (theorem q) → Has x o

abbrev pub HasAll : Written → Origins Name → Type 0
HasAll x NoOrigins = Unit {0}
HasAll x (MoreOrigins o os) = HasTheorem x o × HasAll x os

-- all of the one is in the other
abbrev pub Keeps : Written → Written → Type 0
Keeps x y = (p : Origin Name × ℕ) → IsMember p x.theorems → IsMember p y.theorems

pub theorem-kept : (x y : Written) (o : Origin Name) → Keeps x y → HasTheorem x o → HasTheorem y o
theorem-kept x y o k h q e = let r = h q e in (r.0, k (o, r.0) r.1)

pub all-kept : (x y : Written) (os : Origins Name) → Keeps x y → HasAll x os → HasAll y os
all-kept x y NoOrigins k h = tt
all-kept x y (MoreOrigins o os) k h = (theorem-kept x y o k h.0, all-kept x y os k h.1)

-- ---- the invariant

-- the log's sequent of this number is the value of the origin
pub record IsProvedAt (st : LogState Name) (o : Origin Name) (k : ℕ) : Type 0 where
  pub of : Sequent Name
  pub at : Sequent Name
  pub value_is : value o ≡ Ok (theorem of)
  pub there : slice_get st.sequents k ≡ Some at
  pub same : IsSame names of at

-- an axiom that was written, whose sequent is r
pub record IsOfAxiom (x : Written) (r : Sequent Name) : Type 0 where
  pub origin : Origin Name
  pub number : ℕ
  pub of : Sequent Name
  pub there : IsMember (origin, number) x.theorems
  pub is_axiom : IsAxiom origin
  pub value_is : value origin ≡ Ok (theorem of)
  pub same : same_sequent names r of ≡ true

abbrev pub IsAssumed : LogState Name → Sequent Name → Type 0
IsAssumed st q = (r : Sequent Name) × IsMember r st.assumptions × (same_sequent names r q ≡ true)

pub record Holds (x : Written) (st : LogState Name) : Type 0 where
  pub stands : Stands x.log st
  pub told : IsTold IsWritable x.log
  pub proved : (o : Origin Name) (k : ℕ) → IsMember (o, k) x.theorems → IsProvedAt st o k
  pub only : (r : Sequent Name) → IsMember r st.assumptions → IsOfAxiom x r
  pub all : (o : Origin Name) (k : ℕ) (q : Sequent Name) → IsMember (o, k) x.theorems → IsAxiom o
      → value o ≡ Ok (theorem q)
      → IsAssumed st q
  pub apart : AreApart (λ (q : Sequent Name). q) st.assumptions
  pub closed : (w : Cmd) (os : Origins Name) (k : ℕ) → IsMember (Make w os, k) x.theorems → HasAll x os

-- ---- a theorem more

-- the records es of the theorem o are written
abbrev pub put_as : Origin Name → List Entry → Written → Written
put_as o es x = let log = write_sequents es x.log in mark o (log.sequents - 1) (record x { log = log })

last-place : {X : Type 0} (xs ys : List X) (x : X)
    → slice_get (xs ++ (ys ++ x ∷ [])) (length (xs ++ (ys ++ x ∷ [])) - 1) ≡ Some x
last-place xs ys x =
    let whole = append_assoc xs ys (x ∷ []) in
    let zs = xs ++ ys in
    let long : length (zs ++ x ∷ []) - 1 ≡ length zs = let l = length-append zs (x ∷ []) in omega (arith, l) in
    subst (λ l. slice_get l (length l - 1) ≡ Some x) whole
    (ap (slice_get (zs ++ x ∷ [])) long ∙ last-at zs x (length zs) refl)

-- the log holds, and all that was written was kept
pub record Goes (x y : Written) (st : LogState Name) : Type 0 where
  pub now : LogState Name
  pub holds : Holds y now
  pub definitions : now.definitions ≡ st.definitions
  pub results : now.results ≡ st.results
  pub kept : Keeps x y

pub goes-none : (x : Written) (st : LogState Name) → Holds x st → Goes x x st
goes-none x st h = record { now = st; holds = h; definitions = refl; results = refl; kept = λ p m. m }

module _ (w : Cmd) (os : Origins Name) (x : Written) (st : LogState Name) (es : List Entry) (q : Sequent Name)
    (h : Holds x st) (has : HasAll x os) (v : value (Make w os) ≡ Ok (theorem q)) (m : Makes w x.log st es q) where
  abbrev new : Written
  new = put_as (Make w os) es x

  abbrev n : ℕ
  n = (write_sequents es x.log).sequents - 1

  there-new : slice_get m.now.sequents n ≡ Some m.last
  there-new =
      subst (λ l. slice_get l n ≡ Some m.last) (sym m.sequents)
      (subst (λ k. slice_get (st.sequents ++ (m.front ++ m.last ∷ [])) (k - 1) ≡ Some m.last)
      (sym (ap length m.sequents) ∙ m.stands.sequents) (last-place st.sequents m.front m.last))

  proved-new : (o : Origin Name) (k : ℕ) → IsMember (o, k) new.theorems → IsProvedAt m.now o k
  proved-new o k i = elim (IsMember-cases (o, k) x.theorems ((Make w os, n) ∷ []) i) [
    | inl j ↦
        (let a = h.proved o k j in
        record {
          of = a.of;
          at = a.at;
          value_is = a.value_is;
          there = ap (λ l. slice_get l k) m.sequents
              ∙ slice_get-append_left st.sequents (m.front ++ m.last ∷ []) k a.at a.there;
          same = a.same;
        })
    | inr j ↦ elim j [
      | inl e ↦
          (let eo : Make w os ≡ o = ap (λ (z : Origin Name × ℕ). z.0) e in
          let ek : n ≡ k = ap (λ (z : Origin Name × ℕ). z.1) e in
          record {
            of = q;
            at = m.last;
            value_is = subst (λ z. value z ≡ Ok (theorem q)) eo v;
            there = subst (λ z. slice_get m.now.sequents z ≡ Some m.last) ek there-new;
            same = m.same;
          })
      | inr z ↦ absurd z
    ]
  ]

  of-old : (r : Sequent Name) → IsOfAxiom x r → IsOfAxiom new r
  of-old r a = record {
    origin = a.origin;
    number = a.number;
    of = a.of;
    there = IsMember-left (a.origin, a.number) x.theorems ((Make w os, n) ∷ []) a.there;
    is_axiom = a.is_axiom;
    value_is = a.value_is;
    same = a.same;
  }

  last-same : same_sequent names m.last q ≡ true
  last-same = same-back q m.last (is-same q m.last m.same)

  only-new : (r : Sequent Name) → IsMember r m.now.assumptions → IsOfAxiom new r
  only-new r i = elim m.assumptions [
    | inl a ↦ of-old r (h.only r (subst (IsMember r) a.1 i))
    | inr a ↦ elim (once-member st.assumptions m.last r (subst (IsMember r) a.1 i)) [
      | inl j ↦ of-old r (h.only r j)
      | inr e ↦ record {
        origin = Make w os;
        number = n;
        of = q;
        there = IsMember-right (Make w os, n) x.theorems ((Make w os, n) ∷ []) (inl refl);
        is_axiom = (os, ap (λ z. Make z os) a.0);
        value_is = v;
        same = subst (λ z. same_sequent names z q ≡ true) (sym e) last-same;
      }
    ]
  ]

  assumed-old : (p : Sequent Name) → IsAssumed st p → IsAssumed m.now p
  assumed-old p a = elim m.assumptions [
    | inl b ↦ (a.0, subst (IsMember a.0) (sym b.1) a.1, a.2)
    | inr b ↦ (a.0, subst (IsMember a.0) (sym b.1) (member-once st.assumptions m.last a.0 a.1), a.2)
  ]

  all-new : (o : Origin Name) (k : ℕ) (p : Sequent Name) → IsMember (o, k) new.theorems → IsAxiom o
      → value o ≡ Ok (theorem p)
      → IsAssumed m.now p
  all-new o k p i a e = elim (IsMember-cases (o, k) x.theorems ((Make w os, n) ∷ []) i) [
    | inl j ↦ assumed-old p (h.all o k p j a e)
    | inr j ↦ elim j [
      | inl f ↦ own (ap (λ (z : Origin Name × ℕ). z.0) f)
      | inr z ↦ absurd z
    ]
  ]
    where
      one : (r : Read) → r ≡ Ok (theorem q) → r ≡ Ok (theorem p) → q ≡ p
      one r f g = cc

      own : Make w os ≡ o → IsAssumed m.now p
      own f =
          let same : q ≡ p = one (value o) (subst (λ z. value z ≡ Ok (theorem q)) f v) e in
          elim m.assumptions [
            | inl b ↦ absurd (b.0 (word (sym a.1 ∙ sym f)))
            | inr b ↦
                (let r = once-has st.assumptions m.last in (
                  r.0,
                  subst (IsMember r.0) (sym b.1) r.1,
                  subst (λ z. same_sequent names r.0 z ≡ true) same (same-then r.0 m.last q r.2 last-same),
                ))
          ]
        where
          word : Make words.Axiom a.0 ≡ Make w os → w ≡ words.Axiom
          word g = cc

  keeps : Keeps x new
  keeps p i = IsMember-left p x.theorems ((Make w os, n) ∷ []) i

  closed-new : (c : Cmd) (ps : Origins Name) (k : ℕ) → IsMember (Make c ps, k) new.theorems → HasAll new ps
  closed-new c ps k i = elim (IsMember-cases (Make c ps, k) x.theorems ((Make w os, n) ∷ []) i) [
    | inl j ↦ all-kept x new ps keeps (h.closed c ps k j)
    | inr j ↦ elim j [
      | inl e ↦
          (let same : os ≡ ps =
          operands-are (ap (λ (z : Origin Name × ℕ). z.0) e) in
          subst (HasAll new) same (all-kept x new os keeps has))
      | inr z ↦ absurd z
    ]
  ]
    where
      operands-are : Make w os ≡ Make c ps → os ≡ ps
      operands-are e = cc

  pub put-goes : Goes x new st
  put-goes = record {
    now = m.now;
    holds = record {
      stands = m.stands;
      told = sequents-told IsWritable es x.log h.told m.told;
      proved = proved-new;
      only = only-new;
      all = all-new;
      apart = elim m.assumptions [
        | inl a ↦ subst (AreApart (λ (z : Sequent Name). z)) (sym a.1) h.apart
        | inr a ↦ subst (AreApart (λ (z : Sequent Name). z)) (sym a.1) (once-apart st.assumptions m.last h.apart)
      ];
      closed = closed-new;
    };
    definitions = m.definitions;
    results = m.results;
    kept = keeps;
  }
