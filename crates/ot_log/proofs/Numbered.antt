-- What has a number keeps it, and what is written has one.
use Rattle.std.specs.Prelude.{◌-◌}
use Rattle.std.specs.List.{All}
use Rattle.std.proofs.Common.{◌≡◌, ℕ, zero, suc, ◌+◌, ◌<◌, inl, inr, Bool, true, false, cond}
use Rattle.std.proofs.Common.{List, [], ◌∷◌, ◌++◌, map, take, length, slice_get, get_or, Option, Some, None}
use Rattle.std.proofs.Common.{refl, sym, ap, subst, ◌∙◌, arith, append-nil, append_assoc}
use Rattle.std.proofs.lemmas.List.{map_push}
use Rattle.std.proofs.lemmas.List.Elements.{All-head, All-tail}
use Rattle.ot_logic.specs.Lists.{IsMember}
use Rattle.ot_logic.specs.Names.{Name}
use Rattle.ot_logic.specs.declared.command.Cmd.{Cmd}
use Rattle.ot_logic.specs.declared.command.Cmd.TheVariants as words
use Rattle.ot_logic.proofs.Members.{IsMember-cases}
use Rattle.ot_trace.specs.Origins.{Origin, Origins, Number, Named, Make, Define, Outcome, NoOrigins, MoreOrigins}
use Rattle.ot_written.specs.Written.{theorem_count}
use Rattle.ot_written.proofs.Settled.{EachOutcome, EachOutcomes, IsTheoremOf}
use Rattle.ot_machine.specs.Objects.{theorem}
use Rattle.ot_machine.specs.States.{Made}
use Rattle.ot_machine.specs.Meaning.{origin_of}
use Rattle.ot_machine.specs.Values.{values}
use Rattle.ot_machine.specs.declared.session.Session.{Session}
use Rattle.ot_article.specs.Article.{origins_made}
use Rattle.ot_article.proofs.Writable.{AreWritable}
use Rattle.ot_log_records.specs.Logged.{write_sequents}
use Rattle.ot_log_law.specs.Derived.{makes_theorem, read, theorem_entries}
use Rattle.ot_log_law.specs.Writing.{Written, number_of, numbers_of, mark, once, put_theorem, write, write_all}
use Rattle.ot_log_law.specs.Writing.{outcomes, add_outcomes, put_definition, write_definition, write_definitions}
use Rattle.ot_log_law.specs.Writing.{put_result, write_results}
use Rattle.ot_log_law.proofs.Wrote.{no-theorem}
use Rattle.ot_log_values.specs.Steps.{origins_of}
use Rattle.ot_log.specs.Keeping.{Holds, number_in, number_at}
use Rattle.ot_log.specs.Ready.{AreThere, CanDefine, CanResult, HasNumber, HasOutcomes, HasPlace, HasPremises}
use Rattle.ot_log.specs.Ready.{HaveOutcomes, HavePlaces, IsThere}
use Rattle.ot_log.specs.declared.writer.Place.{Place}
use Rattle.ot_log.specs.declared.writer.Writer.{Writer}
use Rattle.ot_log.proofs.Placed.{or_this, number-here, number-stays}

-- what has a number in the one has one in the other
abbrev pub Keeps : Written → Written → Type 0
Keeps x y = (o : Origin Name) → HasNumber x o → HasNumber y o

mark-keeps : (o : Origin Name) (n : ℕ) (x : Written) → Keeps x (mark o n x)
mark-keeps o n x p h = (h.0, number-stays p o n h.0 x.theorems h.1)

mark-has : (o : Origin Name) (n : ℕ) (x : Written) → HasNumber (mark o n x) o
mark-has o n x = (or_this (number_of o x.theorems) n, number-here o n x.theorems)

pub there-kept : (x y : Written) → Keeps x y → (o : Origin Name) → IsThere x o → IsThere y o
there-kept x y k o h q e = k o (h q e)

mutual
  pub outcomes-kept : (x y : Written) → Keeps x y → (o : Origin Name) → HasOutcomes x o → HasOutcomes y o
  outcomes-kept x y k (Number n) h = tt
  outcomes-kept x y k (Named n) h = tt
  outcomes-kept x y k (Make w os) h = all-outcomes-kept x y k os h
  outcomes-kept x y k (Define w os) h = tt
  outcomes-kept x y k (Outcome j d) h = k (Outcome j d) h

  pub all-outcomes-kept : (x y : Written) → Keeps x y → (os : Origins Name) → HaveOutcomes x os → HaveOutcomes y os
  all-outcomes-kept x y k NoOrigins h = tt
  all-outcomes-kept x y k (MoreOrigins o os) h = (outcomes-kept x y k o h.0, all-outcomes-kept x y k os h.1)

-- ---- a theorem

module _ (w : Cmd) (os : Origins Name) (x : Written) where
  abbrev logged : Written
  logged = record x {
    log = write_sequents
        (read (λ vs. theorem_entries x.log.sequents w vs (numbers_of os x.theorems)) (values os)) x.log;
  }

  put-keeps : Keeps x (put_theorem w os x)
  put-keeps p h = mark-keeps (Make w os) (logged.log.sequents - 1) logged p h

  put-has : HasNumber (put_theorem w os x) (Make w os)
  put-has = mark-has (Make w os) (logged.log.sequents - 1) logged

make-keeps : (w : Cmd) (os : Origins Name) (x : Written) (p : Origin Name) → HasNumber x p
    → HasNumber (write_all os x) p
    → HasNumber (write (Make w os) x) p
make-keeps w os x p h k = by (makes_theorem w) (number_of (Make w os) x.theorems)
  where
    by : (t : Bool) (n : Option ℕ)
        → HasNumber (cond t (once n (λ y. put_theorem w os (write_all os y)) x) x) p
    by false n = h
    by true (Some i) = h
    by true None = put-keeps w os (write_all os x) p k

mutual
  pub write-keeps : (o : Origin Name) (x : Written) → Keeps x (write o x)
  write-keeps (Number k) x p h = h
  write-keeps (Named n) x p h = h
  write-keeps (Make w os) x p h = make-keeps w os x p h (write_all-keeps os x p h)
  write-keeps (Define w os) x p h = h
  write-keeps (Outcome j d) x p h = h

  pub write_all-keeps : (os : Origins Name) (x : Written) → Keeps x (write_all os x)
  write_all-keeps NoOrigins x p h = h
  write_all-keeps (MoreOrigins o os) x p h = write_all-keeps os (write o x) p (write-keeps o x p h)

make-there : (w : Cmd) (os : Origins Name) (x : Written) → IsThere (write (Make w os) x) (Make w os)
make-there w os x q e = by (makes_theorem w) refl (number_of (Make w os) x.theorems) refl
  where
    by : (t : Bool) → makes_theorem w ≡ t → (n : Option ℕ) → number_of (Make w os) x.theorems ≡ n
        → HasNumber (cond t (once n (λ y. put_theorem w os (write_all os y)) x) x) (Make w os)
    by false m n r = absurd (no-theorem w os q m e)
    by true m (Some k) r = (k, r)
    by true m None r = put-has w os (write_all os x)

pub write-there : (o : Origin Name) (x : Written) → HasOutcomes x o → IsThere (write o x) o
write-there (Number k) x h q e = absurd (cc)
write-there (Named n) x h q e = absurd (cc)
write-there (Make w os) x h q e = make-there w os x q e
write-there (Define w os) x h q e = absurd (cc)
write-there (Outcome j d) x h q e = h

pub write_all-there : (os : Origins Name) (x : Written) → HaveOutcomes x os → AreThere (write_all os x) os
write_all-there NoOrigins x h = tt
write_all-there (MoreOrigins o os) x h =
    let y = write o x in (
      there-kept y (write_all os y) (write_all-keeps os y) o (write-there o x h.0),
      write_all-there os y (all-outcomes-kept x y (write-keeps o x) os h.1),
    )

-- ---- definitions

add-keeps : (os : List (Origin Name)) (x : Written) → Keeps x (add_outcomes os x)
add-keeps [] x p h = h
add-keeps (o ∷ os) x p h =
    let y : Written = record x { log = record x.log { sequents = suc x.log.sequents } } in
    add-keeps os (mark o x.log.sequents y) p (mark-keeps o x.log.sequents y p h)

add-has : (os : List (Origin Name)) (x : Written) (o : Origin Name) → IsMember o os → HasNumber (add_outcomes os x) o
add-has [] x o m = absurd m
add-has (p ∷ os) x o (inl e) =
    let y : Written = record x { log = record x.log { sequents = suc x.log.sequents } } in
    let z = mark p x.log.sequents y in
    add-keeps os z o (subst (HasNumber z) e (mark-has p x.log.sequents y))
add-has (p ∷ os) x o (inr m) =
    add-has os (mark p x.log.sequents (record x { log = record x.log { sequents = suc x.log.sequents } })) o m

outcome-member : (w : Cmd) (d : Origin Name) (j : ℕ) → j < theorem_count w
    → IsMember (Outcome (suc j) d) (outcomes w d)
outcome-member words.DefineTypeOp d zero l = inl refl
outcome-member words.DefineTypeOp d (suc zero) l = inr (inl refl)
outcome-member words.DefineTypeOp d (suc (suc j)) l = absurd (omega arith)
outcome-member _ d zero l = inl refl
outcome-member _ d (suc j) l = absurd (omega arith)

define-keeps : (w : Cmd) (os : Origins Name) (x : Written) → Keeps x (write_definition (Define w os) x)
define-keeps w os x p h = add-keeps (outcomes w (Define w os)) (put_definition w os (write_all os x)) p
    (write_all-keeps os x p h)

-- the theorems of these definitions have numbers
abbrev pub HaveTheorems : (Origin Name → Bool) → List (Origin Name) → Written → Type 0
HaveTheorems used ds x = (o : Origin Name) → IsTheoremOf used ds o → HasNumber x o

module _ (used : Origin Name → Bool) where
  mutual
    settled-has : (ds : List (Origin Name)) (x : Written) → HaveTheorems used ds x → (o : Origin Name)
        → EachOutcome (IsTheoremOf used ds) o → HasOutcomes x o
    settled-has ds x f (Number k) h = tt
    settled-has ds x f (Named n) h = tt
    settled-has ds x f (Make w os) h = settled-have ds x f os h
    settled-has ds x f (Define w os) h = tt
    settled-has ds x f (Outcome j d) h = f (Outcome j d) h

    settled-have : (ds : List (Origin Name)) (x : Written) → HaveTheorems used ds x → (os : Origins Name)
        → EachOutcomes (IsTheoremOf used ds) os → HaveOutcomes x os
    settled-have ds x f NoOrigins h = tt
    settled-have ds x f (MoreOrigins o os) h = (settled-has ds x f o h.0, settled-have ds x f os h.1)

  define-has : (x : Written) (earlier : List Made) (m : Made) (w : Cmd) (os : Origins Name) → m.origin ≡ Define w os
      → HaveTheorems used (origins_made earlier) x
      → HaveTheorems used (origins_made (earlier ++ m ∷ [])) (write_definition (Define w os) x)
  define-has x earlier m w os is has o t =
      elim (IsMember-cases (Define t.word t.operands) (origins_made earlier) (m.origin ∷ [])
      (subst (IsMember (Define t.word t.operands)) (map_push (λ (z : Made). z.origin) earlier m) t.of)) [
        | inl j ↦ define-keeps w os x o (has o (record {
          place = t.place;
          word = t.word;
          operands = t.operands;
          is = t.is;
          of = j;
          within = t.within;
          has_use = t.has_use;
        }))
        | inr j ↦ elim j [
          | inl e ↦ (let same : Define t.word t.operands ≡ Define w os = sym e ∙ is in
              let word : t.word ≡ w = cc in
              let o_is : o ≡ Outcome (suc t.place) (Define w os) = t.is ∙ ap (Outcome (suc t.place)) same in
              subst (HasNumber (write_definition (Define w os) x)) (sym o_is)
              (add-has (outcomes w (Define w os)) (put_definition w os (write_all os x))
              (Outcome (suc t.place) (Define w os))
              (outcome-member w (Define w os) t.place (subst (λ v. t.place < theorem_count v) word t.within))))
          | inr n ↦ absurd n
        ]
      ]

  pub can-define : (ms earlier : List Made) (x : Written) → AreWritable used earlier ms
      → HaveTheorems used (origins_made earlier) x
      → CanDefine (origins_made ms) x
      × HaveTheorems used (origins_made (earlier ++ ms)) (write_definitions (origins_made ms) x)
  can-define [] earlier x w h =
      (tt, subst (λ l. HaveTheorems used (origins_made l) x) (sym (append-nil earlier)) h)
  can-define (m ∷ ms) earlier x w h =
      let f = w.0 in
      let y = write_definition m.origin x in
      let more : HaveTheorems used (origins_made (earlier ++ m ∷ [])) y =
      subst (λ z. HaveTheorems used (origins_made (earlier ++ m ∷ [])) (write_definition z x)) (sym f.is)
      (define-has x earlier m f.word f.operands f.is h) in
      let rest = can-define ms (earlier ++ m ∷ []) y w.1 more in (
        (
          subst (HasPremises x) (sym f.is) (settled-have (origins_made earlier) x h f.operands f.settled),
          rest.0,
        ),
        subst (λ l. HaveTheorems used (origins_made l) (write_definitions (origins_made ms) y))
            (append_assoc earlier (m ∷ []) ms) rest.1,
      )

  pub can-result : (ds os : List (Origin Name)) (x : Written)
      → ((o : Origin Name) → IsMember o os → EachOutcome (IsTheoremOf used ds) o)
      → HaveTheorems used ds x → CanResult os x
  can-result ds [] x f h = tt
  can-result ds (o ∷ os) x f h = (
    settled-has ds x h o (f o (inl refl)),
    can-result ds os (put_result o (write o x)) (λ p m. f p (inr m)) (λ p t. write-keeps o x p (h p t)),
  )

-- ---- one of them

pub define-ready : (f : ℕ → Origin Name) (is : List ℕ) (x : Written) → CanDefine (map f is) x → (n i : ℕ)
    → i ≡ get_or is n i → n < length is → HasPremises (write_definitions (map f (take n is)) x) (f i)
define-ready f [] x h n i e l = absurd (omega arith)
define-ready f (j ∷ is) x h zero i e l = subst (λ k. HasPremises x (f k)) (sym e) h.0
define-ready f (j ∷ is) x h (suc n) i e l = define-ready f is (write_definition (f j) x) h.1 n i e (omega arith)

pub result-ready : {X : Type 0} (f : X → Origin Name) (es : List X) (x : Written) → CanResult (map f es) x → (n : ℕ)
    (e : X) → e ≡ get_or es n e → n < length es → HasOutcomes (write_results (map f (take n es)) x) (f e)
result-ready f [] x h n e i l = absurd (omega arith)
result-ready f (d ∷ es) x h zero e i l = subst (λ k. HasOutcomes x (f k)) (sym i) h.0
result-ready f (d ∷ es) x h (suc n) e i l =
    result-ready f es (put_result (f d) (write (f d) x)) h.1 n e i (omega arith)

-- ---- places

pub place-of : (ps : List (Option Place)) (i k : ℕ) → number_at ps i ≡ Some k → HasPlace ps i
place-of ps i k e = by (slice_get ps i) refl e
  where
    by : (r : Option (Option Place)) → slice_get ps i ≡ r → number_in r ≡ Some k → HasPlace ps i
    by None at n = absurd (cc)
    by (Some None) at n = absurd (cc)
    by (Some (Some p)) at n = (p, at)

module _ (s : Session) (max : ℕ) (w : Writer) (x : Written) (h : Holds s max w x) where
  pub has-place : (i : ℕ) → i < length s.trace → HasNumber x (origin_of s i) → HasPlace w.places.items i
  has-place i l n = place-of w.places.items i n.0 (sym (h.numbers i l) ∙ n.1)

  pub have-places : (is : List ℕ) → All (λ i. i < length s.trace) is → AreThere x (origins_of s is)
      → HavePlaces s w.places.items is
  have-places [] l n = tt
  have-places (i ∷ is) l n = (
    λ q e. has-place i (All-head (λ i. i < length s.trace) i is l) (n.0 q e),
    have-places is (All-tail (λ i. i < length s.trace) i is l) n.1,
  )
