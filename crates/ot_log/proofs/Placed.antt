-- The places of theorems, in tables that grow.
use Rattle.std.specs.Prelude.{pos}
use Rattle.std.specs.Bool.{Decides}
use Rattle.std.specs.List.{All}
use Rattle.std.proofs.Common.{◌≡◌, ◌≢◌, ℕ, zero, suc, ◌+◌, ◌<◌, ◌⊎◌, inl, inr}
use Rattle.std.proofs.Common.{Bool, true, false, cond, List, [], ◌∷◌, ◌++◌}
use Rattle.std.proofs.Common.{length, set, replicate, slice_get, get_or, Option}
use Rattle.std.proofs.Common.{None, Some, refl, sym, ap, subst, ◌∙◌, arith}
use Rattle.std.proofs.lemmas.List.{length-set}
use Rattle.std.proofs.lemmas.List.Elements.{All-weaker, All-push}
use Rattle.std.proofs.lemmas.Bool.{cases_eq}
use Rattle.ot_logic.specs.Names.{Name, same_name-Decides}
use Rattle.ot_logic.specs.Naming.{names, name_of}
use Rattle.ot_logic.specs.Table.{Extends}
use Rattle.ot_logic.specs.Trees.{Sequent}
use Rattle.ot_logic.proofs.Naming.{name_of-injective}
use Rattle.ot_logic.proofs.TableLemmas.{slice_get-append_left}
use Rattle.ot_kernel.specs.State.{name_at}
use Rattle.ot_kernel.proofs.Namings.{name_of-index}
use Rattle.ot_log_nodes.specs.Items.{Item}
use Rattle.ot_log_nodes.specs.Typing.{AreTypings}
use Rattle.ot_log_rules.specs.Statements.{sequent_at, HasStatement}
use Rattle.ot_log_rules.specs.declared.statement.Statement.{Statement}
use Rattle.ot_log_rules.proofs.Staying.{sequent-stays, still-statement}
use Rattle.ot_trace.specs.Origins.{Origin, Number, map_origin}
use Rattle.ot_trace.specs.Trace.{IsStepTable, origin_at}
use Rattle.ot_written.specs.Same.{same_origin}
use Rattle.ot_written.proofs.Same.{same-origin-law}
use Rattle.ot_written.proofs.Renaming.{origin-injective}
use Rattle.ot_written.proofs.Filters.{bool_cases}
use Rattle.ot_machine.specs.Objects.{Object, theorem}
use Rattle.ot_machine.specs.Values.{value}
use Rattle.ot_machine.specs.Meaning.{origin_of}
use Rattle.ot_machine.specs.declared.session.Session.{Session}
use Rattle.ot_machine.proofs.Kept.{origin-agree}
use Rattle.ot_log_law.specs.Writing.{Written, number_of, mark}
use Rattle.ot_log_page.specs.Sheets.{Shows}
use Rattle.ot_log_values.specs.Steps.{Makes}
use Rattle.ot_log_values.specs.Known.{AreKnown}
use Rattle.ot_log_words.specs.Recording.{HasResult}
use Rattle.ot_log_words.specs.declared.words.Made.{Made}
use Rattle.ot_log.specs.Keeping.{IsNumbered, IsPlaced, IsWriter, Holds, Marks, number_in, number_at, first_place}
use Rattle.ot_log.specs.declared.writer.Place.{Place}
use Rattle.ot_log.specs.declared.writer.Writer.{Writer}
use Rattle.ot_logic.proofs.Elements.{All-slice_get, slice_get-set_other, slice_get-set_same}

pub get-here : {X : Type 0} (xs : List X) (i : ℕ) (x y : X) → x ≡ get_or xs i x → slice_get xs i ≡ Some y → x ≡ y
get-here [] i x y p e = absurd (cc)
get-here (z ∷ xs) zero x y p e = let q : z ≡ y = cc in p ∙ q
get-here (z ∷ xs) (suc i) x y p e = get-here xs i x y p e

pub origin-here : (ts : List (Origin ℕ)) (i : ℕ) → i < length ts → slice_get ts i ≡ Some (origin_at ts i)
origin-here [] i h = absurd (omega arith)
origin-here (t ∷ ts) zero h = refl
origin-here (t ∷ ts) (suc i) h = origin-here ts i (omega arith)

once-at : (ts : List (Origin ℕ)) → IsStepTable ts → (i j : ℕ) → i < length ts → j < length ts
    → origin_at ts i ≡ origin_at ts j
    → i ≡ j
once-at ts table i j h k e =
    table.injective.same i j (origin_at ts i) (origin-here ts i h) (origin-here ts j k ∙ ap Some (sym e))

get-last : {X : Type 0} (xs : List X) (x : X) → slice_get (xs ++ x ∷ []) (length xs) ≡ Some x
get-last [] x = refl
get-last (y ∷ xs) x = get-last xs x

long-push : {X : Type 0} (xs : List X) (x : X) → length xs < length (xs ++ x ∷ [])
long-push [] x = omega arith
long-push (y ∷ xs) x = let h = long-push xs x in omega arith

long-more : {X : Type 0} (xs : List X) (x : X) (i : ℕ) → i < length xs → i < length (xs ++ x ∷ [])
long-more xs x i h = let l = long-push xs x in omega arith

-- ---- a writer whose table of nodes grew

placed-grown : (s : Session) (ts us : List Item) (qs : List Statement) (i : ℕ) (p : Place) → Extends ts us
    → All (HasStatement ts) qs → IsPlaced s ts qs i p → IsPlaced s us qs i p
placed-grown s ts us qs i p e all h = record {
  within = h.within;
  statement = h.statement;
  at = h.at;
  makes = record {
    is = λ v k. h.makes.is v k
        ∙ ap theorem
        (sym (sequent-stays ts us e h.statement (All-slice_get (HasStatement ts) qs p.at h.statement all h.at)));
  };
}

pub writer-grown : (s : Session) (old new : Writer) → IsWriter s old → Extends old.nodes new.nodes
    → AreKnown s new.nodes new.values → AreTypings new.nodes new.typings.known.entries
    → new.statements.items ≡ old.statements.items → new.places.items ≡ old.places.items
    → IsWriter s new
writer-grown s old new w e k t p q = record {
  known = k;
  typings = t;
  statements = subst (All (HasStatement new.nodes)) (sym p)
      (All-weaker (HasStatement old.nodes) (HasStatement new.nodes) (still-statement old.nodes new.nodes e)
      old.statements.items
      w.statements);
  long = ap length q ∙ w.long;
  placed = λ i pl h.
      subst (λ l. IsPlaced s new.nodes l i pl) (sym p)
      (placed-grown s old.nodes new.nodes old.statements.items i pl e w.statements
      (w.placed i pl (ap (λ l. slice_get l i) (sym q) ∙ h)));
}

-- ---- numbers

pub number-some : (ps : List (Option Place)) (i : ℕ) (p : Place) → slice_get ps i ≡ Some (Some p)
    → number_at ps i ≡ Some p.number
number-some ps i p h = ap number_in h

-- what isn't a theorem has no number
pub number-none : (s : Session) (w : Writer) → IsWriter s w → (i : ℕ) (x : Object) → Makes (origin_of s i) x
    → HasResult (value (origin_of s i)) → ((q : Sequent Name) → x ≢ theorem q) → number_at w.places.items i ≡ None
number-none s w is i x m h other = go (slice_get w.places.items i) refl
  where
    go : (r : Option (Option Place)) → slice_get w.places.items i ≡ r → number_in r ≡ None
    go None e = refl
    go (Some None) e = refl
    go (Some (Some p)) e = let pl = is.placed i p e in absurd
        (other (sequent_at w.nodes pl.statement) (sym (m.is h.0 h.1) ∙ pl.makes.is h.0 h.1))

pub origin-tells : (a b : Origin Name) → Decides (same_origin names.same a b) (a ≡ b)
origin-tells = same-origin-law names.same same_name-Decides

module _ (s : Session) (num : IsNumbered s) where
  abbrev naming : ℕ → Name
  naming = name_of s.kernel.names

  pub naming-is : (i : ℕ) → i < length s.trace → map_origin naming (origin_at s.trace i) ≡ origin_of s i
  naming-is i h =
      origin-agree naming (name_at s.kernel) (length s.kernel.names) (name_of-index s.kernel.names num.names)
      (origin_at s.trace i) (num.run.named i (Number (pos 0)) h)

  -- equal origins have equal numbers
  pub steps-same : (i j : ℕ) → i < length s.trace → j < length s.trace → origin_of s i ≡ origin_of s j → i ≡ j
  steps-same i j h k e = once-at s.trace num.table i j h k
      (origin-injective naming (name_of-injective s.kernel.names) (origin_at s.trace i) (origin_at s.trace j)
      (naming-is i h ∙ e ∙ sym (naming-is j k)))

-- ---- one number more

abbrev or_number : Option ℕ → Option ℕ → Option ℕ
or_number (Some k) r = Some k
or_number None r = r

number-more : (p o : Origin Name) (n : ℕ) (ps : List (Origin Name × ℕ))
    → number_of p (ps ++ (o, n) ∷ []) ≡ or_number (number_of p ps) (cond (same_origin names.same p o) (Some n) None)
number-more p o n [] = refl
number-more p o n (q ∷ ps) = go (same_origin names.same p q.0) (number-more p o n ps)
  where
    go : (b : Bool) → number_of p (ps ++ (o, n) ∷ [])
        ≡ or_number (number_of p ps) (cond (same_origin names.same p o) (Some n) None)
        → cond b (Some q.1) (number_of p (ps ++ (o, n) ∷ []))
        ≡ or_number (cond b (Some q.1) (number_of p ps)) (cond (same_origin names.same p o) (Some n) None)
    go true e = refl
    go false e = e

abbrev pub or_this : Option ℕ → ℕ → ℕ
or_this (Some k) n = k
or_this None n = n

-- an origin keeps its first number
pub number-here : (o : Origin Name) (n : ℕ) (ps : List (Origin Name × ℕ))
    → number_of o (ps ++ (o, n) ∷ []) ≡ Some (or_this (number_of o ps) n)
number-here o n ps =
    number-more o o n ps
    ∙ ap (λ b. or_number (number_of o ps) (cond b (Some n) None)) ((origin-tells o o).1 refl) ∙ go (number_of o ps)
  where
    go : (r : Option ℕ) → or_number r (Some n) ≡ Some (or_this r n)
    go None = refl
    go (Some k) = refl

-- one that was there stays
pub number-stays : (p o : Origin Name) (n k : ℕ) (ps : List (Origin Name × ℕ)) → number_of p ps ≡ Some k
    → number_of p (ps ++ (o, n) ∷ []) ≡ Some k
number-stays p o n k ps e =
    number-more p o n ps ∙ ap (λ r. or_number r (cond (same_origin names.same p o) (Some n) None)) e

pub number-other : (p o : Origin Name) (n : ℕ) (ps : List (Origin Name × ℕ)) → p ≢ o
    → number_of p (ps ++ (o, n) ∷ []) ≡ number_of p ps
number-other p o n ps d = number-more p o n ps ∙ ap (λ b. or_number (number_of p ps) (cond b (Some n) None)) differs
    ∙ go (number_of p ps)
  where
    differs : same_origin names.same p o ≡ false
    differs =
        elim (bool_cases (same_origin names.same p o)) [ inl e ↦ absurd (d ((origin-tells p o).0 e)) | inr e ↦ e ]

    go : (r : Option ℕ) → or_number r None ≡ r
    go None = refl
    go (Some k) = refl

-- ---- a theorem that gets a place

module _ (s : Session) (num : IsNumbered s) (old new : Writer) (w : IsWriter s old) (id : ℕ) (m : Made)
    (k : Marks id m old new)
    (inside : id < length s.trace) where
  abbrev next : Place
  next = record { number = m.number; at = length old.statements.items }

  abbrev place : Place
  place = first_place (slice_get old.places.items id) next

  -- the old one, or the next
  which-place : (r : Option (Option Place)) → (r ≡ Some (Some (first_place r next))) ⊎ (first_place r next ≡ next)
  which-place None = inr refl
  which-place (Some None) = inr refl
  which-place (Some (Some p)) = inl refl

  marked-places : (i : ℕ) (p : Place) → slice_get (set old.places.items id (Some place)) i ≡ Some (Some p)
      → ((i ≡ id) × (next ≡ p)) ⊎ (slice_get old.places.items i ≡ Some (Some p))
  marked-places i p h = elim (cases_eq i id) [
    | inl e ↦ (let q : Some (Some place) ≡ Some (Some p) =
        sym (slice_get-set_same old.places.items id (Some place) k.inside)
        ∙ ap (slice_get (set old.places.items id (Some place))) (sym e) ∙ h in
        let r : place ≡ p = cc in
        elim (which-place (slice_get old.places.items id)) [
          | inl a ↦ inr (ap (slice_get old.places.items) e ∙ a ∙ ap (λ z. Some (Some z)) r)
          | inr a ↦ inl (e, sym a ∙ r)
        ])
    | inr n ↦ inr (sym (slice_get-set_other old.places.items id i (Some place) n) ∙ h)
  ]

  pub marked-writer : HasStatement old.nodes m.statement
      → Makes (origin_of s id) (theorem (sequent_at old.nodes m.statement))
      → IsWriter s new
  marked-writer has makes = record {
    known = subst (λ z. AreKnown s z new.values) (sym k.nodes) (subst (AreKnown s old.nodes) (sym k.values) w.known);
    typings = subst (λ z. AreTypings z new.typings.known.entries) (sym k.nodes)
        (subst (λ t. AreTypings old.nodes t.known.entries) (sym k.typings) w.typings);
    statements = subst (λ z. All (HasStatement z) new.statements.items) (sym k.nodes)
        (subst (All (HasStatement old.nodes)) (sym k.statements)
        (All-push (HasStatement old.nodes) old.statements.items m.statement w.statements has));
    long = ap length k.places ∙ length-set old.places.items id (Some place) ∙ w.long;
    placed = λ i p h.
        subst (λ z. IsPlaced s z new.statements.items i p) (sym k.nodes)
        (subst (λ l. IsPlaced s old.nodes l i p) (sym k.statements)
        (elim (marked-places i p (ap (λ l. slice_get l i) (sym k.places) ∙ h))
        [ inl q ↦ at-new i p q.0 q.1 | inr q ↦ at-old i p (w.placed i p q) ]));
  }
    where
      at-old : (i : ℕ) (p : Place) → IsPlaced s old.nodes old.statements.items i p
          → IsPlaced s old.nodes (old.statements.items ++ m.statement ∷ []) i p
      at-old i p h = record {
        within = long-more old.statements.items m.statement p.at h.within;
        statement = h.statement;
        at = slice_get-append_left old.statements.items (m.statement ∷ []) p.at h.statement h.at;
        makes = h.makes;
      }

      at-new : (i : ℕ) (p : Place) → i ≡ id → next ≡ p
          → IsPlaced s old.nodes (old.statements.items ++ m.statement ∷ []) i p
      at-new i p e q = subst (λ p. IsPlaced s old.nodes (old.statements.items ++ m.statement ∷ []) i p) q (record {
        within = long-push old.statements.items m.statement;
        statement = m.statement;
        at = get-last old.statements.items m.statement;
        makes = subst (λ i. Makes (origin_of s i) (theorem (sequent_at old.nodes m.statement))) (sym e) makes;
      })

  pub marked-holds : (max : ℕ) (x : Written) → Holds s max old x → Holds s max new (mark (origin_of s id) m.number x)
  marked-holds max x h = record {
    log = subst (λ z. Shows z max new.sheet x.log) (sym k.nodes)
        (subst (λ z. Shows old.nodes max z x.log) (sym k.sheet) h.log);
    numbers = λ i l. elim (cases_eq i id) [
      | inl e ↦ (let here : number_of (origin_of s id) x.theorems ≡ number_in (slice_get old.places.items id) =
          h.numbers id inside in
          ap (λ j. number_of (origin_of s j) (x.theorems ++ (origin_of s id, m.number) ∷ [])) e
          ∙ number-here (origin_of s id) m.number x.theorems
          ∙ ap (λ r. Some (or_this r m.number)) here
          ∙ first-number (slice_get old.places.items id)
          ∙ sym (ap (λ l. number_at l i) k.places ∙ ap (number_at (set old.places.items id (Some place))) e
          ∙ ap number_in (slice_get-set_same old.places.items id (Some place) k.inside)))
      | inr n ↦ number-other (origin_of s i) (origin_of s id) m.number x.theorems
          (λ e. n (steps-same s num i id l inside e))
          ∙ h.numbers i l
          ∙ sym (ap (λ l. number_at l i) k.places
          ∙ ap number_in (slice_get-set_other old.places.items id i (Some place) n))
    ];
  }
    where
      first-number : (r : Option (Option Place)) → Some (or_this (number_in r) m.number)
          ≡ Some (first_place r next).number
      first-number None = refl
      first-number (Some None) = refl
      first-number (Some (Some p)) = refl

-- ---- a statement that is read at a place, in a table that grew since

pub placed-later : (s : Session) (w : Writer) → IsWriter s w → (ts : List Item) → Extends w.nodes ts
    → (i : ℕ) (p : Place) (q : Statement) → slice_get w.places.items i ≡ Some (Some p)
    → q ≡ get_or w.statements.items p.at q
    → HasStatement ts q × Makes (origin_of s i) (theorem (sequent_at ts q))
placed-later s w is ts e i p q at r =
    let h = is.placed i p at in
    let same = get-here w.statements.items p.at q h.statement r h.at in
    let has = subst (HasStatement w.nodes) (sym same)
    (All-slice_get (HasStatement w.nodes) w.statements.items p.at h.statement is.statements h.at) in
    let makes = subst (λ z. Makes (origin_of s i) (theorem (sequent_at w.nodes z))) (sym same) h.makes in (
      still-statement w.nodes ts e q has,
      record { is = λ v k. makes.is v k ∙ ap theorem (sym (sequent-stays w.nodes ts e q has)) },
    )

-- before the first theorem
pub none-placed : (ps : List (Option Place)) (n i : ℕ) (p : Place) → ps ≡ replicate n None
    → slice_get ps i ≢ Some (Some p)
none-placed ps n i p e h = go n i (ap (λ l. slice_get l i) (sym e) ∙ h)
  where
    go : (n i : ℕ) → slice_get (replicate n None) i ≢ Some (Some p)
    go zero i h = cc
    go (suc n) zero h = cc
    go (suc n) (suc i) h = go n i h

pub none-numbered : (ps : List (Option Place)) (n i : ℕ) → ps ≡ replicate n None → None ≡ number_at ps i
none-numbered ps n i e = go n i ∙ ap (λ l. number_at l i) (sym e)
  where
    go : (n i : ℕ) → None ≡ number_at (replicate n None) i
    go zero i = refl
    go (suc n) zero = refl
    go (suc n) (suc i) = go n i

pub read-place : {X : Type 0} (xs : List X) (i j : ℕ) (r x : X) → i ≡ j → r ≡ get_or xs i r → r ≡ x → j < length xs
    → slice_get xs j ≡ Some x
read-place xs i j r x e h k low = get-as xs j r (h ∙ ap (λ z. get_or xs z r) e) low ∙ ap Some k
  where
    get-as : {X : Type 0} (xs : List X) (i : ℕ) (x : X) → x ≡ get_or xs i x → i < length xs → slice_get xs i ≡ Some x
    get-as [] i x e h = absurd (omega arith)
    get-as (y ∷ xs) zero x e h = ap Some (sym e)
    get-as (y ∷ xs) (suc i) x e h = get-as xs i x e (omega arith)

pub replicate-long : {X : Type 0} (n : ℕ) (x : X) → length (replicate n x) ≡ n
replicate-long zero x = refl
replicate-long (suc n) x = ap suc (replicate-long n x)
