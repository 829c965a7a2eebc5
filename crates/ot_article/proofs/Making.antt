-- Running a text: words, definitions and exports.
use Rattle.std.proofs.Common.{◌≡◌, ℕ, zero, suc, ◌+◌, ◌-◌, ◌⊎◌, inl, inr, Bool, true, false, cond}
use Rattle.std.proofs.Common.{List, [], ◌∷◌, ◌++◌, length, drop, map, slice_get, None, Some, Result}
use Rattle.std.proofs.Common.{Ok, refl, sym, ap, subst, ◌∙◌, arith, append_assoc, length-append}
use Rattle.std.proofs.lemmas.List.{append-nil, drop_at}
use Rattle.std.specs.Prelude.{find}
use Rattle.std.specs.List.{flat_map}
use Rattle.ot_logic.specs.Names.{Name}
use Rattle.ot_logic.specs.Naming.{names}
use Rattle.ot_logic.specs.Lists.{IsMember}
use Rattle.ot_logic.specs.Trees.{Tm, Sequent, Definition}
use Rattle.ot_logic.specs.Hol.{same_sequent, theorems}
use Rattle.ot_logic.specs.Faults.{Fault}
use Rattle.ot_logic.specs.declared.command.Cmd.{Cmd}
use Rattle.ot_logic.specs.declared.command.Cmd.TheVariants as words
use Rattle.ot_logic.specs.declared.kind.Kind.TheVariants as kinds
use Rattle.ot_trace.specs.Origins.{Origin, Origins, Make, Define, Outcome}
use Rattle.ot_machine.specs.Objects.{Object, Objects, kind_of, list, term, theorem}
use Rattle.ot_machine.specs.States.{version_6, Entry, Export, Given, Made, State, no_context}
use Rattle.ot_machine.specs.Places.{origins_of, top, as_each, as_term}
use Rattle.ot_machine.specs.Rows.{given_as, theorem_entries, definitions_of, is_exported}
use Rattle.ot_machine.specs.Step.{order, is_version, row, word_row}
use Rattle.ot_machine.specs.Makers.{maker}
use Rattle.ot_machine.specs.Values.{applied, value, values, definition_of, defines}
use Rattle.ot_written.specs.Written as w
use Rattle.ot_written.specs.Written.{Order, Text, theorem_count, symbol_count}
use Rattle.ot_machine.specs.Marks.{mark}
use Rattle.ot_machine.specs.Marks.{word_mark, top_origin, last_definition}
use Rattle.ot_machine.specs.Lawful.{IsAxiom}
use Rattle.ot_article.proofs.Writable.{AxiomsApart}
use Rattle.ot_written.proofs.Filters.{bool_cases, member-flat_map}
use Rattle.ot_written.proofs.Growth.{flat_map-snoc}
use Rattle.ot_article.proofs.Operands.{made_of, made-of, given_by, given-of}
use Rattle.ot_article.proofs.Frames.{objects_of, entry, top-here}
use Rattle.ot_article.proofs.MadeKinds.{kind-made}
use Rattle.ot_article.proofs.RowsHere.{with_stack, AreFit, plain-row, axiom-row}
use Rattle.ot_article.proofs.DefinitionRows.{with_definition}
use Rattle.ot_article.proofs.DefinitionRows as rows
use Rattle.ot_article.proofs.Runs.{moved, thm-row}
use Rattle.ot_article.proofs.Simulated.{taken_by, assumed_by, made_by, defined_by, IsWritten}
use Rattle.ot_article.proofs.Simulated.{runs-on, marks-on, store-written, pop-written}
use Rattle.ot_logic.proofs.Members.{IsMember-last, IsMember-left}

-- ---- words that make an object

made-version : (c : Cmd) (vs : List Object) (v : Object) → made_of (maker c) vs ≡ Ok v → is_version (order c) ≡ false
made-version words.Version vs v h = absurd (cc)
made-version _ vs v h = refl

made-mark : (c : Cmd) (vs : List Object) (v : Object) → made_of (maker c) vs ≡ Ok v → (s : State)
    → word_mark c s ≡ top_origin s
made-mark words.Version vs v h s = absurd (cc)
made-mark words.HdTl vs v h s = absurd (cc)
made-mark words.Def vs v h s = absurd (cc)
made-mark words.Ref vs v h s = absurd (cc)
made-mark words.Remove vs v h s = absurd (cc)
made-mark words.Pop vs v h s = absurd (cc)
made-mark words.Pragma vs v h s = absurd (cc)
made-mark words.Thm vs v h s = absurd (cc)
made-mark words.DefineConst vs v h s = absurd (cc)
made-mark words.DefineConstList vs v h s = absurd (cc)
made-mark words.DefineTypeOp vs v h s = absurd (cc)
made-mark _ vs v h s = refl

-- the word `axiom`, or another
pub axiom-cases : (c : Cmd) → (c ≡ words.Axiom) ⊎ ((os : Origins Name) → ¬ (IsAxiom (Make c os)))
axiom-cases words.Axiom = inl refl
axiom-cases _ = inr (λ os h. let e : Make _ os ≡ Make words.Axiom h.0 = h.1 in cc)

plain-none : (c : Cmd) (os : Origins Name) → ¬ (IsAxiom (Make c os)) → assumed_by (Make c os) ≡ []
plain-none words.Axiom os h = absurd (h (os, refl))
plain-none _ os h = refl

theorem-is : (v : Object) → kind_of v ≡ kinds.Thm → (q : Sequent Name) × (v ≡ theorem q)
theorem-is (theorem q) h = (q, refl)
theorem-is _ h = absurd (cc)

-- what is assumed by an origin
pub assumed-is : (g : Given) (o : Origin Name) → IsMember g (assumed_by o) → (g.origin ≡ o) × IsAxiom o
    × (value o ≡ Ok (theorem g.sequent))
assumed-is g (Make words.Axiom os) m = go (value (Make words.Axiom os)) refl m
  where
    go : (r : Result Object (Fault Name)) → value (Make words.Axiom os) ≡ r
        → IsMember g (taken_by (Make words.Axiom os) r) → (g.origin ≡ Make words.Axiom os)
        × IsAxiom (Make words.Axiom os) × (value (Make words.Axiom os) ≡ Ok (theorem g.sequent))
    go (Ok (theorem q)) e (inl i) =
        (ap (λ (x : Given). x.origin) (sym i), (os, refl), e ∙ ap (λ (x : Given). Ok (theorem x.sequent)) i)
    go (Ok (theorem q)) e (inr i) = elim i [ ]
    go _ e i = elim i [ ]
assumed-is g _ m = elim m [ ]

find-none : {X : Type 0} (f : X → Bool) (xs : List X) → ((x : X) → IsMember x xs → f x ≡ false) → find f xs ≡ None
find-none f [] h = refl
find-none f (x ∷ xs) h = rw (h x (inl refl)) (find-none f xs (λ y m. h y (inr m)))

module _ (same : Origin Name → Origin Name → Bool) where
  module _ (t : Text Name) (st es : List Entry) (xs : List Export) (c : Cmd) (os : Origins Name) (v : Object)
      (origins : origins_of es ≡ os) (fit : AreFit es) (objects : values os ≡ Ok (objects_of es))
      (given : applied (maker c) (objects_of es) ≡ Ok v) (new : ¬ (IsMember (Make c os) t.made))
      (apart : AxiomsApart (t.made ++ Make c os ∷ [])) (i : IsWritten t (st ++ es) xs) where
    abbrev made_entry : Entry
    made_entry = entry v (Make c os)

    value_is : value (Make c os) ≡ Ok v
    value_is = rw objects given

    made_is : made_of (maker c) (objects_of es) ≡ Ok v
    made_is = made-of (maker c) (objects_of es) v given

    mark_is : (s : State) → top_origin s ≡ Make c os ∷ [] → mark (order c) s ≡ Make c os ∷ []
    mark_is s h = made-mark c (objects_of es) v made_is s ∙ h

    top_is : map (λ (x : Entry). x.origin) (top 1 (st ++ made_entry ∷ [])) ≡ Make c os ∷ []
    top_is = ap (map (λ (x : Entry). x.origin)) (top-here st (made_entry ∷ []) 1 refl)

    none_defined : flat_map defined_by t.made ≡ flat_map defined_by (t.made ++ Make c os ∷ [])
    none_defined = sym (flat_map-snoc defined_by t.made (Make c os) ∙ append-nil (flat_map defined_by t.made))

    plain : ((ps : Origins Name) → ¬ (IsAxiom (Make c ps)))
        → IsWritten (w.make same (Make c os) (Order c) t) (st ++ made_entry ∷ []) xs
    plain not_axiom =
        let next : State = with_stack i.now (st ++ made_entry ∷ []) in
        let row_is : row version_6 no_context (order c) (with_stack i.now (st ++ es)) ≡ Ok next =
        subst (λ z. word_row version_6 no_context c (with_stack i.now (st ++ es))
        ≡ Ok (with_stack i.now (st ++ entry v (Make c z) ∷ []))) origins
        (plain-row c i.now st es v made_is fit (not_axiom (origins_of es))) in
        let version : is_version (order c) ≡ false = made-version c (objects_of es) v made_is in
        record {
          now = moved next;
          runs = runs-on same t (st ++ es) xs i (Order c) next version row_is;
          marks_are = marks-on same t (st ++ es) xs i (Order c) next version row_is (Make c os ∷ [])
              (mark_is (moved next) top_is);
          versioned = refl;
          stack_is = refl;
          exports = i.exports;
          dictionary = i.dictionary;
          assumptions = i.assumptions
              ∙ sym (flat_map-snoc assumed_by t.made (Make c os) ∙ ap (λ l. flat_map assumed_by t.made ++ l)
              (plain-none c os (not_axiom os)) ∙ append-nil (flat_map assumed_by t.made));
          definitions = i.definitions ∙ none_defined;
        }

  -- an axiom
  module _ (t : Text Name) (st es : List Entry) (xs : List Export) (os : Origins Name) (v : Object)
      (origins : origins_of es ≡ os) (fit : AreFit es) (objects : values os ≡ Ok (objects_of es))
      (given : applied (maker words.Axiom) (objects_of es) ≡ Ok v) (new : ¬ (IsMember (Make words.Axiom os) t.made))
      (apart : AxiomsApart (t.made ++ Make words.Axiom os ∷ [])) (i : IsWritten t (st ++ es) xs) where
    axiomatic : IsWritten (w.make same (Make words.Axiom os) (Order words.Axiom) t)
        (st ++ entry v (Make words.Axiom os) ∷ []) xs
    axiomatic =
        let o : Origin Name = Make words.Axiom os in
        let made_is : made_of (maker words.Axiom) (objects_of es) ≡ Ok v =
        made-of (maker words.Axiom) (objects_of es) v given in
        let th = theorem-is v (kind-made words.Axiom (objects_of es) v made_is) in
        let q : Sequent Name = th.0 in
        let value_is : value o ≡ Ok v = rw objects given in
        let value_q : value o ≡ Ok (theorem q) = value_is ∙ ap Ok th.1 in
        let g : Given = record { sequent = q; origin = o } in
        let differ : (h : Given) → IsMember h (flat_map assumed_by t.made) → same_sequent names h.sequent q ≡ false =
        λ h m.
        let x = member-flat_map h assumed_by t.made m in
        let a = assumed-is h x.0 x.2 in
        elim (bool_cases (same_sequent names h.sequent q)) [
          | inl e ↦
              absurd (new (subst (λ z. IsMember z t.made)
              (apart x.0 o h.sequent q (IsMember-left x.0 t.made (o ∷ []) x.1) (IsMember-last o t.made) a.1 (os, refl)
              a.2 value_q e) x.1))
          | inr e ↦ e
        ] in
        let missing : given_as q i.now.run.assumptions ≡ None = ap (given_as q) i.assumptions
        ∙ find-none (λ (h : Given). same_sequent names h.sequent q) (flat_map assumed_by t.made) differ in
        let e : Entry = entry v o in
        let next : State =
        record {
          article = record i.now.article { stack = st ++ e ∷ [] };
          run = record i.now.run { assumptions = i.now.run.assumptions ++ g ∷ [] };
        } in
        let row_is : row version_6 no_context (order words.Axiom) (with_stack i.now (st ++ es)) ≡ Ok next =
        subst (λ z. word_row version_6 no_context words.Axiom (with_stack i.now (st ++ es))
        ≡ Ok (record {
          article = record i.now.article { stack = st ++ entry v (Make words.Axiom z) ∷ [] };
          run = record i.now.run
              { assumptions = i.now.run.assumptions ++ record { sequent = q; origin = Make words.Axiom z } ∷ [] };
        }))
        origins (axiom-row i.now st es v made_is q th.1 missing) in
        let one : assumed_by o ≡ g ∷ [] = ap (taken_by o) value_q in
        record {
          now = moved next;
          runs = runs-on same t (st ++ es) xs i (Order words.Axiom) next refl row_is;
          marks_are = marks-on same t (st ++ es) xs i (Order words.Axiom) next refl row_is (o ∷ [])
              (ap (map (λ (x : Entry). x.origin)) (top-here st (e ∷ []) 1 refl));
          versioned = refl;
          stack_is = refl;
          exports = i.exports;
          dictionary = i.dictionary;
          assumptions = ap (λ l. l ++ g ∷ []) i.assumptions
              ∙ sym (flat_map-snoc assumed_by t.made o ∙ ap (λ l. flat_map assumed_by t.made ++ l) one);
          definitions = i.definitions
              ∙ sym (flat_map-snoc defined_by t.made o ∙ append-nil (flat_map defined_by t.made));
        }

  pub word-written : (t : Text Name) (st es : List Entry) (xs : List Export) (c : Cmd) (os : Origins Name)
      (v : Object) → origins_of es ≡ os → AreFit es → values os ≡ Ok (objects_of es)
      → applied (maker c) (objects_of es) ≡ Ok v → ¬ (IsMember (Make c os) t.made)
      → AxiomsApart (t.made ++ Make c os ∷ []) → IsWritten t (st ++ es) xs
      → IsWritten (w.make same (Make c os) (Order c) t) (st ++ entry v (Make c os) ∷ []) xs
  word-written t st es xs c os v origins fit objects given new apart i = elim (axiom-cases c) [
    | inl e ↦ go c e given new apart
    | inr h ↦ plain t st es xs c os v origins fit objects given new apart i h
  ]
    where
      go : (d : Cmd) → d ≡ words.Axiom → applied (maker d) (objects_of es) ≡ Ok v → ¬ (IsMember (Make d os) t.made)
          → AxiomsApart (t.made ++ Make d os ∷ [])
          → IsWritten (w.make same (Make d os) (Order d) t) (st ++ entry v (Make d os) ∷ []) xs
      go words.Axiom e g n a = axiomatic t st es xs os v origins fit objects g n a i
      go _ e g n a = absurd (cc)

-- ---- definitions

given-version : (c : Cmd) (ds : List (Definition Name)) (vs : List Object) (x : Definition Name)
    → given_by c ds vs ≡ Ok x → is_version (order c) ≡ false
given-version words.Version ds vs x h = absurd (cc)
given-version _ ds vs x h = refl

given-mark : (c : Cmd) (ds : List (Definition Name)) (vs : List Object) (x : Definition Name)
    → given_by c ds vs ≡ Ok x → (s : State) → word_mark c s ≡ last_definition s
given-mark words.DefineConst ds vs x h s = refl
given-mark words.DefineConstList ds vs x h s = refl
given-mark words.DefineTypeOp ds vs x h s = refl
given-mark _ ds vs x h s = absurd (cc)

drop-last : {X : Type 0} (xs : List X) (x : X) → drop (length (xs ++ x ∷ []) - 1) (xs ++ x ∷ []) ≡ x ∷ []
drop-last xs x = drop_at xs (x ∷ []) (length (xs ++ x ∷ []) - 1) (omega (arith, length-append xs (x ∷ [])))

-- the last element
pub last_of : {X : Type 0} (xs : List X) (k : ℕ) → length xs ≡ suc k → (ys : List X) × (y : X) × (xs ≡ ys ++ y ∷ [])
    × (length ys ≡ k)
last_of [] k p = absurd (omega arith)
last_of (x ∷ []) k p = ([], x, refl, omega arith)
last_of (x ∷ y ∷ xs) zero p = absurd (omega arith)
last_of (x ∷ y ∷ xs) (suc k) p = let r = last_of (y ∷ xs) k (omega arith) in
    (x ∷ r.0, r.1, ap (λ l. x ∷ l) r.2, ap suc r.3)

theorems-snoc : (d : Origin Name) (k : ℕ) (qs : List (Sequent Name)) (q : Sequent Name) → theorem_entries d k
    (qs ++ q ∷ []) ≡ theorem_entries d k qs ++ entry (theorem q) (Outcome (suc (k + length qs)) d) ∷ []
theorems-snoc d k [] q = let e : k + 0 ≡ k = omega arith in
    ap (λ j. entry (theorem q) (Outcome (suc j) d) ∷ []) (sym e)
theorems-snoc d k (r ∷ qs) q =
    let e : suc k + length qs ≡ k + suc (length qs) = omega arith in
    ap (λ l. entry (theorem r) (Outcome (suc k) d) ∷ l) (theorems-snoc d (suc k) qs q
    ∙ ap (λ j. theorem_entries d (suc k) qs ++ entry (theorem q) (Outcome (suc j) d) ∷ []) e)

get-at : {X : Type 0} (ys bs : List X) (b : X) (n : ℕ) → length ys ≡ n → slice_get (ys ++ b ∷ bs) n ≡ Some b
get-at [] bs b zero p = refl
get-at [] bs b (suc n) p = absurd (omega arith)
get-at (y ∷ ys) bs b zero p = absurd (omega arith)
get-at (y ∷ ys) bs b (suc n) p = get-at ys bs b n (omega arith)

module _ (same : Origin Name → Origin Name → Bool) where
  -- a definition has pushed its symbols and its theorems
  pub record IsDeclared (t : Text Name) (st : List Entry) (xs : List Export) (c : Cmd) (os : Origins Name)
      (x : Definition Name) : Type 0 where
    pub symbols : List Entry
    pub wide : length symbols ≡ symbol_count c
    pub long : length (theorems names x) ≡ theorem_count c
    pub written : IsWritten (w.make same (Define c os) (Order c) t)
        ((st ++ symbols) ++ theorem_entries (Define c os) 0 (theorems names x)) xs

  module _ (t : Text Name) (st es : List Entry) (xs : List Export) (c : Cmd) (os : Origins Name) (x : Definition Name)
      (origins : origins_of es ≡ os) (fit : AreFit es) (objects : values os ≡ Ok (objects_of es))
      (i : IsWritten t (st ++ es) xs)
      (given : defines c (definitions_of i.now.run.definitions) (objects_of es) ≡ Ok x)
      (own : definition_of [] (Define c os) ≡ Ok x) where
    pub declare-written : IsDeclared t st xs c os x
    declare-written =
        let ds : List (Definition Name) = definitions_of i.now.run.definitions in
        let by : given_by c ds (objects_of es) ≡ Ok x = given-of c ds (objects_of es) x given in
        let def = rows.defines c i.now st es x by fit in
        let d : Origin Name = Define c os in
        let next : State = with_definition i.now st def.symbols d x in
        let row_is : row version_6 no_context (order c) (with_stack i.now (st ++ es)) ≡ Ok next =
        subst (λ z. word_row version_6 no_context c (with_stack i.now (st ++ es))
        ≡ Ok (with_definition i.now st def.symbols (Define c z) x)) origins def.row in
        let version : is_version (order c) ≡ false = given-version c ds (objects_of es) x by in
        let m : Made = record { definition = x; origin = d } in
        let mark_is : mark (order c) (moved next) ≡ d ∷ [] = given-mark c ds (objects_of es) x by (moved next)
        ∙ ap (map (λ (z : Made). z.origin)) (drop-last i.now.run.definitions m) in
        let one : defined_by d ≡ m ∷ [] = ap (made_by d) own in
        record {
          symbols = def.symbols;
          wide = def.wide;
          long = def.long;
          written = record {
            now = moved next;
            runs = runs-on same t (st ++ es) xs i (Order c) next version row_is;
            marks_are = marks-on same t (st ++ es) xs i (Order c) next version row_is (d ∷ []) mark_is;
            versioned = refl;
            stack_is = sym (append_assoc st def.symbols (theorem_entries d 0 (theorems names x)));
            exports = i.exports;
            dictionary = i.dictionary;
            assumptions = i.assumptions
                ∙ sym (flat_map-snoc assumed_by t.made d ∙ append-nil (flat_map assumed_by t.made));
            definitions = ap (λ l. l ++ m ∷ []) i.definitions
                ∙ sym (flat_map-snoc defined_by t.made d ∙ ap (λ l. flat_map defined_by t.made ++ l) one);
          };
        }

  pub pops-written : (k : ℕ) (es st : List Entry) (xs : List Export) (t : Text Name) (keep used : Origin Name → Bool)
      → length es ≡ k → IsWritten t (st ++ es) xs → IsWritten (w.pops same keep used k t) st xs
  pops-written zero [] st xs t keep used p i = subst (λ l. IsWritten t l xs) (append-nil st) i
  pops-written zero (e ∷ es) st xs t keep used p i = absurd (omega arith)
  pops-written (suc k) es st xs t keep used p i =
      let r = last_of es k p in
      let j : IsWritten t ((st ++ r.0) ++ r.1 ∷ []) xs =
      subst (λ l. IsWritten t l xs) (ap (λ l. st ++ l) r.2 ∙ sym (append_assoc st r.0 (r.1 ∷ []))) i in
      pops-written k r.0 st xs (w.put same (Order words.Pop) t) keep used r.3
      (pop-written same t (st ++ r.0) xs r.1 j)

  pub stored-where : (b : Bool) (t : Text Name) (st : List Entry) (xs : List Export) (o : Origin Name) (v : Object)
      → value o ≡ Ok v → IsWritten t (st ++ entry v o ∷ []) xs
      → IsWritten (cond b (w.store same o t) t) (st ++ entry v o ∷ []) xs
  stored-where true t st xs o v h i = store-written same t st xs o v h i
  stored-where false t st xs o v h i = i

  pub outcomes-written : (j : ℕ) (ws us : List (Sequent Name)) (d : Origin Name) (x : Definition Name)
      (st : List Entry) (xs : List Export) (t : Text Name) (keep used : Origin Name → Bool) → length ws ≡ j
      → theorems names x ≡ ws ++ us → definition_of [] d ≡ Ok x
      → IsWritten t (st ++ theorem_entries d 0 ws) xs → IsWritten (w.outcomes same keep used d j t) st xs
  outcomes-written zero [] us d x st xs t keep used p q r i = subst (λ l. IsWritten t l xs) (append-nil st) i
  outcomes-written zero (v ∷ ws) us d x st xs t keep used p q r i = absurd (omega arith)
  outcomes-written (suc j) ws us d x st xs t keep used p q r i =
      let l = last_of ws j p in
      let th : Sequent Name = l.1 in
      let vs : List (Sequent Name) = l.0 in
      let o : Origin Name = Outcome (suc j) d in
      let whole : theorems names x ≡ vs ++ th ∷ us = q ∙ ap (λ z. z ++ us) l.2 ∙ append_assoc vs (th ∷ []) us in
      let at_j : slice_get (theorems names x) j ≡ Some th = ap (λ z. slice_get z j) whole ∙ get-at vs us th j l.3 in
      let value_is : value o ≡ Ok (theorem th) = rw (r, at_j) refl in
      let entries : theorem_entries d 0 ws ≡ theorem_entries d 0 vs ++ entry (theorem th) o ∷ [] =
      ap (theorem_entries d 0) l.2 ∙ theorems-snoc d 0 vs th
      ∙ ap (λ k. theorem_entries d 0 vs ++ entry (theorem th) (Outcome (suc k) d) ∷ [])
      (let e : 0 + length vs ≡ j = omega (arith, l.3) in e) in
      let here : IsWritten t ((st ++ theorem_entries d 0 vs) ++ entry (theorem th) o ∷ []) xs =
      subst (λ z. IsWritten t z xs) (ap (λ z. st ++ z) entries
      ∙ sym (append_assoc st (theorem_entries d 0 vs) (entry (theorem th) o ∷ []))) i in
      let held : IsWritten (cond (used o) (w.store same o t) t) ((st ++ theorem_entries d 0 vs) ++ entry (theorem th) o ∷ []) xs = stored-where (used o) t (st ++ theorem_entries d 0 vs) xs o (theorem th) value_is here in
      outcomes-written j vs (th ∷ us) d x st xs (w.put same (Order words.Pop) (cond (used o) (w.store same o t) t))
      keep used l.3 whole r
      (pop-written same (cond (used o) (w.store same o t) t) (st ++ theorem_entries d 0 vs) xs (entry (theorem th) o)
      held)

  -- ---- exports

  pub export-written : (t : Text Name) (st : List Entry) (xs : List Export) (e : Export) (os : Objects)
      (hyps : List (Tm Name)) (p : Tm Name) → as_each as_term os ≡ Ok hyps
      → same_sequent names e.sequent (record { hyps = hyps; concl = p }) ≡ true → is_exported e.sequent xs ≡ false
      → IsWritten t (((st ++ entry (theorem e.sequent) e.roots.theorem ∷ []) ++ entry (list os) e.roots.list ∷ [])
      ++ entry (term p) e.roots.term ∷ []) xs → IsWritten (w.put same (Order words.Thm) t) st (xs ++ e ∷ [])
  export-written t st xs e os hyps p each matches new i =
      let a : Entry = entry (theorem e.sequent) e.roots.theorem in
      let b : Entry = entry (list os) e.roots.list in
      let c : Entry = entry (term p) e.roots.term in
      let full : List Entry = st ++ a ∷ b ∷ c ∷ [] in
      let stack_is : i.now.article.stack ≡ full = i.stack_is ∙ append_assoc (st ++ a ∷ []) (b ∷ []) (c ∷ [])
      ∙ append_assoc st (a ∷ []) (b ∷ c ∷ []) in
      let j : IsWritten t full xs =
      record {
        now = i.now;
        runs = i.runs;
        marks_are = i.marks_are;
        versioned = i.versioned;
        stack_is = stack_is;
        exports = i.exports;
        dictionary = i.dictionary;
        assumptions = i.assumptions;
        definitions =
            i.definitions;
      } in
      let next : State =
      record i.now { article = record i.now.article { stack = st; exports = i.now.article.exports ++ e ∷ [] } } in
      let row_is : row version_6 no_context (order words.Thm) (with_stack i.now full) ≡ Ok next =
      thm-row i.now st e.roots.theorem e.roots.list e.roots.term e.sequent os hyps p each matches
      (ap (is_exported e.sequent) i.exports ∙ new) in
      record {
        now = moved next;
        runs = runs-on same t full xs j (Order words.Thm) next refl row_is;
        marks_are = marks-on same t full xs j (Order words.Thm) next refl row_is [] refl ∙ append-nil t.made;
        versioned = refl;
        stack_is = refl;
        exports = ap (λ l. l ++ e ∷ []) i.exports;
        dictionary = i.dictionary;
        assumptions = i.assumptions;
        definitions = i.definitions;
      }
