-- Running a written article.
use Rattle.std.proofs.Common.{◌≡◌, ◌≢◌, ℕ, zero, suc, ◌<◌, inl, inr, Bool, true, false, cond, List, [], ◌∷◌}
use Rattle.std.proofs.Common.{◌++◌, Option, None, Some, Ok, refl, sym, ap, subst, ◌∙◌, arith, append_assoc}
use Rattle.std.proofs.lemmas.List.{append-nil, map_push}
use Rattle.std.proofs.lemmas.Bool.Decides.{eqb_tells}
use Rattle.std.specs.Bool.{Decides}
use Rattle.std.specs.List.{flat_map}
use Rattle.ot_logic.specs.Names.{Name}
use Rattle.ot_logic.specs.Naming.{names}
use Rattle.ot_logic.specs.Hol.{theorems}
use Rattle.ot_logic.specs.Trees.{Definition}
use Rattle.ot_logic.specs.Lists.{IsMember}
use Rattle.ot_logic.specs.declared.command.Cmd.{Cmd}
use Rattle.ot_logic.specs.declared.command.Cmd.TheVariants as words
use Rattle.ot_trace.specs.Origins.{Origin, Origins, Number, Named, Make, Define, Outcome, NoOrigins, MoreOrigins}
use Rattle.ot_machine.specs.Objects.{Object, list, term, theorem}
use Rattle.ot_machine.specs.States.{Entry, Export, Made}
use Rattle.ot_machine.specs.Rows.{definitions_of}
use Rattle.ot_machine.specs.Values.{values, definition_of, defines}
use Rattle.ot_written.specs.Written as w
use Rattle.ot_written.specs.Written.{Line, Numeral, Spelled, Order, Text, theorem_count, symbol_count}
use Rattle.ot_trace.specs.Origins.{Roots}
use Rattle.ot_written.proofs.Settled.{IsTheoremOf, EachOutcome, EachOutcomes}
use Rattle.ot_article.specs.Article.{origins_made}
use Rattle.ot_article.proofs.Writable.{AreWritable, AreExports, roots_in}
use Rattle.ot_written.proofs.Growth.{flat_map-snoc, Grows, grows-refl, grows-trans, grows-put, grows-make}
use Rattle.ot_written.proofs.Growth.{grows-emit, made-store, grows-pops, grows-outcomes, made-definition}
use Rattle.ot_written.proofs.Growth.{grows-definition, grows-definitions, grows-exports, outcome-mono, outcomes-mono}
use Rattle.ot_article.proofs.Frames.{entry, objects_of}
use Rattle.ot_article.proofs.Fewer.{definition-less}
use Rattle.ot_article.proofs.Simulated.{made_by, defined_by, IsWritten}
use Rattle.ot_article.proofs.Making.{declare-written, pops-written, outcomes-written, export-written}
use Rattle.ot_article.proofs.Emitted.{IsClean, clean-front, paired, paired-is, emit-runs, emit_all-runs}
use Rattle.ot_logic.proofs.Members.{IsMember-cases, IsMember-last}
use Rattle.ot_logic.proofs.Results.{bind-ok}

module _ (same : Origin Name → Origin Name → Bool) (keep : Origin Name → Bool) where
  -- the definitions among what a text made
  abbrev pub defined_in : Text Name → List Made
  defined_in t = flat_map defined_by t.made

  defined-make : (o : Origin Name) (l : Line Name) (t : Text Name) → defined_by o ≡ []
      → defined_in (w.make same o l t) ≡ defined_in t
  defined-make o l t h = flat_map-snoc defined_by t.made o ∙ ap (λ z. defined_in t ++ z) h ∙ append-nil (defined_in t)

  defined-kept : (o : Origin Name) (t : Text Name) → defined_in (w.keep_made same keep o t) ≡ defined_in t
  defined-kept o t = ap (flat_map defined_by) (made-store same (keep o) o t)

  defined-recalled : (k : Option ℕ) (write : Text Name → Text Name) (t : Text Name)
      → defined_in (write t) ≡ defined_in t → defined_in (w.recalled same k write t) ≡ defined_in t
  defined-recalled None write t h = h
  defined-recalled (Some k) write t h = refl

  mutual
    pub defined-emit : (o : Origin Name) (t : Text Name) → defined_in (w.emit same keep o t) ≡ defined_in t
    defined-emit (Number k) t = defined-recalled (w.key_of same (Number k) t.stored) (λ u. w.put same (Numeral k) u) t
        refl
    defined-emit (Named n) t = defined-recalled (w.key_of same (Named n) t.stored)
        (λ u. w.keep_made same keep (Named n) (w.make same (Named n) (Spelled n) u)) t
        (defined-kept (Named n) (w.make same (Named n) (Spelled n) t) ∙ defined-make (Named n) (Spelled n) t refl)
    defined-emit (Make c os) t = defined-recalled (w.key_of same (Make c os) t.stored)
        (λ u. w.keep_made same keep (Make c os) (w.make same (Make c os) (Order c) (w.emit_all same keep os u))) t
        (defined-kept (Make c os) (w.make same (Make c os) (Order c) (w.emit_all same keep os t))
        ∙ defined-make (Make c os) (Order c) (w.emit_all same keep os t) refl ∙ defined-emit_all os t)
    defined-emit (Define c os) t = defined-recalled (w.key_of same (Define c os) t.stored) (λ u. u) t refl
    defined-emit (Outcome j d) t = defined-recalled (w.key_of same (Outcome j d) t.stored) (λ u. u) t refl

    pub defined-emit_all : (os : Origins Name) (t : Text Name) → defined_in (w.emit_all same keep os t) ≡ defined_in t
    defined-emit_all NoOrigins t = refl
    defined-emit_all (MoreOrigins o os) t = defined-emit_all os (w.emit same keep o t) ∙ defined-emit o t

  pub defined-exports : (used : Origin Name → Bool) (es : List (Roots Name)) (t : Text Name)
      → defined_in (w.emit_exports same keep used es t) ≡ defined_in t
  defined-exports used [] t = refl
  defined-exports used (e ∷ es) t =
      defined-exports used es
      (w.put same (Order words.Thm)
      (w.emit same keep e.term (w.emit same keep e.list (w.emit same keep e.theorem t))))
      ∙ defined-emit e.term (w.emit same keep e.list (w.emit same keep e.theorem t))
      ∙ defined-emit e.list (w.emit same keep e.theorem t) ∙ defined-emit e.theorem t

-- each theorem of a definition that has a use is stored
module _ {N : Type 0} (same : Origin N → Origin N → Bool) (keep used : Origin N → Bool) where
  outcomes-stored : (d : Origin N) (n i : ℕ) (t : Text N) → i < n → used (Outcome (suc i) d) ≡ true
      → IsMember (Outcome (suc i) d) (w.outcomes same keep used d n t).stored
  outcomes-stored d zero i t h p = absurd (omega arith)
  outcomes-stored d (suc n) i t h p =
      let u : Text N = cond (used (Outcome (suc n) d)) (w.store same (Outcome (suc n) d) t) t in
      elim (eqb_tells i n) [
        | inl e ↦
            let q : used (Outcome (suc n) d) ≡ true = subst (λ z. used (Outcome (suc z) d) ≡ true) e.1 p in
            let here : IsMember (Outcome (suc n) d) u.stored =
            stored-there (used (Outcome (suc n) d)) (Outcome (suc n) d) t q in
            (grows-outcomes same keep used d n (w.put same (Order words.Pop) u)).stored (Outcome (suc i) d)
            (subst (λ z. IsMember (Outcome (suc z) d) u.stored) (sym e.1) here)
        | inr e ↦ outcomes-stored d n i (w.put same (Order words.Pop) u) (let f : i ≢ n = e.1 in omega arith) p
      ]
    where
      stored-there : (b : Bool) (o : Origin N) (t : Text N) → b ≡ true
          → IsMember o (cond b (w.store same o t) t).stored
      stored-there true o t h = IsMember-last o t.stored
      stored-there false o t h = absurd (cc)

  -- the theorems of the definitions so far are stored
  abbrev pub HasTheorems : List (Origin N) → Text N → Type 0
  HasTheorems ds t = (r : Origin N) → IsTheoremOf used ds r → IsMember r t.stored

  pub theorems-definition : (es : List (Origin N)) (c : Cmd) (os : Origins N) (t : Text N) → HasTheorems es t
      → HasTheorems (es ++ Define c os ∷ []) (w.emit_definition same keep used (Define c os) t)
  theorems-definition es c os t h r x =
      let d : Origin N = Define c os in
      let mid : Text N = w.make same d (Order c) (w.emit_all same keep os t) in
      elim (IsMember-cases (Define x.word x.operands) es (d ∷ []) x.of) [
        | inl old ↦ (grows-definition same keep used d t).stored r
            (h r (record {
              place = x.place;
              word = x.word;
              operands = x.operands;
              is = x.is;
              of = old;
              within = x.within;
              has_use = x.has_use;
            }))
        | inr new ↦ elim new [
          | inl e ↦
              let word_is : c ≡ x.word = cc in
              let whole : r ≡ Outcome (suc x.place) d = x.is ∙ ap (Outcome (suc x.place)) (sym e) in
              let within : x.place < theorem_count c =
              subst (λ z. x.place < theorem_count z) (sym word_is) x.within in
              let has_use : used (Outcome (suc x.place) d) ≡ true = subst (λ z. used z ≡ true) whole x.has_use in
              subst (λ z. IsMember z (w.emit_definition same keep used d t).stored) (sym whole)
              ((grows-pops same keep used (symbol_count c) (w.outcomes same keep used d (theorem_count c) mid)).stored
              (Outcome (suc x.place) d) (outcomes-stored d (theorem_count c) x.place mid within has_use))
          | inr none ↦ absurd none
        ]
      ]

module _ (same : Origin Name → Origin Name → Bool) (same-is : (a b : Origin Name) → Decides (same a b) (a ≡ b))
    (keep used : Origin Name → Bool) where
  definition-runs : (earlier : List Made) (c : Cmd) (os : Origins Name) (x : Definition Name) (t : Text Name)
      → EachOutcomes (IsTheoremOf used (origins_made earlier)) os
      → definition_of (definitions_of earlier) (Define c os) ≡ Ok x
      → defined_in same keep t ≡ earlier → HasTheorems same keep used (origins_made earlier) t
      → IsClean (w.emit_definition same keep used (Define c os) t).made → IsWritten t [] []
      → IsWritten (w.emit_definition same keep used (Define c os) t) [] []
  definition-runs earlier c os x t settled accepted sofar has clean i =
      let d : Origin Name = Define c os in
      let ds = definitions_of earlier in
      let u : Text Name = w.emit_all same keep os t in
      let given = bind-ok (values os) (defines c ds) x accepted in
      let vs : List Object = given.0 in
      let pairs = paired-is os vs given.1 in
      let es : List Entry = paired os vs in
      let made : IsClean (u.made ++ d ∷ []) = subst (λ l. IsClean l) (made-definition same keep used c os t) clean in
      let front : IsClean u.made = clean-front u (w.make same d (Order c) u) (grows-make same d (Order c) u) made in
      let ready : EachOutcomes (λ r. IsMember r t.stored) os =
      outcomes-mono (IsTheoremOf used (origins_made earlier)) (λ r. IsMember r t.stored) has os settled in
      let rest : IsWritten u ([] ++ es) [] = emit_all-runs same same-is keep os t [] [] vs ready given.1 front i in
      let objects : values os ≡ Ok (objects_of es) = given.1 ∙ ap Ok (sym pairs.1) in
      let known : definitions_of rest.now.run.definitions ≡ ds =
      ap definitions_of (rest.definitions ∙ defined-emit_all same keep os t ∙ sofar) in
      let defined : defines c (definitions_of rest.now.run.definitions) (objects_of es) ≡ Ok x =
      (λ j. defines c (known j) (pairs.1 j)) ∙ given.2 in
      let own : definition_of [] d ≡ Ok x = definition-less [] ds (λ y m. elim m [ ]) d x accepted in
      let declared = declare-written same u [] es [] c os x pairs.0 pairs.2 objects rest defined own in
      let mid : Text Name = w.make same d (Order c) u in
      let proved : IsWritten (w.outcomes same keep used d (theorem_count c) mid) ([] ++ declared.symbols) [] =
      outcomes-written same (theorem_count c) (theorems names x) [] d x ([] ++ declared.symbols) [] mid keep used
      declared.long (sym (append-nil (theorems names x))) own declared.written in
      pops-written same (symbol_count c) declared.symbols [] [] (w.outcomes same keep used d (theorem_count c) mid)
      keep used declared.wide proved

  -- what is known after the definitions
  pub record AreRun (ms : List Made) (t : Text Name) : Type 0 where
    pub wrote : IsWritten t [] []
    pub defined : defined_in same keep t ≡ ms
    pub has : HasTheorems same keep used (origins_made ms) t

  one-run : (es : List Made) (m : Made) (c : Cmd) (os : Origins Name) (t : Text Name) → m.origin ≡ Define c os
      → EachOutcomes (IsTheoremOf used (origins_made es)) os → definition_of (definitions_of es) m.origin
      ≡ Ok m.definition
      → IsClean (w.emit_definition same keep used m.origin t).made → AreRun es t
      → AreRun (es ++ m ∷ []) (w.emit_definition same keep used m.origin t)
  one-run es m c os t is settled accepted clean i =
      let d : Origin Name = Define c os in
      let n : Made = record { definition = m.definition; origin = d } in
      let m_is : m ≡ n = λ j. record { definition = m.definition; origin = is j } in
      let accepted_d : definition_of (definitions_of es) d ≡ Ok m.definition =
      ap (definition_of (definitions_of es)) (sym is) ∙ accepted in
      let own : definition_of [] d ≡ Ok m.definition =
      definition-less [] (definitions_of es) (λ y p. elim p [ ]) d m.definition accepted_d in
      let clean_d : IsClean (w.emit_definition same keep used d t).made =
      subst (λ z. IsClean (w.emit_definition same keep used z t).made) is clean in
      let done : AreRun (es ++ n ∷ []) (w.emit_definition same keep used d t) = record {
        wrote = definition-runs es c os m.definition t settled accepted_d i.defined i.has clean_d i.wrote;
        defined = ap (flat_map defined_by) (made-definition same keep used c os t)
            ∙ flat_map-snoc defined_by (w.emit_all same keep os t).made d
            ∙ (λ j. (defined-emit_all same keep os t ∙ i.defined) j ++ made_by d (own j));
        has = subst (λ l. HasTheorems same keep used l (w.emit_definition same keep used d t))
            (sym (map_push (λ (z : Made). z.origin) es n))
            (theorems-definition same keep used (origins_made es) c os t i.has);
      } in
      subst (λ (z : Made). AreRun (es ++ z ∷ []) (w.emit_definition same keep used z.origin t)) (sym m_is) done

  pub definitions-run : (ms es : List Made) (t : Text Name) → AreWritable used es ms
      → IsClean (w.emit_definitions same keep used (origins_made ms) t).made → AreRun es t
      → AreRun (es ++ ms) (w.emit_definitions same keep used (origins_made ms) t)
  definitions-run [] es t h clean i = subst (λ l. AreRun l t) (sym (append-nil es)) i
  definitions-run (m ∷ ms) es t h clean i =
      let f = h.0 in
      let u : Text Name = w.emit_definition same keep used m.origin t in
      let front : IsClean u.made = clean-front u _ (grows-definitions same keep used (origins_made ms) u) clean in
      let rest = definitions-run ms (es ++ m ∷ []) u h.1 clean
      (one-run es m f.word f.operands t f.is f.settled f.accepted front i) in
      subst (λ l. AreRun l (w.emit_definitions same keep used (origins_made ms) u)) (append_assoc es (m ∷ []) ms) rest

  pub settled-stored : (ds : List (Origin Name)) (t u : Text Name) (o : Origin Name) → Grows t u
      → HasTheorems same keep used ds t → EachOutcome (IsTheoremOf used ds) o
      → EachOutcome (λ r. IsMember r u.stored) o
  settled-stored ds t u o g h s =
      outcome-mono (IsTheoremOf used ds) (λ r. IsMember r u.stored) (λ r x. g.stored r (h r x)) o s

  pub exports-run : (ds : List (Origin Name)) (es xs : List Export) (t : Text Name) → AreExports used ds xs es
      → HasTheorems same keep used ds t → IsClean (w.emit_exports same keep used (roots_in es) t).made
      → IsWritten t [] xs → IsWritten (w.emit_exports same keep used (roots_in es) t) [] (xs ++ es)
  exports-run ds [] xs t h has clean i = subst (λ l. IsWritten t [] l) (sym (append-nil xs)) i
  exports-run ds (e ∷ es) xs t h has clean i =
      let x = h.0 in
      let a : Text Name = w.emit same keep e.roots.theorem t in
      let b : Text Name = w.emit same keep e.roots.list a in
      let c : Text Name = w.emit same keep e.roots.term b in
      let u : Text Name = w.put same (Order words.Thm) c in
      let ga = grows-emit same keep e.roots.theorem t in
      let gb = grows-emit same keep e.roots.list a in
      let gc = grows-emit same keep e.roots.term b in
      let gu = grows-exports same keep used (roots_in es) u in
      let clean_c : IsClean c.made = clean-front c _ (grows-trans c u _ (grows-put same (Order words.Thm) c) gu)
      clean in
      let clean_b : IsClean b.made = clean-front b c gc clean_c in
      let clean_a : IsClean a.made = clean-front a b gb clean_b in
      let ea : Entry = entry (theorem e.sequent) e.roots.theorem in
      let eb : Entry = entry (list x.objects) e.roots.list in
      let ra = emit-runs same same-is keep e.roots.theorem t [] xs (theorem e.sequent)
      (settled-stored ds t t e.roots.theorem (grows-refl t) has x.settled.0) x.theorem_is clean_a i in
      let rb = emit-runs same same-is keep e.roots.list a (ea ∷ []) xs (list x.objects)
      (settled-stored ds t a e.roots.list ga has x.settled.1) x.list_is clean_b ra in
      let rc = emit-runs same same-is keep e.roots.term b ((ea ∷ []) ++ eb ∷ []) xs (term x.concl)
      (settled-stored ds t b e.roots.term (grows-trans t a b ga gb) has x.settled.2) x.term_is clean_c rb in
      let ru = export-written same c [] xs e x.objects x.hyps x.concl x.terms_are x.matches h.1 rc in
      let has_u : HasTheorems same keep used ds u = λ r y. gc.stored r (gb.stored r (ga.stored r (has r y))) in
      subst (λ l. IsWritten (w.emit_exports same keep used (roots_in es) u) [] l) (append_assoc xs (e ∷ []) es)
      (exports-run ds es (xs ++ e ∷ []) u h.2 has_u clean ru)
