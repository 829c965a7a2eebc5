-- A written article runs, exports what it was written for, and is lean.
use Rattle.std.proofs.Common.{◌≡◌, inl, inr, Bool, List, [], ◌∷◌, ◌++◌, Result}
use Rattle.std.proofs.Common.{Ok, refl, sym, ap, subst, ◌∙◌, append_assoc}
use Rattle.std.specs.Bool.{Decides}
use Rattle.std.specs.List.{flat_map}
use Rattle.std.proofs.lemmas.List.{append-nil}
use Rattle.ot_logic.specs.Names.{Name}
use Rattle.ot_logic.specs.Faults.{Fault}
use Rattle.ot_logic.specs.Trees.{Sequent}
use Rattle.ot_logic.specs.Lists.{IsMember, AreDistinct}
use Rattle.ot_logic.specs.declared.command.Cmd.TheVariants as words
use Rattle.ot_trace.specs.Origins.{Origin, Origins, Number, Named, Make, Define, Outcome, parts}
use Rattle.ot_machine.specs.Objects.{Object, theorem}
use Rattle.ot_machine.specs.States.{version_6, Export, Given, Made}
use Rattle.ot_machine.specs.Values.{value}
use Rattle.ot_machine.specs.Marks.{fresh}
use Rattle.ot_written.specs.Written as w
use Rattle.ot_written.specs.Written.{Order, Text, roots_of}
use Rattle.ot_trace.specs.Origins.{Roots}
use Rattle.ot_machine.specs.Lawful.{IsAxiom}
use Rattle.ot_written.proofs.Settled.{EachOutcome, EachOutcomes, IsTheoremOf, IsMark, IsNeededList}
use Rattle.ot_article.proofs.Writable.{AreWritable, AreExports, IsNeeded, IsArticleOf, AxiomsApart, roots_in}
use Rattle.ot_article.specs.Article.{origins_made}
use Rattle.ot_written.proofs.Filters.{member-flat_map, flat_map-member}
use Rattle.ot_written.proofs.Growth.{Grows, grows-refl, grows-trans, grows-put, grows-emit}
use Rattle.ot_written.proofs.Growth.{grows-definition, grows-exports, outcome-mono, outcomes-mono}
use Rattle.ot_article.proofs.Simulated.{taken_by, assumed_by}
use Rattle.ot_article.proofs.Making.{assumed-is}
use Rattle.ot_article.proofs.Emitted.{IsClean, clean-front}
use Rattle.ot_article.proofs.Article.{HasTheorems, theorems-definition, defined-exports}
use Rattle.ot_article.proofs.Article.{definitions-run, exports-run, AreRun}
use Rattle.ot_written.proofs.Lean.{written-once}
use Rattle.ot_written.proofs.Covers.{IsCovered, AreMade, grown-made, emit-done, definition-done}
use Rattle.ot_logic.proofs.Members.{IsMember-cases}

axiom-mark : (o : Origin Name) → IsAxiom o → IsMark o
axiom-mark (Number k) h = absurd (let e : Number k ≡ Make words.Axiom h.0 = h.1 in cc)
axiom-mark (Named n) h = tt
axiom-mark (Make c os) h = tt
axiom-mark (Define c os) h = tt
axiom-mark (Outcome j d) h = absurd (let e : Outcome j d ≡ Make words.Axiom h.0 = h.1 in cc)

axiom-assumed : (o : Origin Name) (q : Sequent Name) → IsAxiom o → value o ≡ Ok (theorem q)
    → IsMember (record { sequent = q; origin = o }) (assumed_by o)
axiom-assumed o q h e = subst (λ z. IsMember (record { sequent = q; origin = z }) (assumed_by z)) (sym h.1)
    (go h.0 (ap value (sym h.1) ∙ e))
  where
    go : (os : Origins Name) → value (Make words.Axiom os) ≡ Ok (theorem q)
        → IsMember (record { sequent = q; origin = Make words.Axiom os }) (assumed_by (Make words.Axiom os))
    go os f =
        subst (λ r. IsMember (record { sequent = q; origin = Make words.Axiom os })
        (taken_by (Make words.Axiom os) r)) (sym f) (inl refl)

assumed-distinct : (ms : List (Origin Name)) → AreDistinct ms → AreDistinct (flat_map assumed_by ms)
assumed-distinct [] d = tt
assumed-distinct (o ∷ ms) d = go (assumed_by o) (λ e p. (assumed-is e o p).0) (short o) (assumed-distinct ms d.1)
  where
    one : (o : Origin Name) (r : Result Object (Fault Name)) → AreDistinct (taken_by o r)
    one o (Ok (theorem q)) = (λ m. m, tt)
    one o _ = tt

    short : (o : Origin Name) → AreDistinct (assumed_by o)
    short (Make words.Axiom os) = one (Make words.Axiom os) (value (Make words.Axiom os))
    short _ = tt

    go : (es : List Given) → ((e : Given) → IsMember e es → e.origin ≡ o) → AreDistinct es
        → AreDistinct (flat_map assumed_by ms) → AreDistinct (es ++ flat_map assumed_by ms)
    go [] h s r = r
    go (e ∷ es) h s r = (
      λ p. elim (IsMember-cases e es (flat_map assumed_by ms) p) [
        | inl a ↦ s.0 a
        | inr b ↦ (let x = member-flat_map e assumed_by ms b in
            d.0 (subst (λ z. IsMember z ms) (sym (assumed-is e x.0 x.2).0 ∙ h e (inl refl)) x.1))
      ],
      go es (λ f p. h f (inr p)) s.1 r,
    )

one-sequent : (r s : Result Object (Fault Name)) (a b : Sequent Name) → r ≡ s → r ≡ Ok (theorem a)
    → s ≡ Ok (theorem b) → a ≡ b
one-sequent r s a b e p q = cc

module _ (same : Origin Name → Origin Name → Bool) (same-is : (a b : Origin Name) → Decides (same a b) (a ≡ b))
    (keep used : Origin Name → Bool) where
  record AreCovered (ds : List (Origin Name)) (t : Text Name) : Type 0 where
    has : HasTheorems same keep used ds t
    covered : IsCovered t
    made : (d : Origin Name) → IsMember d ds → AreMade (parts d) t

  definitions-covered : (ms es : List Made) (t : Text Name) → AreWritable used es ms → AreCovered (origins_made es) t
      → AreCovered (origins_made (es ++ ms)) (w.emit_definitions same keep used (origins_made ms) t)
  definitions-covered [] es t h i = subst (λ (l : List Made). AreCovered (origins_made l) t) (sym (append-nil es)) i
  definitions-covered (m ∷ ms) es t h i =
      let f = h.0 in
      let ds : List (Origin Name) = origins_made es in
      let e : Origin Name = Define f.word f.operands in
      let ready : EachOutcomes (λ r. IsMember r t.stored) f.operands =
      outcomes-mono (IsTheoremOf used ds) (λ r. IsMember r t.stored) i.has f.operands f.settled in
      let done = definition-done same same-is keep used f.word f.operands t ready i.covered in
      let u : Text Name = w.emit_definition same keep used e t in
      let one : AreCovered (ds ++ e ∷ []) u = record {
        has = theorems-definition same keep used ds f.word f.operands t i.has;
        covered = done.covered;
        made = λ x m p q r. elim (IsMember-cases x ds (e ∷ []) m) [
          | inl a ↦ grown-made (parts x) t u (grows-definition same keep used e t) (i.made x a) p q r
          | inr b ↦ elim b [
            | inl c ↦ done.parts_made p (subst (λ z. IsMember p (parts z)) (sym c) q) r
            | inr c ↦
                elim c [ ]
          ]
        ];
      } in
      let here : AreCovered (ds ++ m.origin ∷ []) (w.emit_definition same keep used m.origin t) =
      subst (λ z. AreCovered (ds ++ z ∷ []) (w.emit_definition same keep used z t)) (sym f.is) one in
      let next : AreCovered (origins_made (es ++ m ∷ [])) (w.emit_definition same keep used m.origin t) =
      subst (λ l. AreCovered l (w.emit_definition same keep used m.origin t)) (sym (map-snoc es m)) here in
      subst (λ (l : List Made). AreCovered (origins_made l)
      (w.emit_definitions same keep used (origins_made ms) (w.emit_definition same keep used m.origin t)))
      (append_assoc es (m ∷ []) ms)
      (definitions-covered ms (es ++ m ∷ []) (w.emit_definition same keep used m.origin t) h.1 next)
    where
      map-snoc : (xs : List Made) (x : Made) → origins_made (xs ++ x ∷ []) ≡ origins_made xs ++ x.origin ∷ []
      map-snoc [] x = refl
      map-snoc (y ∷ xs) x = ap (λ l. y.origin ∷ l) (map-snoc xs x)

  exports-covered : (ds : List (Origin Name)) (es xs : List Export) (t : Text Name) → AreExports used ds xs es
      → AreCovered ds t → (o : Origin Name) → IsMember o (roots_of (roots_in es))
      → AreMade (parts o) (w.emit_exports same keep used (roots_in es) t)
  exports-covered ds [] xs t h i o m = elim m [ ]
  exports-covered ds (e ∷ es) xs t h i o m =
      let x = h.0 in
      let a : Text Name = w.emit same keep e.roots.theorem t in
      let b : Text Name = w.emit same keep e.roots.list a in
      let c : Text Name = w.emit same keep e.roots.term b in
      let u : Text Name = w.put same (Order words.Thm) c in
      let v : Text Name = w.emit_exports same keep used (roots_in es) u in
      let ga = grows-emit same keep e.roots.theorem t in
      let gb = grows-emit same keep e.roots.list a in
      let gc = grows-emit same keep e.roots.term b in
      let gu = grows-exports same keep used (roots_in es) u in
      let gcv = grows-trans c u v (grows-put same (Order words.Thm) c) gu in
      let gab = grows-trans t a b ga gb in
      let settle : (v : Text Name) (r : Origin Name) → Grows t v → EachOutcome (IsTheoremOf used ds) r → EachOutcome (λ y. IsMember y v.stored) r = λ v r g s. outcome-mono (IsTheoremOf used ds) (λ y. IsMember y v.stored) (λ y z. g.stored y (i.has y z)) r s in
      let da = emit-done same same-is keep e.roots.theorem t (settle t e.roots.theorem (grows-refl t) x.settled.0)
      i.covered in
      let db = emit-done same same-is keep e.roots.list a (settle a e.roots.list ga x.settled.1) da.covered in
      let dc = emit-done same same-is keep e.roots.term b (settle b e.roots.term gab x.settled.2) db.covered in
      let all : Grows t u = grows-trans t b u gab (grows-trans b c u gc (grows-put same (Order words.Thm) c)) in
      let next : AreCovered ds u =
      record {
        has = λ r y. all.stored r (i.has r y);
        covered = dc.covered;
        made = λ d y. grown-made (parts d) t u all (i.made d y);
      } in
      elim m [
        | inl p ↦ subst (λ z. AreMade (parts z) v) p
            (grown-made (parts e.roots.theorem) a v (grows-trans a b v gb (grows-trans b c v gc gcv)) da.parts_made)
        | inr n ↦ elim n [
          | inl p ↦ subst (λ z. AreMade (parts z) v) p
              (grown-made (parts e.roots.list) b v (grows-trans b c v gc gcv) db.parts_made)
          | inr k ↦ elim k [
            | inl p ↦ subst (λ z. AreMade (parts z) v) p (grown-made (parts e.roots.term) c v gcv dc.parts_made)
            | inr j ↦ exports-covered ds es (xs ++ e ∷ []) u h.2 next o j
          ]
        ]
      ]

  module _ (ms : List Made) (es : List Export) (needed : List (Origin Name))
      (one_each : AreDistinct (origins_made ms))
      (needs : IsNeededList same keep (origins_made ms ++ roots_of (roots_in es)) needed) (apart : AxiomsApart needed)
      (writable : AreWritable used [] ms) (exports : AreExports used (origins_made ms) [] es) where
    pub written-law : IsArticleOf ms es (w.written same keep used (origins_made ms) (roots_in es))
    written-law =
        let ds : List (Origin Name) = origins_made ms in
        let roots : List (Roots Name) = roots_in es in
        let begin : Text Name = w.beginning same keep used in
        let all : Text Name = w.written same keep used ds roots in
        let mid : Text Name = w.emit_definitions same keep used ds begin in
        let once = written-once same same-is keep used ds roots needed one_each needs in
        let clean : IsClean all.made =
        record { distinct = once.0; apart = λ a b v u x y. apart a b v u (once.1 a x) (once.1 b y) } in
        let ends = grows-exports same keep used roots mid in
        let clean_mid : IsClean mid.made = clean-front mid all ends clean in
        let first : AreRun same same-is keep used [] begin = record {
          wrote = record {
            now =
                record {
                  article = record {
                    stack = [];
                    dictionary = fresh.article.dictionary;
                    exports = [];
                    count = 2;
                    version = version_6;
                  };
                  run = fresh.run;
                };
            runs = refl;
            marks_are = refl;
            versioned = refl;
            stack_is = refl;
            exports = refl;
            dictionary = λ k o p. absurd (cc);
            assumptions = refl;
            definitions =
                refl;
          };
          defined = refl;
          has = λ r x. elim x.of [ ];
        } in
        let run = definitions-run same same-is keep used ms [] begin writable clean_mid first in
        let last = exports-run same same-is keep used ds es [] mid exports run.has clean run.wrote in
        let begins : AreCovered [] begin =
        record { has = λ r x. elim x.of [ ]; covered = λ x p. elim p [ ]; made = λ d p. elim p [ ] } in
        let covered : AreCovered ds mid = definitions-covered ms [] begin writable begins in
        let made : (o : Origin Name) → IsNeeded ds (roots_of roots) o → IsMark o → IsMember o all.made = λ o n k.
        elim (IsMember-cases n.0 ds (roots_of roots) n.1) [
          | inl a ↦ grown-made (parts n.0) mid all ends (covered.made n.0 a) o n.2 k
          | inr b ↦ exports-covered ds es [] mid exports covered n.0 b o n.2 k
        ] in
        let need : (o : Origin Name) → IsMember o all.made → IsNeeded ds (roots_of roots) o =
        λ o p. needs.only o (once.1 o p) in
        let by : (e : Given) → IsMember e last.now.run.assumptions → (o : Origin Name) × IsMember o all.made × IsMember e (assumed_by o) = λ e p. member-flat_map e assumed_by all.made (subst (λ l. IsMember e l) last.assumptions p) in
        record {
          now = last.now;
          runs = last.runs;
          exports = last.exports;
          definitions = last.definitions ∙ defined-exports same keep used roots mid ∙ run.defined;
          assumed = λ e p. let b = by e p in let t = assumed-is e b.0 b.2 in (
            subst (λ z. IsNeeded ds (roots_of roots) z) (sym t.0) (need b.0 b.1),
            subst IsAxiom (sym t.0) t.1,
            ap
                value t.0 ∙ t.2,
          );
          assumes = λ o q n x e. subst (λ l. IsMember (record { sequent = q; origin = o }) l) (sym last.assumptions)
              (flat_map-member (record { sequent = q; origin = o }) o assumed_by all.made (made o n (axiom-mark o x))
              (axiom-assumed o q x e));
          once = subst (λ l. AreDistinct l) (sym last.assumptions) (assumed-distinct all.made once.0);
          one = λ e f p q h.
              let a = by e p in let b = by f q in let t = assumed-is e a.0 a.2 in let u = assumed-is f b.0 b.2 in
              let same_origin : a.0 ≡ b.0 =
              apart a.0 b.0 e.sequent f.sequent (once.1 a.0 a.1) (once.1 b.0 b.1) t.1 u.1 t.2 u.2 h in
              let sequents : e.sequent ≡ f.sequent =
              one-sequent (value a.0) (value b.0) e.sequent f.sequent (ap value same_origin) t.2 u.2 in
              let origin : e.origin ≡ f.origin = t.0 ∙ same_origin ∙ sym u.0 in
              λ i. record { sequent = sequents i; origin = origin i };
          distinct = subst (λ l. AreDistinct l) (sym last.marks_are) once.0;
          needed = λ o p. need o (subst (λ l. IsMember o l) last.marks_are p);
        }
