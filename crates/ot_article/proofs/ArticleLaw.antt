-- The laws.
use Rattle.std.proofs.Common.{◌≡◌, ℕ, zero, suc, inl, inr, Bool, true, List, [], ◌∷◌, ◌++◌}
use Rattle.std.proofs.Common.{map, slice_get, Some, refl, sym, ap, subst, ◌∙◌, arith}
use Rattle.std.specs.Prelude.{ℤ}
use Rattle.std.specs.Bool.{Decides}
use Rattle.std.specs.List.{All, flat_map}
use Rattle.ot_logic.specs.Names.{Name}
use Rattle.ot_logic.specs.Naming.{names}
use Rattle.ot_logic.specs.Hol.{same_sequent}
use Rattle.ot_logic.specs.Lists.{IsMember, AreDistinct}
use Rattle.ot_scan.specs.Words.{is_in_range}
use Rattle.ot_trace.specs.Origins.{Origin, Number, Named, Make, Define, Outcome, parts}
use Rattle.ot_trace.specs.Reach.{IsReached}
use Rattle.ot_written.specs.Needed.{needed_definitions, needed_origins}
use Rattle.ot_written.specs.Written.{Text, written}
use Rattle.ot_written.specs.Uses.{IsEnough, article_by, has_use}
use Rattle.ot_written.proofs.Members.{member-get}
use Rattle.ot_written.proofs.Filters.{member-flat_map, flat_map-member}
use Rattle.ot_written.proofs.Settled.{IsNeededList}
use Rattle.ot_written.proofs.NeededDefinitions.{firsts-to, firsts-from, needed-reached, reached-needed}
use Rattle.ot_written.proofs.NeededDefinitions.{needed-distinct, origin-reached, reached-origin, reached-among}
use Rattle.ot_written.proofs.NeededList.{needed-list}
use Rattle.ot_machine.specs.Objects.{list, term, theorem}
use Rattle.ot_machine.specs.States.{Export, Given, Made, RunState, no_context, fresh_run}
use Rattle.ot_machine.specs.Places.{as_term}
use Rattle.ot_machine.specs.Lawful.{IsLawfulRun, IsLawfulExport, StatesSequent, run_basis, AreApart, RestsOn}
use Rattle.ot_machine.specs.LawfulLaws.{FreshIsLawful, CanBeNamed, LinesAreLawful}
use Rattle.ot_machine.specs.Writable.{IsWritable}
use Rattle.ot_machine.specs.Marks as marks
use Rattle.ot_machine.specs.Marks.{fresh}
use Rattle.ot_article.specs.Article.{origins_made, export_roots, needed_made, WrittenArticleLaw, MinimisedLaw}
use Rattle.ot_article.proofs.LineRun.{IsSayable, AreReadable}
use Rattle.ot_article.proofs.Writable.{roots_in, IsNeeded, IsArticleOf, AxiomsApart}
use Rattle.ot_article.proofs.Bytes.{bytes-run}
use Rattle.ot_article.proofs.Readable.{AreSayable, written-readable}
use Rattle.ot_article.proofs.KeptDefinitions.{made-origins}
use Rattle.ot_article.proofs.Rests.{reached-apart, reached-rests, is-define, at-of}
use Rattle.ot_article.proofs.Fewer.{definition-less}
use Rattle.ot_article.proofs.Numberless.{numberless, defined-numberless, each-pure, term-pure}
use Rattle.ot_article.proofs.FromLawful.{are-writable, are-exports, roots-rest, roots-exports}
use Rattle.ot_article.proofs.Whole.{written-law}
use Rattle.ot_logic.proofs.Members.{All-at_member, IsMember-cases}

module _ (IsNamed : Name → Type 0) (same : Origin Name → Origin Name → Bool)
    (same-is : (a b : Origin Name) → Decides (same a b) (a ≡ b)) (r : RunState) (es : List Export)
    (keep : Origin Name → Bool) (lawful : IsLawfulRun IsNamed r)
    (exports : All (IsLawfulExport (run_basis IsNamed r)) es) (stated : All StatesSequent es)
    (apart : AreApart (λ (e : Export). e.sequent) es)
    (enough : IsEnough same (export_roots es) (origins_made r.definitions) keep) where
  abbrev roots : List (Origin Name)
  roots = export_roots es

  abbrev ds : List (Origin Name)
  ds = origins_made r.definitions

  abbrev found : List (Origin Name)
  found = needed_definitions same roots ds

  abbrev needed : List (Origin Name)
  needed = needed_origins same roots ds

  abbrev ms : List Made
  ms = needed_made same roots r.definitions

  pub its : origins_made ms ≡ found
  its = made-origins same same-is roots r.definitions

  axioms-apart : AxiomsApart needed
  axioms-apart a b p q ma mb xa xb va vb h =
      reached-apart IsNamed r lawful roots (roots-rest same same-is IsNamed r lawful es exports stated apart) a b p q
      (origin-reached same same-is roots ds a ma) (origin-reached same same-is roots ds b mb) xa xb va vb h

  list-is : IsNeededList same keep (origins_made ms ++ roots) needed
  list-is = subst (λ l. IsNeededList same keep (l ++ roots) needed) (sym its)
      (needed-list same same-is keep roots ds (is-define IsNamed r lawful) enough)

  pub article-is : IsArticleOf ms es (article_by same keep ds (roots_in es))
  article-is = subst (λ l. IsArticleOf ms es (written same keep (has_use same roots ds) l (roots_in es))) its
      (written-law same same-is keep (has_use same roots ds) ms es needed
      (subst AreDistinct (sym its) (needed-distinct same same-is roots ds)) list-is axioms-apart
      (are-writable same same-is IsNamed r lawful roots)
      (are-exports same same-is IsNamed r lawful es exports stated apart))

  pub to-origin : (o : Origin Name) → IsNeeded (origins_made ms) roots o → IsMember o needed
  to-origin o n = firsts-from same same-is o (flat_map parts (found ++ roots))
      (flat_map-member o n.0 parts (found ++ roots) (subst (λ l. IsMember n.0 (l ++ roots)) its n.1) n.2)

  pub from-origin : (o : Origin Name) → IsMember o needed → IsNeeded (origins_made ms) roots o
  from-origin o m = let x =
      member-flat_map o parts (found ++ roots) (firsts-to same same-is o (flat_map parts (found ++ roots)) m) in
      (x.0, subst (λ l. IsMember x.0 (l ++ roots)) (sym its) x.1, x.2)

-- ---- as bytes

sayable-of : (o : Origin Name) (r : RunState) → RestsOn (run_basis IsWritable r) o
    → ((k : ℤ) → o ≡ Number k → is_in_range k ≡ true) → IsSayable o
sayable-of (Number k) r h n = n k refl
sayable-of (Named n) r h k = h
sayable-of (Make c os) r h k = tt
sayable-of (Define c os) r h k = tt
sayable-of (Outcome j d) r h k = tt

-- no number is needed
needed-numberless : (IsNamed : Name → Type 0) (same : Origin Name → Origin Name → Bool)
    (same-is : (a b : Origin Name) → Decides (same a b) (a ≡ b)) (r : RunState) (es : List Export)
    → IsLawfulRun IsNamed r → All (IsLawfulExport (run_basis IsNamed r)) es
    → (k : ℤ) → ¬ (IsMember (Number k) (needed_origins same (export_roots es) (origins_made r.definitions)))
needed-numberless IsNamed same same-is r es lawful exports k m =
    let its_roots : List (Origin Name) = export_roots es in
    let its_ds : List (Origin Name) = origins_made r.definitions in
    let its_found : List (Origin Name) = needed_definitions same its_roots its_ds in
    let x = member-flat_map (Number k) parts (its_found ++ its_roots)
    (firsts-to same same-is (Number k) (flat_map parts (its_found ++ its_roots)) m) in
    elim (IsMember-cases x.0 its_found its_roots x.1) [
      | inl f ↦ (let a = at-of IsNamed r lawful x.0 (needed-reached same same-is its_roots its_ds x.0 f).0 in
          defined-numberless a.made.origin a.made.definition k
          (definition-less [] _ (λ y z. elim z [ ]) a.made.origin a.made.definition a.lawful_is.accepted)
          (subst (λ z. IsMember (Number k) (parts z)) (sym a.origin_is) x.2))
      | inr y ↦ roots-exports (λ o. ¬ (IsMember (Number k) (parts o))) es
          (λ e n. let l = All-at_member (IsLawfulExport (run_basis IsNamed r)) es e exports n in (
            numberless e.roots.theorem (theorem e.sequent) k l.proved.value_is tt,
            numberless e.roots.list (list l.objects) k l.listed.value_is
                (each-pure as_term term-pure l.objects l.hyps l.are_terms),
            numberless e.roots.term (term l.concl) k l.stated.value_is tt,
          )) x.0 y x.2
    ]

apart-of : (gs : List Given) → AreDistinct gs
    → ((g h : Given) → IsMember g gs → IsMember h gs → same_sequent names g.sequent h.sequent ≡ true → g ≡ h)
    → AreApart (λ (g : Given). g.sequent) gs
apart-of gs d one i j x y p q h =
    place gs d i j x (p) (q ∙ ap Some (sym (one x y (member-get x gs i p) (member-get y gs j q) h)))
  where
    place : (gs : List Given) → AreDistinct gs → (i j : ℕ) (x : Given) → slice_get gs i ≡ Some x
        → slice_get gs j ≡ Some x → i ≡ j
    place [] d i j x p q = absurd (cc)
    place (g ∷ gs) d zero zero x p q = refl
    place (g ∷ gs) d zero (suc j) x p q =
        absurd (d.0 (subst (λ z. IsMember z gs) (let e : x ≡ g = cc in e) (member-get x gs j q)))
    place (g ∷ gs) d (suc i) zero x p q =
        absurd (d.0 (subst (λ z. IsMember z gs) (let e : x ≡ g = cc in e) (member-get x gs i p)))
    place (g ∷ gs) d (suc i) (suc j) x p q = ap suc (place gs d.1 i j x p q)

-- the roots of exports, one after another
roots-are : (es : List Export) → export_roots es ≡ marks.roots_of es
roots-are [] = refl
roots-are (e ∷ es) = ap (λ l. e.roots.theorem ∷ e.roots.list ∷ e.roots.term ∷ l) (roots-are es)

pub written-article-law : WrittenArticleLaw
written-article-law same same-is r es keep max lawful exports stated apart enough fits small =
    let roots : List (Origin Name) = export_roots es in
    let ds : List (Origin Name) = origins_made r.definitions in
    let found : List (Origin Name) = needed_definitions same roots ds in
    let text : Text Name = article_by same keep ds (map (λ (e : Export). e.roots) es) in
    let a = article-is IsWritable same same-is r es keep lawful exports stated apart enough in
    let to = to-origin IsWritable same same-is r es keep lawful exports stated apart enough in
    let from = from-origin IsWritable same same-is r es keep lawful exports stated apart enough in
    let its_origins = its IsWritable same same-is r es keep lawful exports stated apart enough in
    let say : (o : Origin Name) → IsMember o (found ++ roots) → AreSayable o = λ o m p n.
    let need : IsMember p (needed_origins same roots ds) = firsts-from same same-is p
    (flat_map parts (found ++ roots)) (flat_map-member p o parts (found ++ roots) m n) in
    let rests =
    reached-rests IsWritable r lawful roots (roots-rest same same-is IsWritable r lawful es exports stated apart)
    p (origin-reached same same-is roots ds p need) in
    sayable-of p r rests
    (λ k e. absurd (needed-numberless IsWritable same same-is r es lawful exports k
    (subst (λ z. IsMember z (needed_origins same roots ds)) e need))) in
    let readable : AreReadable text.lines = written-readable same same-is keep (has_use same roots ds) found
    (map (λ (e : Export). e.roots) es) say (omega arith) in
    let whole = bytes-run text.lines max fresh a.now readable fits a.runs in
    record {
      now = a.now;
      ends = whole.ends;
      exports = a.exports;
      definitions = a.definitions;
      assumed = λ g. (
        λ m. let x = a.assumed g m in (origin-reached same same-is roots ds g.origin (to g.origin x.0), x.1, x.2),
        λ x. a.assumes g.origin g.sequent (from g.origin (reached-origin same same-is roots ds g.origin x.0)) x.1 x.2,
      );
      once = a.once;
      apart = apart-of a.now.run.assumptions a.once a.one;
      lean = record {
        last = a.now;
        ends = whole.ends;
        distinct = subst AreDistinct (sym whole.marks_are) a.distinct;
        needed = λ o m.
            let reached : IsReached roots ds o = origin-reached same same-is roots ds o
            (to o (a.needed o (subst (λ l. IsMember o l) whole.marks_are m))) in
            let among : IsReached roots found o =
            reached-among same same-is roots ds found (reached-needed same same-is roots ds) o reached in
            let own : IsReached roots (origins_made a.now.run.definitions) o =
            subst (λ l. IsReached roots l o) (sym its_origins ∙ ap origins_made (sym a.definitions)) among in
            subst (λ l. IsReached l (origins_made a.now.run.definitions) o)
            (roots-are es ∙ ap marks.roots_of (sym a.exports)) own;
      };
    }

pub minimised-of : FreshIsLawful IsWritable → CanBeNamed IsWritable → LinesAreLawful IsWritable → MinimisedLaw
minimised-of fresh_is named lines same same-is s keep max leads enough fits small =
    let start = fresh_is.1 fresh_run fresh_is.0 in
    let kept = lines no_context fresh s (record { constants = λ n h. h; type_ops = λ n h. h }) named
    (λ k d h. absurd (omega arith)) start leads in
    let lawful = kept.0 in
    written-article-law same same-is s.run s.article.exports keep max lawful.run lawful.article.exports
    lawful.article.stated lawful.article.apart enough fits small
