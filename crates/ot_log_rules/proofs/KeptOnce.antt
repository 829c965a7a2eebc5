-- Sequents that are kept once, by their keys.
use Rattle.std.specs.Prelude.{if◌then◌else◌}
use Rattle.std.specs.Bool.{Decides}
use Rattle.std.specs.Cmp.Lexicographic.{pointwise}
use Rattle.std.specs.List.{All, list_any}
use Rattle.std.proofs.Common.{◌≡◌, ℕ, Bool, true, false, ◌||◌, List, [], ◌∷◌}
use Rattle.std.proofs.Common.{◌++◌, map, nat_eq, refl, sym, ap, subst, ◌∙◌}
use Rattle.std.proofs.lemmas.Bool.Decides.{Decides-like, Decides-and, Decides-eqb, same_from_decides}
use Rattle.std.proofs.lemmas.List.{map-append}
use Rattle.std.proofs.lemmas.List.Elements.{All-head, All-tail}
use Rattle.std.proofs.lemmas.Slice.Eq.{slice_eq-Decides}
use Rattle.ot_logic.specs.Naming.{names}
use Rattle.ot_logic.specs.Lists.{IsMember, IsPart, IsSameSet}
use Rattle.ot_logic.specs.Table.{IsInjective}
use Rattle.ot_logic.specs.Hol.{same_sequent}
use Rattle.ot_laws.proofs.Tests.{tells_names}
use Rattle.ot_laws.proofs.Hypotheses.{same_sequent-is}
use Rattle.ot_log_format.specs.State.{kept_once}
use Rattle.ot_log_nodes.specs.Items.{Item, HasTerm, term_at}
use Rattle.ot_log_nodes.proofs.ItemLemmas.{term-one}
use Rattle.ot_log_rules.specs.Statements.{terms_at, sequent_at, HasStatement}
use Rattle.ot_log_rules.specs.Keeping.{parts_of, parts_at, key_eq}
use Rattle.ot_log_rules.specs.declared.kept.Key.{Key}
use Rattle.ot_log_rules.specs.declared.statement.Statement.{Statement}
use Rattle.ot_log_rules.proofs.Ordered.{ordered-same, same-ordered}
use Rattle.ot_logic.proofs.Members.{All-at_member, IsMember-map, IsMember-map_back}

-- keys are one where their parts are
key-parts : (k l : Key) → Decides (key_eq k l) (parts_of k ≡ parts_of l)
key-parts k l =
    Decides-like (key_eq k l) (λ p i. (p.0 i, p.1 i)) (λ e. (ap (λ x. x.0) e, ap (λ x. x.1) e))
    (Decides-and (pointwise nat_eq k.hyps.items l.hyps.items) (nat_eq k.concl l.concl)
    (slice_eq-Decides Decides-eqb k.hyps.items l.hyps.items (pointwise nat_eq k.hyps.items l.hyps.items) refl)
    (Decides-eqb k.concl l.concl))

module _ (ts : List Item) (one : IsInjective ts) where
  part-terms : (xs ys : List ℕ) → All (HasTerm ts) xs → All (HasTerm ts) ys → IsPart (terms_at ts xs) (terms_at ts ys)
      → IsPart xs ys
  part-terms xs ys g h p i m =
      let r = IsMember-map_back (term_at ts) (term_at ts i) ys
      (p (term_at ts i) (IsMember-map (term_at ts) i xs m)) in
      let same = term-one ts one r.0 i (All-at_member (HasTerm ts) ys r.0 h r.1) (All-at_member (HasTerm ts) xs i g m)
      r.2 in
      subst (λ j. IsMember j ys) same r.1

  terms-part : (xs ys : List ℕ) → IsPart xs ys → IsPart (terms_at ts xs) (terms_at ts ys)
  terms-part xs ys p t m =
      let r = IsMember-map_back (term_at ts) t xs m in
      subst (λ u. IsMember u (terms_at ts ys)) r.2 (IsMember-map (term_at ts) r.0 ys (p r.0 r.1))

  -- statements with the same parts are one sequent
  parts-same : (q r : Statement) → HasStatement ts q → HasStatement ts r
      → Decides (same_sequent names (sequent_at ts q) (sequent_at ts r)) (parts_at r ≡ parts_at q)
  parts-same q r g h = Decides-like (same_sequent names (sequent_at ts q) (sequent_at ts r)) to back
      (same_sequent-is names tells_names (sequent_at ts q) (sequent_at ts r))
    where
      to : IsSameSet (terms_at ts q.hyps.items) (terms_at ts r.hyps.items) × (term_at ts q.concl ≡ term_at ts r.concl)
          → parts_at r ≡ parts_at q
      to p =
          let set : IsSameSet r.hyps.items q.hyps.items =
          record {
            to = part-terms r.hyps.items q.hyps.items h.hyps g.hyps p.0.back;
            back = part-terms q.hyps.items r.hyps.items g.hyps h.hyps p.0.to;
          } in
          let concl = term-one ts one r.concl q.concl h.concl g.concl (sym p.1) in
          λ i. (ordered-same r.hyps.items q.hyps.items set i, concl i)

      back : parts_at r ≡ parts_at q → IsSameSet (terms_at ts q.hyps.items) (terms_at ts r.hyps.items)
          × (term_at ts q.concl ≡ term_at ts r.concl)
      back e =
          let set = same-ordered r.hyps.items q.hyps.items (ap (λ p. p.0) e) in (
            record {
              to = terms-part q.hyps.items r.hyps.items set.back;
              back = terms-part r.hyps.items q.hyps.items set.to;
            },
            ap (λ p. term_at ts p.1) (sym e),
          )

  -- a look-up of a key is one of its sequent
  pub kept-before : (qs : List Statement) (ks : List Key) (k : Key) (q : Statement) → All (HasStatement ts) qs
      → HasStatement ts q → map parts_of ks ≡ map parts_at qs → parts_of k ≡ parts_at q
      → list_any (key_eq k) ks ≡ list_any (λ r. same_sequent names r (sequent_at ts q)) (map (sequent_at ts) qs)
  kept-before [] [] k q all has keys is = refl
  kept-before [] (l ∷ ks) k q all has keys is = cc
  kept-before (r ∷ qs) [] k q all has keys is = cc
  kept-before (r ∷ qs) (l ∷ ks) k q all has keys is =
      let here : parts_of l ≡ parts_at r = cc in
      let rest : map parts_of ks ≡ map parts_at qs = cc in
      let same : key_eq k l ≡ same_sequent names (sequent_at ts r) (sequent_at ts q) =
      same_from_decides (key_eq k l) (same_sequent names (sequent_at ts r) (sequent_at ts q))
      (Decides-like (key_eq k l) (λ e. sym is ∙ e ∙ here) (λ e. is ∙ e ∙ sym here) (key-parts k l))
      (parts-same r q (All-head (HasStatement ts) r qs all) has) in
      let tail = kept-before qs ks k q (All-tail (HasStatement ts) r qs all) has rest is in
      λ i. same i || tail i

  -- one that is there is kept; one that is new goes to the end
  pub kept-there : (qs : List Statement) (q : Statement) (b : Bool)
      → b ≡ list_any (λ r. same_sequent names r (sequent_at ts q)) (map (sequent_at ts) qs) → b ≡ true
      → map (sequent_at ts) qs ≡ kept_once names (map (sequent_at ts) qs) (sequent_at ts q)
  kept-there qs q b e so =
      sym (ap (λ c. if c then map (sequent_at ts) qs else map (sequent_at ts) qs ++ sequent_at ts q ∷ [])
      (sym e ∙ so))

  pub kept-new : (qs us : List Statement) (q r : Statement) (b : Bool) → us ≡ qs ++ r ∷ []
      → sequent_at ts r ≡ sequent_at ts q → b ≡ list_any (λ r. same_sequent names r (sequent_at ts q))
      (map (sequent_at ts) qs) → b ≡ false → map (sequent_at ts) us ≡ kept_once names (map (sequent_at ts) qs)
      (sequent_at ts q)
  kept-new qs us q r b added same e contrary =
      ap (map (sequent_at ts)) added ∙ map-append (sequent_at ts) qs (r ∷ [])
      ∙ ap (λ x. map (sequent_at ts) qs ++ x ∷ []) same
      ∙ sym (ap (λ c. if c then map (sequent_at ts) qs else map (sequent_at ts) qs ++ sequent_at ts q ∷ [])
      (sym e ∙ contrary))
