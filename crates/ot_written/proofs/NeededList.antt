-- The needed origins, for each way to store that stores enough.
use Rattle.std.proofs.Common.{◌≡◌, suc, ◌≤◌, inl, inr, Bool, true, false, cond, List}
use Rattle.std.proofs.Common.{[], ◌∷◌, ◌++◌, refl, sym, subst, ◌∙◌, true≢false, arith}
use Rattle.std.specs.Bool.{Decides}
use Rattle.std.specs.Prelude.{nat_le}
use Rattle.std.proofs.lemmas.Bool.Decides.{nat_tests}
use Rattle.std.specs.List.{flat_map}
use Rattle.ot_logic.specs.Lists.{IsMember}
use Rattle.ot_trace.specs.Origins.{Origin, Number, Named, Make, Define, Outcome, parts}
use Rattle.ot_written.specs.Needed.{needed_definitions, needed_origins}
use Rattle.ot_trace.specs.Uses.{count}
use Rattle.ot_written.specs.Laws.{StoredEnoughLaw}
use Rattle.ot_written.specs.Uses.{use_count, IsEnough}
use Rattle.ot_written.proofs.Settled.{stores, IsMade, IsNeededList, IsDefine}
use Rattle.ot_written.proofs.Filters.{bool_cases, member-flat_map, flat_map-member}
use Rattle.ot_written.proofs.Parts.{part-self, part-operand}
use Rattle.ot_written.proofs.Counting.{count-append}
use Rattle.ot_written.proofs.NeededDefinitions.{firsts-to, firsts-from, needed-reached}

module _ {N : Type 0} (same : Origin N → Origin N → Bool)
    (same-is : (a b : Origin N) → Decides (same a b) (a ≡ b)) where
  count-none : (x : Origin N) (xs : List (Origin N)) → ((y : Origin N) → IsMember y xs → ¬ (x ≡ y))
      → count same x xs ≡ 0
  count-none x [] h = refl
  count-none x (y ∷ xs) h = go (same x y) refl (count-none x xs (λ z m. h z (inr m)))
    where
      go : (b : Bool) → same x y ≡ b → count same x xs ≡ 0 → cond b (suc (count same x xs)) (count same x xs) ≡ 0
      go true e r = absurd (h y (inl refl) ((same-is x y).0 e))
      go false e r = r

  define-made : (o d : Origin N) → IsMade o → IsDefine d → ¬ (o ≡ d)
  define-made o d made def e = go o made (subst IsDefine (sym e) def)
    where
      go : (o : Origin N) → IsMade o → IsDefine o → ⊥
      go (Define c os) m d = m
      go (Number k) m d = d
      go (Named k) m d = d
      go (Make c os) m d = d
      go (Outcome j x) m d = d

  stores-keep : (keep : Origin N → Bool) (o : Origin N) → IsMade o → stores same keep o ≡ keep o
  stores-keep keep (Number k) m = elim m [ ]
  stores-keep keep (Named n) m = refl
  stores-keep keep (Make c os) m = refl
  stores-keep keep (Define c os) m = elim m [ ]
  stores-keep keep (Outcome j d) m = elim m [ ]

  module _ (keep : Origin N → Bool) (roots ds : List (Origin N)) where
    abbrev found : List (Origin N)
    found = needed_definitions same roots ds

    abbrev needed : List (Origin N)
    needed = needed_origins same roots ds

    pub needed-list : ((d : Origin N) → IsMember d ds → IsDefine d) → IsEnough same roots ds keep
        → IsNeededList same keep (found ++ roots) needed
    needed-list defines enough = record {
      only = λ o m. member-flat_map o parts (found ++ roots)
          (firsts-to same same-is o (flat_map parts (found ++ roots)) m);
      has_roots = λ o m. firsts-from same same-is o (flat_map parts (found ++ roots))
          (flat_map-member o o parts (found ++ roots) m (part-self o));
      closed = λ o p m n. let r =
          member-flat_map o parts (found ++ roots) (firsts-to same same-is o (flat_map parts (found ++ roots)) m) in
          firsts-from same same-is p (flat_map parts (found ++ roots))
          (flat_map-member p r.0 parts (found ++ roots) r.1 (part-operand r.0 o p r.2 n));
      once = λ o m made e.
          let none : count same o found ≡ 0 =
          count-none o found
          (λ d i. define-made o d made (defines d (needed-reached same same-is roots ds d i).0)) in
          let both = count-append same same-is o found roots in
          elim (bool_cases (nat_le 2 (use_count same roots ds o))) [
            | inl two ↦ (let h : 2 ≤ use_count same roots ds o = grind (arith, nat_tests) in
                absurd (true≢false (sym (enough o m h) ∙ sym (stores-keep keep o made) ∙ e)))
            | inr few ↦ (let h : use_count same roots ds o ≤ 1 = grind (arith, nat_tests) in omega arith)
          ];
    }

pub stored-enough-law : {N : Type 0} → StoredEnoughLaw N
stored-enough-law same roots ds = (λ o m h. grind (arith, nat_tests), λ o m h. refl)
