-- The images of the hypotheses of a theorem, one after another, while the tables grow.
use Rattle.std.specs.Prelude.{Ok, Err}
use Rattle.std.specs.List.{All}
use Rattle.std.proofs.Common.{◌≡◌, ℕ, ◌+◌, ◌<◌, false, List, [], ◌∷◌, ◌++◌, map, length, get_or}
use Rattle.std.proofs.Common.{drop, append_assoc, refl, sym, ap, ◌∙◌, subst, inl, arith}
use Rattle.std.proofs.lemmas.List.{map-append}
use Rattle.std.proofs.lemmas.List.Elements.{All-push}
use Rattle.ot_logic.specs.Lists.{IsMember}
use Rattle.ot_logic.specs.Names.{Name}
use Rattle.ot_logic.specs.Trees.{Tm}
use Rattle.ot_logic.specs.Faults.{Nesting}
use Rattle.ot_logic.specs.Hol.{is_shallow, once_each}
use Rattle.ot_logic.specs.NamedTerms.{nameless}
use Rattle.ot_logic.specs.Naming.{numbers, IsNameTable}
use Rattle.ot_logic.specs.Rules.{subst_rule}
use Rattle.ot_laws.proofs.Hypotheses.{IsMember-once_each}
use Rattle.ot_laws.proofs.Tests.{tells_numbers}
use Rattle.ot_term.specs.Term.{TermTable}
use Rattle.ot_term.specs.TermTable.{term_at, Grows, IsTermTable}
use Rattle.ot_subst.specs.Substitution.{Substitution, type_part, variable_part, substituted, IsSubstOf}
use Rattle.ot_subst.specs.Walk.{HasForm, IsLater}
use Rattle.ot_subst.specs.declared.fault.SubstFault.{SubstFault}
use Rattle.ot_subst.specs.declared.fault.SubstFault.TheVariants as faults
use Rattle.ot_subst.proofs.Growing.{IsLater-trans, becomes_at-Grows}
use Rattle.ot_kernel.specs.Answers.{RefusesRule}
use Rattle.ot_kernel.specs.declared.theorem.Theorem.{Theorem}
use Rattle.ot_kernel.specs.Numbered.{tm_at, tms_at, numbered_sequent, Derives}
use Rattle.ot_kernel.specs.Spelled.{IsInside}
use Rattle.ot_kernel.specs.Refusals.{of_subst}
use Rattle.ot_kernel.specs.declared.fault.RuleFault.TheVariants as rules
use Rattle.ot_kernel.proofs.EquationRules.{refuses_rule, memory_refuses}
use Rattle.ot_kernel.proofs.Equating.{tms_at-Grows}
use Rattle.ot_kernel.proofs.ByNumber.{within-derives, deep_conclusion, deep_hypotheses, deep_member}
use Rattle.ot_kernel.proofs.Namings.{map-drop}
use Rattle.ot_logic.proofs.Members.{IsMember-right}

-- what holds of the images of the terms before the k-th
pub record AreImages (ns ms : List Name) (t u : TermTable) (s : Substitution) (ids : List ℕ) (k : ℕ)
    (is : List ℕ) : Type 0 where
  pub later : IsLater ns ms t u
  pub name_table : IsNameTable ms
  pub fits : IsSubstOf u s
  pub made : tms_at u.terms is ++ map (substituted t s) (tms_at t.terms (drop k ids))
      ≡ map (substituted t s) (tms_at t.terms ids)
  pub within : All (λ i. i < length u.terms) is

-- a substitution one of whose images passes the limit
too_deep : (t : TermTable) (s : Substitution) (hyps : List (Tm ℕ)) (concl x : Tm ℕ)
    → IsMember x (map (substituted t s) hyps) → is_shallow numbers x ≡ false
    → subst_rule numbers (type_part t s) (variable_part t s) (record { hyps = hyps; concl = concl }) ≡ Err Nesting
too_deep t s hyps concl x m p =
    let images = map (substituted t s) hyps in
    deep_hypotheses (record { hyps = once_each numbers images; concl = substituted t s concl })
    (deep_member x (once_each numbers images) ((IsMember-once_each numbers tells_numbers x images).1 m) p)

module _ (ns ms : List Name) (t u : TermTable) (s : Substitution) (ids : List ℕ) (k : ℕ) (is : List ℕ)
    (a : AreImages ns ms t u s ids k is) (subst_of : IsSubstOf t s) (i : ℕ) (h : k < length ids)
    (e : i ≡ get_or ids k i) (inside : All (λ i. i < length t.terms) ids) where
  abbrev F : Tm ℕ → Tm ℕ
  F = substituted t s

  old : i < length t.terms
  old = subst (λ j. j < length t.terms) (sym e) (inside k i h)

  -- the image over the table that has grown is that over the first
  same_image : substituted u s (nameless numbers (term_at u.terms i)) ≡ F (tm_at t.terms i)
  same_image = becomes_at-Grows t u a.later.grows s subst_of [] (λ q m. absurd m) i old

  rest : map F (tms_at t.terms (drop k ids)) ≡ F (tm_at t.terms i) ∷ map F (tms_at t.terms (drop (k + 1) ids))
  rest = ap (map F) (map-drop (tm_at t.terms) ids k i h e)

  -- one image more
  pub image_added : (ls : List Name) (v : TermTable) (id : ℕ) (js : List ℕ) → js ≡ is ++ id ∷ [] → IsLater ms ls u v
      → IsNameTable ls → IsSubstOf v s → HasForm v id (substituted u s (nameless numbers (term_at u.terms i)))
      → AreImages ns ls t v s ids (k + 1) js
  image_added ls v id js pushed l names fits form = subst (AreImages ns ls t v s ids (k + 1)) (sym pushed) (record {
    later = IsLater-trans ns ms ls t u v a.later l;
    name_table = names;
    fits = fits;
    made =
        let ended = map F (tms_at t.terms (drop (k + 1) ids)) in
        ap (λ xs. xs ++ ended) (map-append (tm_at v.terms) is (id ∷ []))
        ∙ append_assoc (tms_at v.terms is) (tm_at v.terms id ∷ []) ended
        ∙ (λ j. tms_at-Grows u v l.grows is a.within j ++ (form.form ∙ same_image) j ∷ ended)
        ∙ ap (λ xs. tms_at u.terms is ++ xs) (sym rest)
        ∙ a.made;
    within = All-push (λ i. i < length v.terms) is id (λ n d q. omega (arith, a.within n d q, l.grows.terms.longer))
        form.within;
  })

  -- no image
  pub image_refused : (concl : Tm ℕ) (fault : SubstFault)
      → (fault ≡ faults.Nesting → is_shallow numbers (substituted u s (nameless numbers (term_at u.terms i))) ≡ false)
      → (fault ≡ faults.NotRedex → ⊥)
      → RefusesRule (of_subst fault)
      (subst_rule numbers (type_part t s) (variable_part t s)
      (record { hyps = tms_at t.terms ids; concl = concl }))
  image_refused concl faults.Nesting deep never =
      let member : IsMember (F (tm_at t.terms i)) (map F (tms_at t.terms ids)) =
      subst (IsMember (F (tm_at t.terms i))) a.made
      (IsMember-right (F (tm_at t.terms i)) (tms_at u.terms is) _
      (subst (IsMember (F (tm_at t.terms i))) (sym rest) (inl refl))) in
      refuses_rule rules.Nesting Nesting
      (subst_rule numbers (type_part t s) (variable_part t s)
      (record { hyps = tms_at t.terms ids; concl = concl })) (λ _. refl)
      (too_deep t s (tms_at t.terms ids) concl (F (tm_at t.terms i)) member
      (ap (is_shallow numbers) (sym same_image) ∙ deep refl))
  image_refused concl faults.NotRedex deep never = absurd (never refl)
  image_refused concl (faults.Memory memory) deep never = memory_refuses _

-- ---- the theorem
module _ (t u : TermTable) (g : Grows t u) (s : Substitution) (subst_of : IsSubstOf t s) (th : Theorem)
    (inside : IsInside (length t.terms) th) where
  same_conclusion : substituted u s (nameless numbers (term_at u.terms th.concl))
      ≡ substituted t s (tm_at t.terms th.concl)
  same_conclusion = becomes_at-Grows t u g s subst_of [] (λ q m. absurd m) th.concl inside.concl

  -- its images, each once, and that of its conclusion, which the table has by then
  pub theorem_substituted : (v : TermTable) → Grows u v → IsTermTable v → (is : List ℕ) (new : Theorem)
      → tms_at u.terms is ≡ map (substituted t s) (tms_at t.terms th.hyps)
      → tms_at u.terms new.hyps ≡ once_each numbers (tms_at u.terms is) → All (λ i. i < length u.terms)
      new.hyps → HasForm v new.concl (substituted u s (nameless numbers (term_at u.terms th.concl)))
      → Derives (Ok new) (subst_rule numbers (type_part t s) (variable_part t s) (numbered_sequent t.terms th))
      v.terms
  theorem_substituted v more table is new images once within form =
      let hyps = tms_at-Grows u v more new.hyps within ∙ once ∙ ap (once_each numbers) images in
      let concl = form.form ∙ same_conclusion in
      within-derives v table new
      (record {
        hyps = once_each numbers (map (substituted t s) (tms_at t.terms th.hyps));
        concl = substituted t s (tm_at t.terms th.concl);
      })
      (record { hyps = λ i d h. omega (arith, within i d h, more.terms.longer); concl = form.within })
      (λ j. record { hyps = hyps j; concl = concl j })

  pub conclusion_refused : (fault : SubstFault)
      → (fault ≡ faults.Nesting → is_shallow numbers (substituted u s (nameless numbers (term_at u.terms th.concl)))
      ≡ false) → (fault ≡ faults.NotRedex → ⊥)
      → RefusesRule (of_subst fault)
      (subst_rule numbers (type_part t s) (variable_part t s) (numbered_sequent t.terms th))
  conclusion_refused faults.Nesting deep never =
      refuses_rule rules.Nesting Nesting
      (subst_rule numbers (type_part t s) (variable_part t s) (numbered_sequent t.terms th)) (λ _. refl)
      (deep_conclusion
      (record {
        hyps = once_each numbers (map (substituted t s) (tms_at t.terms th.hyps));
        concl = substituted t s (tm_at t.terms th.concl);
      }) (ap (is_shallow numbers) (sym same_conclusion)
      ∙ deep refl))
  conclusion_refused faults.NotRedex deep never = absurd (never refl)
  conclusion_refused (faults.Memory memory) deep never = memory_refuses _
