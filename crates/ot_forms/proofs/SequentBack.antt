-- The readable text of a sequent is read back as its hypotheses as a set and its conclusion.
use Rattle.std.specs.Prelude.{◌≡◌, ◌≤◌, ℕ, ◌+◌, true, false, List, [], ◌∷◌, ◌++◌, map, length, Result, Ok}
use Rattle.std.specs.List.{AllByRecursion}
use Rattle.std.proofs.Common.{refl, sym, ◌∙◌, ap, subst, inl, inr, arith}
use Rattle.std.proofs.lemmas.Bool.{leb-true}
use Rattle.ot_logic.specs.Answers.{◌>>=◌}
use Rattle.ot_logic.specs.Names.{Name}
use Rattle.ot_logic.specs.Naming.{names}
use Rattle.ot_logic.specs.Lists.{IsMember, IsPart, IsSameSet}
use Rattle.ot_logic.specs.Trees.{Tm, Sequent, Symbol}
use Rattle.ot_logic.specs.Hol.{bool_ty, depth_tm, depth_limit}
use Rattle.ot_forms.specs.Forms.{IsWritten, most_open, term_text, further_hyps, hyps_text}
use Rattle.ot_forms.specs.Forms.{HaveTermNames}
use Rattle.ot_forms.specs.Meaning.{Refusal, meaning, meanings}
use Rattle.ot_logic.specs.Hol.{once_each}
use Rattle.ot_laws.proofs.Tests.{tells_names}
use Rattle.ot_laws.proofs.Hypotheses.{same_set-once_each}
use Rattle.ot_forms.specs.Refusals.{open_limit, ReadsAs}
use Rattle.ot_text.specs.Texts as texts
use Rattle.ot_text.specs.Texts.{ascending}
use Rattle.ot_forms.specs.Printing.{written, readable_term, readable_text}
use Rattle.ot_forms.specs.Reading.{Got, term_at, constant_at}
use Rattle.ot_forms.specs.Words.{IsNotation}
use Rattle.ot_forms.proofs.RoundTrip.{IsFine, means, shallow-parts}
use Rattle.ot_forms.proofs.Printed.{printed, types-within}
use Rattle.ot_forms.proofs.ReadBack.{has-constants, term-reads-back}
use Rattle.ot_text.proofs.Ascending.{member-ascending, ascending-member}

-- a proposition of a run: well typed, within the nesting limit, each name with a component
pub record IsProposition (t : Tm Name) : Type 0 where
  pub named : HaveTermNames t
  pub fine : IsFine [] t (bool_ty names)

map-member : {A B : Type 0} (f : A → B) (xs : List A) (y : B) → IsMember y (map f xs) → (x : A) × IsMember x xs
    × (f x ≡ y)
map-member f [] y h = absurd h
map-member f (x ∷ xs) y h =
    elim h [ inl p ↦ (x, inl refl, p) | inr k ↦ (let w = map-member f xs y k in (w.0, inr w.1, w.2)) ]

member-map : {A B : Type 0} (f : A → B) (xs : List A) (x : A) → IsMember x xs → IsMember (f x) (map f xs)
member-map f [] x h = absurd h
member-map f (y ∷ ys) x h = elim h [ inl p ↦ inl (ap f p) | inr k ↦ inr (member-map f ys x k) ]

-- terms of a list with these texts
pub record AreTermsOf (f : Tm Name → List ℕ) (hs : List (Tm Name)) (xs : List (List ℕ)) : Type 0 where
  pub terms : List (Tm Name)
  pub texts : map f terms ≡ xs
  pub part : IsPart terms hs

terms-of : (f : Tm Name → List ℕ) (hs : List (Tm Name)) (xs : List (List ℕ)) → IsPart xs (map f hs)
    → AreTermsOf f hs xs
terms-of f hs [] h = record { terms = []; texts = refl; part = λ t k. absurd k }
terms-of f hs (x ∷ xs) h =
    let w = map-member f hs x (h x (inl refl)) in
    let r = terms-of f hs xs (λ y k. h y (inr k)) in
    record {
      terms = w.0 ∷ r.terms;
      texts = (λ i. w.2 i ∷ r.texts i);
      part = λ t k. elim k [ inl p ↦ subst (λ z. IsMember z hs) p w.1 | inr q ↦ r.part t q ];
    }

module _ (hidden : List (Symbol Name)) (nt : IsNotation hidden) where
  -- two propositions with one readable text are equal
  one-term : (t u : Tm Name) → IsProposition t → IsProposition u → readable_term hidden t ≡ readable_term hidden u
      → t ≡ u
  one-term t u ht hu e =
      let a = term-reads-back hidden nt t (bool_ty names) ht.named ht.fine [] refl in
      let b = term-reads-back hidden nt u (bool_ty names) hu.named hu.fine [] refl in
      let q : Got a.form [] ≡ Got b.form [] = sym a.read
      ∙ ap (λ z. term_at hidden (constant_at hidden) 8192 (z ++ [])) e ∙ b.read in
      let f : a.form ≡ b.form = cc in
      let p : ◌≡◌ {A = Result (Tm Name) Refusal} (Ok t) (Ok u) = sym (a.meant 0) ∙ ap (meaning hidden [] false 0) f
      ∙ b.meant 0 in
      cc

  form-fine : (t : Tm Name) → IsProposition t → IsWritten (written hidden 0 t)
      × (most_open (written hidden 0 t) ≤ open_limit)
  form-fine t h =
      let p = printed hidden t 0 h.named (types-within [] t (bool_ty names) h.fine) in
      let d : depth_tm names t ≤ depth_limit =
      leb-true (depth_tm names t) depth_limit (shallow-parts [] t h.fine.shallow).0 in
      (p.fine, (let w = p.within in omega (arith, w, d)))

  all-written : (ts : List (Tm Name)) → ((t : Tm Name) → IsMember t ts → IsProposition t)
      → AllByRecursion IsWritten (map (written hidden 0) ts)
  all-written [] h = tt
  all-written (t ∷ ts) h = ((form-fine t (h t (inl refl))).0, all-written ts (λ u k. h u (inr k)))

  all-open : (ts : List (Tm Name)) → ((t : Tm Name) → IsMember t ts → IsProposition t)
      → AllByRecursion (λ a. most_open a ≤ open_limit) (map (written hidden 0) ts)
  all-open [] h = tt
  all-open (t ∷ ts) h = ((form-fine t (h t (inl refl))).1, all-open ts (λ u k. h u (inr k)))

  further-same : (ts : List (Tm Name)) → texts.further_hyps (map (readable_term hidden) ts)
      ≡ further_hyps hidden (map (written hidden 0) ts)
  further-same [] = refl
  further-same (t ∷ ts) = ap (λ z. 44 ∷ 32 ∷ (readable_term hidden t ++ z)) (further-same ts)

  hyps-same : (ts : List (Tm Name)) → texts.hyps_text (map (readable_term hidden) ts)
      ≡ hyps_text hidden (map (written hidden 0) ts)
  hyps-same [] = refl
  hyps-same (t ∷ ts) = ap (λ z. readable_term hidden t ++ z) (further-same ts)

  term-meant : (t : Tm Name) → IsProposition t → (k : ℕ) → meaning hidden [] true k (written hidden 0 t) ≡ Ok t
  term-meant t h k = means hidden (has-constants hidden nt) t [] (bool_ty names) tt h.fine true k refl

  all-meant : (ts : List (Tm Name)) → ((t : Tm Name) → IsMember t ts → IsProposition t) → (k : ℕ)
      → meanings hidden k (map (written hidden 0) ts) ≡ Ok ts
  all-meant [] h k = refl
  all-meant (t ∷ ts) h k =
      ap (λ o. o
      >>= λ u. (meanings hidden (k + 2 + length (term_text hidden (written hidden 0 t)))
      (map (written hidden 0) ts) >>= λ us. Ok (u ∷ us))) (term-meant t (h t (inl refl)) k)
      ∙ ap (λ o. o >>= λ us. Ok (t ∷ us))
      (all-meant ts (λ u q. h u (inr q)) (k + 2 + length (term_text hidden (written hidden 0 t))))

  pub record ReadsBackAs (q : Sequent Name) : Type 0 where
    pub hyps : List (Tm Name)
    pub same : IsSameSet hyps q.hyps
    pub read : ReadsAs hidden (readable_text hidden q) (record { hyps = hyps; concl = q.concl })

  -- the readable text of a sequent of propositions stands for the same set of hypotheses and the same conclusion
  pub sequent-reads-back : (q : Sequent Name) → ((t : Tm Name) → IsMember t q.hyps → IsProposition t)
      → IsProposition q.concl → ReadsBackAs q
  sequent-reads-back q hh hc =
      let f = readable_term hidden in
      let w = terms-of f q.hyps (ascending (map f q.hyps)) (λ x k. member-ascending x (map f q.hyps) k) in
      let hw : (t : Tm Name) → IsMember t w.terms → IsProposition t = λ t k. hh t (w.part t k) in
      let c = form-fine q.concl hc in
      let each = same_set-once_each names tells_names w.terms in
      let back : IsPart q.hyps w.terms = λ t k. found t k w.terms w.texts hw in
      record {
        hyps = once_each names w.terms;
        same = record { to = λ t k. w.part t (each.back t k); back = λ t k. each.to t (back t k) };
        read = record {
          written = record { hyps = map (written hidden 0) w.terms; concl = written hidden 0 q.concl };
          text_of = record {
            form = record {
              hyps = all-written w.terms hw;
              concl = c.0;
              hyps_open = all-open w.terms hw;
              concl_open = c.1;
            };
            text = ap (λ z. texts.hyps_text z ++ f q.concl) (sym w.texts)
                ∙ ap (λ z. z ++ f q.concl) (hyps-same w.terms);
          };
          meant = ap
              (λ o. o >>= λ hs.
              (meaning hidden [] true (length (hyps_text hidden (map (written hidden 0) w.terms)))
              (written hidden 0 q.concl) >>= λ u. Ok (record { hyps = once_each names hs; concl = u })))
              (all-meant w.terms hw 0)
              ∙ ap (λ o. o >>= λ u. Ok (record { hyps = once_each names w.terms; concl = u }))
              (term-meant q.concl hc (length (hyps_text hidden (map (written hidden 0) w.terms))));
        };
      }
    where
      found : (t : Tm Name) → IsMember t q.hyps → (ts : List (Tm Name)) → map (readable_term hidden) ts ≡ ascending
          (map (readable_term hidden) q.hyps) → ((u : Tm Name) → IsMember u ts → IsProposition u) → IsMember t ts
      found t k ts e h =
          let m : IsMember (readable_term hidden t) (map (readable_term hidden) ts) =
          subst (IsMember (readable_term hidden t)) (sym e)
          (ascending-member (readable_term hidden t) (map (readable_term hidden) q.hyps)
          (member-map (readable_term hidden) q.hyps t k)) in
          let w = map-member (readable_term hidden) ts (readable_term hidden t) m in
          subst (λ z. IsMember z ts) (one-term w.0 t (h w.0 w.1) (hh t k) w.2) w.1
