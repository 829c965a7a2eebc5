-- Substitution on named terms: one binder, and the whole walk.
use Rattle.std.specs.Prelude.{◌≢◌}
use Rattle.std.proofs.Common.{◌≡◌, [], ◌∷◌, refl, sym, ap, ◌∙◌, inl, inr, ◌⊎◌}
use Rattle.ot_logic.specs.Trees.{Alphabet, Ty, Variable, Tm, Free, Named, NVar, NConst, NApp, NAbs}
use Rattle.ot_logic.specs.Lists.{IsMember}
use Rattle.ot_logic.specs.Hol.{TypeMap, type_at, inst, inst_by, close_at, bind}
use Rattle.ot_logic.specs.Hol.{TermMap, term_at, inst_var, subst_tm, IsFree}
use Rattle.ot_logic.specs.NamedTerms.{nameless, IsFreeIn, Renaming, image}
use Rattle.ot_laws.specs.Walk.{NamedMap, nameless_map, named_at, named_image, BinderRule, apply_by, Picks}
use Rattle.ot_laws.proofs.Tests.{Tells, var_cases, same_var-no}
use Rattle.ot_laws.proofs.Terms.{with, bind-close_at, bind-agree}
use Rattle.ot_laws.proofs.Named.{free-nameless}

module _ {N : Type 0} (alphabet : Alphabet N) (tells : Tells alphabet) where
  -- one binder: v becomes w, and the body is c
  pub abs-step : (g : N → Ty N) (s : Variable N → Tm N) (v w : Variable N) (b c : Named N)
      → w.ty ≡ inst_by alphabet g v.ty
      → ((x : Variable N) → IsFreeIn alphabet x b → x ≢ v → ¬ (IsFree alphabet w (s x)))
      → nameless alphabet c ≡ bind alphabet g (with alphabet s v (Free w)) (nameless alphabet b)
      → nameless alphabet (NAbs w c) ≡ bind alphabet g s (nameless alphabet (NAbs v b))
  abs-step g s v w b c t h e =
      let p = bind-close_at alphabet tells g s v w 0 (nameless alphabet b)
      (λ x i. h x (free-nameless alphabet tells x b i)) in
      let q = ap (close_at alphabet 0 w) e ∙ sym p in
      cc

  -- a binder that is renamed
  pub abs-renamed : (r : Renaming alphabet) (s : TypeMap alphabet) (m : TermMap alphabet) (v w : Variable N)
      (b c : Named N) → w.ty ≡ inst alphabet s v.ty
      → ((x : Variable N) → IsFreeIn alphabet x b → x ≢ v → ¬ (IsFree alphabet w (image alphabet r s m x)))
      → nameless alphabet c ≡ bind alphabet (type_at alphabet s) (image alphabet ((v, w) ∷ r) s m)
      (nameless alphabet b) → nameless alphabet (NAbs w c) ≡ bind alphabet (type_at alphabet s) (image alphabet r s m)
      (nameless alphabet (NAbs v b))
  abs-renamed r s m v w b c t h e = abs-step (type_at alphabet s) (image alphabet r s m) v w b c t h e

  -- a binder that is kept, where what is remembered stays right
  pub abs-kept : (r : Renaming alphabet) (s : TypeMap alphabet) (m : TermMap alphabet) (v : Variable N)
      (b c : Named N) → image alphabet r s m v ≡ Free (inst_var alphabet s v)
      → ((x : Variable N) → IsFreeIn alphabet x b → x ≢ v
      → ¬ (IsFree alphabet (inst_var alphabet s v) (image alphabet r s m x)))
      → nameless alphabet c ≡ bind alphabet (type_at alphabet s) (image alphabet r s m) (nameless alphabet b)
      → nameless alphabet (NAbs (inst_var alphabet s v) c) ≡ bind alphabet (type_at alphabet s) (image alphabet r s m)
      (nameless alphabet (NAbs v b))
  abs-kept r s m v b c k h e =
      abs-step (type_at alphabet s) (image alphabet r s m) v (inst_var alphabet s v) b c refl h
      (e ∙ bind-agree alphabet (type_at alphabet s) (image alphabet r s m)
      (with alphabet (image alphabet r s m) v (Free (inst_var alphabet s v))) (nameless alphabet b) same)
    where
      same : (x : Variable N) → IsFree alphabet x (nameless alphabet b)
          → image alphabet r s m x ≡ with alphabet (image alphabet r s m) v (Free (inst_var alphabet s v)) x
      same x i = elim (var_cases alphabet tells x v) [
        | inl p ↦ rw p.0 (ap (image alphabet r s m) p.1 ∙ k)
        | inr p ↦ rw p.0
      ]

  -- a variable that the variable part doesn't hold
  pub term_at-kept : (m : TermMap alphabet) (v : Variable N) → ((p : Variable N × Tm N) → IsMember p m → p.0 ≢ v)
      → term_at alphabet m v ≡ Free v
  term_at-kept [] v h = refl
  term_at-kept (p ∷ m) v h = rw (same_var-no alphabet tells v p.0 (λ e. h p (inl refl) (sym e)))
      (term_at-kept m v (λ q i. h q (inr i)))

  -- what is put in, or the variable itself
  pub term_at-cases : (m : TermMap alphabet) (x : Variable N)
      → ((p : Variable N × Tm N) × IsMember p m × (term_at alphabet m x ≡ p.1)) ⊎ (term_at alphabet m x ≡ Free x)
  term_at-cases [] x = inr refl
  term_at-cases (p ∷ m) x = elim (var_cases alphabet tells x p.0) [
    | inl q ↦ inl (p, inl refl, rw q.0)
    | inr q ↦ elim (term_at-cases m x) [
      | inl (r, i, e) ↦ inl (r, inr i, rw q.0 e)
      | inr e ↦ inr (rw q.0 e)
    ]
  ]

  named_at-nameless : (m : NamedMap alphabet) (v : Variable N) → nameless alphabet (named_at alphabet m v)
      ≡ term_at alphabet (nameless_map alphabet m) v
  named_at-nameless [] v = refl
  named_at-nameless (p ∷ m) v =
      elim (var_cases alphabet tells v p.0) [ inl q ↦ rw q.0 | inr q ↦ rw q.0 (named_at-nameless m v) ]

  named_image-nameless : (r : Renaming alphabet) (s : TypeMap alphabet) (m : NamedMap alphabet) (v : Variable N)
      → nameless alphabet (named_image alphabet r s m v) ≡ image alphabet r s (nameless_map alphabet m) v
  named_image-nameless [] s m v = named_at-nameless m (inst_var alphabet s v)
  named_image-nameless (p ∷ r) s m v =
      elim (var_cases alphabet tells v p.0) [ inl q ↦ rw q.0 | inr q ↦ rw q.0 (named_image-nameless r s m v) ]

  pub apply_by-under : (pick : BinderRule alphabet) (s : TypeMap alphabet) (m : NamedMap alphabet)
      → Picks alphabet s (nameless_map alphabet m) pick → (r : Renaming alphabet) (t : Named N)
      → nameless alphabet (apply_by alphabet pick s m r t) ≡ bind alphabet (type_at alphabet s)
      (image alphabet r s (nameless_map alphabet m)) (nameless alphabet t)
  apply_by-under pick s m ok r (NVar v) = named_image-nameless r s m v
  apply_by-under pick s m ok r (NConst n t) = refl
  apply_by-under pick s m ok r (NApp f x) =
      let p = apply_by-under pick s m ok r f in
      let q = apply_by-under pick s m ok r x in
      cc
  apply_by-under pick s m ok r (NAbs v b) =
      abs-renamed r s (nameless_map alphabet m) v (pick r v b) b (apply_by alphabet pick s m ((v, pick r v b) ∷ r) b)
      (ok.typed r v b) (ok.apart r v b) (apply_by-under pick s m ok ((v, pick r v b) ∷ r) b)

  pub apply_by-is : (pick : BinderRule alphabet) (s : TypeMap alphabet) (m : NamedMap alphabet)
      → Picks alphabet s (nameless_map alphabet m) pick → (t : Named N) → nameless alphabet
      (apply_by alphabet pick s m [] t) ≡ subst_tm alphabet s (nameless_map alphabet m) (nameless alphabet t)
  apply_by-is pick s m ok t = apply_by-under pick s m ok [] t
