-- Beta: a term in the place of an abstraction.
use Rattle.std.proofs.Common.{◌≡◌, ℕ, suc, ◌<◌, false, [], ◌∷◌, refl, sym, ap, ◌∙◌, inl, inr, arith}
use Rattle.std.specs.Prelude.{◌==◌}
use Rattle.std.proofs.lemmas.Bool.{eq-eqb, ne_eqb}
use Rattle.ot_logic.specs.Trees.{Alphabet, Ty, TyVar, Variable, Tm, Free, Con}
use Rattle.ot_logic.specs.Trees.{Bound, App, Abs, Named, NVar, NConst, NApp, NAbs}
use Rattle.ot_logic.specs.Hol.{inst, close_at, close, open_at, opened, bind, term_at, inst_var, subst_tm, IsWithin}
use Rattle.ot_logic.specs.NamedTerms.{nameless}
use Rattle.ot_laws.proofs.Tests.{Tells, var_cases}
use Rattle.ot_laws.proofs.Terms.{inst_by-id, with, bind-agree}

pub place_below : (j k : ℕ) → j < k → (j == k) ≡ false
place_below j k h = ne_eqb j k (λ e. omega arith)

module _ {N : Type 0} (alphabet : Alphabet N) where
  pub inst-nil : (t : Ty N) → inst alphabet [] t ≡ t
  inst-nil t = inst_by-id alphabet t

  pub inst_var-nil : (v : Variable N) → inst_var alphabet [] v ≡ v
  inst_var-nil v = λ i. record { name = v.name; ty = inst-nil v.ty i }

module _ {N : Type 0} (alphabet : Alphabet N) (tells : Tells alphabet) where
  pub within-close_at : (k : ℕ) (v : Variable N) (t : Tm N) → IsWithin alphabet k t
      → IsWithin alphabet (suc k) (close_at alphabet k v t)
  within-close_at k v (Free w) h =
      elim (var_cases alphabet tells w v) [ inl p ↦ rw p.0 (omega arith) | inr p ↦ rw p.0 tt ]
  within-close_at k v (Con n t) h = tt
  within-close_at k v (Bound j) h = omega arith
  within-close_at k v (App f x) h = (within-close_at k v f h.0, within-close_at k v x h.1)
  within-close_at k v (Abs t b) h = within-close_at (suc k) v b h

  pub within-nameless : (t : Named N) → IsWithin alphabet 0 (nameless alphabet t)
  within-nameless (NVar v) = tt
  within-nameless (NConst n t) = tt
  within-nameless (NApp f x) = (within-nameless f, within-nameless x)
  within-nameless (NAbs v b) = within-close_at 0 v (nameless alphabet b) (within-nameless b)

  -- beta on nameless trees is the substitution of one variable
  pub open-close : (k : ℕ) (u : Tm N) (v : Variable N) (t : Tm N) → IsWithin alphabet k t
      → open_at alphabet k u (close_at alphabet k v t) ≡ bind alphabet TyVar (with alphabet Free v u) t
  open-close k u v (Free w) h = elim (var_cases alphabet tells w v) [
    | inl p ↦ rw (p.0, eq-eqb k k refl)
    | inr p ↦ rw p.0
  ]
  open-close k u v (Con n t) h = ap (Con n) (sym (inst_by-id alphabet t))
  open-close k u v (Bound j) h = rw (place_below j k h)
  open-close k u v (App f x) h =
      let p = open-close k u v f h.0 in
      let q = open-close k u v x h.1 in
      cc
  open-close k u v (Abs t b) h =
      let p = open-close (suc k) u v b h in
      let q = inst_by-id alphabet t in
      cc

  -- what beta gives is the substitution of the argument for the variable alone
  pub beta-subst : (v : Variable N) (b u : Named N) → opened alphabet (close alphabet v (nameless alphabet b))
      (nameless alphabet u) ≡ subst_tm alphabet [] ((v, nameless alphabet u) ∷ []) (nameless alphabet b)
  beta-subst v b u =
      open-close 0 (nameless alphabet u) v (nameless alphabet b) (within-nameless b)
      ∙ bind-agree alphabet TyVar (with alphabet Free v (nameless alphabet u))
      (λ x. term_at alphabet ((v, nameless alphabet u) ∷ []) (inst_var alphabet [] x)) (nameless alphabet b)
      (λ x i. sym (ap (term_at alphabet ((v, nameless alphabet u) ∷ [])) (inst_var-nil alphabet x)))
