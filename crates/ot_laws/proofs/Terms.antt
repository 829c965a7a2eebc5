-- Terms under closing and substitution.
use Rattle.std.specs.Prelude.{◌≢◌}
use Rattle.std.proofs.Common.{◌≡◌, ℕ, suc, cond, refl, sym, ap, inl, inr}
use Rattle.ot_logic.specs.Trees.{Alphabet, Ty, Tys, TyVar, TyOp, NoTys, MoreTys}
use Rattle.ot_logic.specs.Trees.{Variable, Tm, Free, Con, Bound, App, Abs}
use Rattle.ot_logic.specs.Hol.{same_var, inst_by, inst_all, close_at, bind, IsFree}
use Rattle.ot_laws.proofs.Tests.{Tells, same_var-is, var_cases}

module _ {N : Type 0} (alphabet : Alphabet N) where
  -- s with u for v
  abbrev pub with : (Variable N → Tm N) → Variable N → Tm N → Variable N → Tm N
  with s v u w = cond (same_var alphabet w v) u (s w)

  -- each variable for itself changes no type
  mutual
    pub inst_by-id : (t : Ty N) → inst_by alphabet TyVar t ≡ t
    inst_by-id (TyVar n) = refl
    inst_by-id (TyOp n ts) = ap (TyOp n) (inst_all-id ts)

    pub inst_all-id : (ts : Tys N) → inst_all alphabet TyVar ts ≡ ts
    inst_all-id NoTys = refl
    inst_all-id (MoreTys t ts) = λ i. MoreTys (inst_by-id t i) (inst_all-id ts i)

  -- only the variables that are free count
  pub bind-agree : (g : N → Ty N) (s r : Variable N → Tm N) (t : Tm N)
      → ((x : Variable N) → IsFree alphabet x t → s x ≡ r x) → bind alphabet g s t ≡ bind alphabet g r t
  bind-agree g s r (Free x) h = h x refl
  bind-agree g s r (Con n t) h = refl
  bind-agree g s r (Bound j) h = refl
  bind-agree g s r (App f x) h =
      let p = bind-agree g s r f (λ y i. h y (inl i)) in
      let q = bind-agree g s r x (λ y i. h y (inr i)) in
      cc
  bind-agree g s r (Abs t b) h = ap (Abs (inst_by alphabet g t)) (bind-agree g s r b h)

module _ {N : Type 0} (alphabet : Alphabet N) (tells : Tells alphabet) where
  -- a variable that is not free is closed by no change
  pub close_at_fresh : (k : ℕ) (v : Variable N) (t : Tm N) → ¬ (IsFree alphabet v t) → close_at alphabet k v t ≡ t
  close_at_fresh k v (Free w) h = elim (var_cases alphabet tells w v) [ inl p ↦ absurd (h p.1) | inr p ↦ rw p.0 ]
  close_at_fresh k v (Con n t) h = refl
  close_at_fresh k v (Bound j) h = refl
  close_at_fresh k v (App f x) h =
      let p = close_at_fresh k v f (λ i. h (inl i)) in
      let q = close_at_fresh k v x (λ i. h (inr i)) in
      cc
  close_at_fresh k v (Abs t b) h = ap (Abs t) (close_at_fresh (suc k) v b h)

  -- the main lemma: a binder v that becomes w, where w is free in no image of another variable
  pub bind-close_at : (g : N → Ty N) (s : Variable N → Tm N) (v w : Variable N) (k : ℕ) (t : Tm N)
      → ((x : Variable N) → IsFree alphabet x t → x ≢ v → ¬ (IsFree alphabet w (s x))) → bind alphabet g s
      (close_at alphabet k v t) ≡ close_at alphabet k w (bind alphabet g (with alphabet s v (Free w)) t)
  bind-close_at g s v w k (Free x) h =
      elim (var_cases alphabet tells x v) [
        | inl p ↦ rw (p.0, (same_var-is alphabet tells w w).1 refl)
        | inr p ↦ rw p.0 (sym (close_at_fresh k w (s x) (h x refl p.1)))
      ]
  bind-close_at g s v w k (Con n t) h = refl
  bind-close_at g s v w k (Bound j) h = refl
  bind-close_at g s v w k (App f x) h =
      let p = bind-close_at g s v w k f (λ y i. h y (inl i)) in
      let q = bind-close_at g s v w k x (λ y i. h y (inr i)) in
      cc
  bind-close_at g s v w k (Abs t b) h = ap (Abs (inst_by alphabet g t)) (bind-close_at g s v w (suc k) b h)
