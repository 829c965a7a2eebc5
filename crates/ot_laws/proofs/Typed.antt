-- Each rule keeps sequents: what it gives is well typed and of the type of propositions.
use Rattle.std.specs.Prelude.{slice_get}
use Rattle.std.specs.List.{AllByRecursion}
use Rattle.std.proofs.Common.{◌≡◌, ℕ, List, [], ◌∷◌, ◌++◌, refl, sym, ap, ◌∙◌, inl, inr, map, Some}
use Rattle.ot_logic.specs.Lists.{IsPart}
use Rattle.ot_logic.specs.Trees.{Alphabet, Ty, Variable, Tm, App, Abs, Sequent, Definition}
use Rattle.ot_logic.specs.Hol.{fun_ty, bool_ty, TypeMap, type_at, inst, HasType, type_in, TermMap}
use Rattle.ot_logic.specs.Hol.{term_at, inst_var, subst_tm, close, opened, equation, minus, IsTyped}
use Rattle.ot_logic.specs.Hol.{IsSequent, theorems, Derivable, Refl, Assume, EqMp, AbsThm, AppThm}
use Rattle.ot_logic.specs.Hol.{DeductAntisym, BetaConv, Subst, Assumption, Defined, SameSet}
use Rattle.ot_laws.specs.Theorem.{AreSequents}
use Rattle.ot_laws.proofs.Tests.{Tells, var_cases}
use Rattle.ot_laws.proofs.Typing.{app-typed, applied-some, abs-some, type-bind}
use Rattle.ot_laws.proofs.Typing.{type-close_at, type-open_at}
use Rattle.ot_laws.proofs.Equations.{equation-typed, equation-sides}
use Rattle.ot_laws.proofs.Sets.{all-member, all-from_members}
use Rattle.ot_laws.proofs.Hypotheses.{IsMember-minus}

module _ {N : Type 0} (alphabet : Alphabet N) where
  -- the hypotheses g and the conclusion p
  abbrev pub sequent : List (Tm N) → Tm N → Sequent N
  sequent g p = record { hyps = g; concl = p }

  abbrev AreBool : List (Tm N) → Type 0
  AreBool = AllByRecursion (λ h. HasType alphabet h (bool_ty alphabet))

  bool-part : (g h : List (Tm N)) → IsPart h g → AreBool g → AreBool h
  bool-part g h part b = all-from_members (λ x. HasType alphabet x (bool_ty alphabet)) h
      (λ x i. all-member (λ y. HasType alphabet y (bool_ty alphabet)) g b x (part x i))

  bool-append : (g h : List (Tm N)) → AreBool g → AreBool h → AreBool (g ++ h)
  bool-append [] h p q = q
  bool-append (x ∷ g) h p q = (p.0, bool-append g h p.1 q)

  -- fewer hypotheses
  pub part-typed : (g h : List (Tm N)) (p : Tm N) → IsPart h g → IsSequent alphabet (sequent g p)
      → IsSequent alphabet (sequent h p)
  part-typed g h p s a = record { hyps = bool-part g h s a.hyps; concl = a.concl }

  -- the hypotheses of both
  pub append-typed : (g h : List (Tm N)) (p q : Tm N) → IsSequent alphabet (sequent g p)
      → IsSequent alphabet (sequent h q) → IsSequent alphabet (sequent (g ++ h) q)
  append-typed g h p q a b = record { hyps = bool-append g h a.hyps b.hyps; concl = b.concl }

module _ {N : Type 0} (alphabet : Alphabet N) (tells : Tells alphabet) where
  -- ---- substitution
  -- the term of each variable has its type
  pub term_at-typed : (m : TermMap alphabet) (v : Variable N) → IsTyped alphabet m
      → HasType alphabet (term_at alphabet m v) v.ty
  term_at-typed [] v h = refl
  term_at-typed (p ∷ m) v h = elim (var_cases alphabet tells v p.0) [
    | inl q ↦ rw q.0 (h.0 ∙ ap (λ x. Some x.ty) (sym q.1))
    | inr q ↦ rw q.0 (term_at-typed m v h.1)
  ]

  pub subst-typed : (s : TypeMap alphabet) (m : TermMap alphabet) (t : Tm N) (ty : Ty N) → IsTyped alphabet m
      → HasType alphabet t ty → HasType alphabet (subst_tm alphabet s m t) (inst alphabet s ty)
  subst-typed s m t ty w h = type-bind alphabet tells (type_at alphabet s)
      (λ v. term_at alphabet m (inst_var alphabet s v)) [] t ty (λ v i. term_at-typed m (inst_var alphabet s v) w) h

  -- ---- the rules
  pub refl-typed : (t : Tm N) (ty : Ty N) → HasType alphabet t ty
      → IsSequent alphabet (sequent alphabet [] (equation alphabet ty t t))
  refl-typed t ty w = record { hyps = tt; concl = equation-typed alphabet tells [] ty t t w w }

  pub assume-typed : (p : Tm N) → HasType alphabet p (bool_ty alphabet)
      → IsSequent alphabet (sequent alphabet (p ∷ []) p)
  assume-typed p w = record { hyps = (w, tt); concl = w }

  pub eq_mp-typed : (g h : List (Tm N)) (p q : Tm N) (ty : Ty N)
      → IsSequent alphabet (sequent alphabet g (equation alphabet ty p q)) → IsSequent alphabet (sequent alphabet h p)
      → IsSequent alphabet (sequent alphabet (g ++ h) q)
  eq_mp-typed g h p q ty a b =
      let s = equation-sides alphabet tells ty (bool_ty alphabet) p q a.concl in
      let e : ty ≡ bool_ty alphabet = let k = sym s.0 ∙ b.concl in cc in
      record { hyps = bool-append alphabet g h a.hyps b.hyps; concl = s.1 ∙ ap Some e }

  pub abs_thm-typed : (g : List (Tm N)) (t u : Tm N) (ty : Ty N) (v : Variable N)
      → IsSequent alphabet (sequent alphabet g (equation alphabet ty t u))
      → IsSequent alphabet
      (sequent alphabet g
      (equation alphabet (fun_ty alphabet v.ty ty) (Abs v.ty (close alphabet v t)) (Abs v.ty (close alphabet v u))))
  abs_thm-typed g t u ty v a =
      let s = equation-sides alphabet tells ty (bool_ty alphabet) t u a.concl in
      let side : (y : Tm N) → HasType alphabet y ty → HasType alphabet (Abs v.ty (close alphabet v y)) (fun_ty alphabet v.ty ty) = λ y h. rw (type-close_at alphabet tells [] v y ty h) refl in
      record {
        hyps = a.hyps;
        concl = equation-typed alphabet tells [] (fun_ty alphabet v.ty ty)
            (Abs v.ty (close alphabet v t)) (Abs v.ty (close alphabet v u)) (side t s.0) (side u s.1);
      }

  pub app_thm-typed : (g h : List (Tm N)) (f k x y : Tm N) (a b : Ty N)
      → IsSequent alphabet (sequent alphabet g (equation alphabet (fun_ty alphabet a b) f k))
      → IsSequent alphabet (sequent alphabet h (equation alphabet a x y))
      → IsSequent alphabet (sequent alphabet (g ++ h) (equation alphabet b (App f x) (App k y)))
  app_thm-typed g h f k x y a b p q =
      let s = equation-sides alphabet tells (fun_ty alphabet a b) (bool_ty alphabet) f k p.concl in
      let r = equation-sides alphabet tells a (bool_ty alphabet) x y q.concl in
      record {
        hyps = bool-append alphabet g h p.hyps q.hyps;
        concl = equation-typed alphabet tells [] b (App f x)
            (App k y) (app-typed alphabet tells [] f x a b s.0 r.0) (app-typed alphabet tells [] k y a b s.1 r.1);
      }

  pub deduct_antisym-typed : (g h : List (Tm N)) (p q : Tm N) → IsSequent alphabet (sequent alphabet g p)
      → IsSequent alphabet (sequent alphabet h q) → IsSequent alphabet
      (sequent alphabet (minus alphabet q g ++ minus alphabet p h) (equation alphabet (bool_ty alphabet) p q))
  deduct_antisym-typed g h p q a b = record {
    hyps = bool-append alphabet (minus alphabet q g) (minus alphabet p h)
        (bool-part alphabet g (minus alphabet q g) (λ x i. (IsMember-minus alphabet tells x q g i).0) a.hyps)
        (bool-part alphabet h (minus alphabet p h) (λ x i. (IsMember-minus alphabet tells x p h i).0) b.hyps);
    concl = equation-typed alphabet tells [] (bool_ty alphabet) p q a.concl b.concl;
  }

  pub beta_conv-typed : (b u : Tm N) (a ty : Ty N) → HasType alphabet (App (Abs a b) u) ty
      → IsSequent alphabet (sequent alphabet [] (equation alphabet ty (App (Abs a b) u) (opened alphabet b u)))
  beta_conv-typed b u a ty w =
      let (c, p, q) = applied-some alphabet tells (type_in alphabet [] (Abs a b)) (type_in alphabet [] u) ty w in
      let (d, r, s) = abs-some alphabet a (type_in alphabet (a ∷ []) b) (fun_ty alphabet c ty) p in
      let e : c ≡ a = cc in
      let f : ty ≡ d = cc in
      let t : type_in alphabet (a ∷ []) b ≡ Some ty = r ∙ ap Some (sym f) in
      record {
        hyps = tt;
        concl = equation-typed alphabet tells [] ty (App (Abs a b) u) (opened alphabet b u) w
            (type-open_at alphabet tells [] u a b ty (q ∙ ap Some e) t);
      }

  pub subst_rule-typed : (g : List (Tm N)) (p : Tm N) (s : TypeMap alphabet) (m : TermMap alphabet)
      → IsTyped alphabet m → IsSequent alphabet (sequent alphabet g p)
      → IsSequent alphabet (sequent alphabet (map (subst_tm alphabet s m) g) (subst_tm alphabet s m p))
  subst_rule-typed g p s m w a =
      record { hyps = each g a.hyps; concl = subst-typed s m p (bool_ty alphabet) w a.concl }
    where
      each : (h : List (Tm N)) → AreBool alphabet h → AreBool alphabet (map (subst_tm alphabet s m) h)
      each [] b = tt
      each (x ∷ h) b = (subst-typed s m x (bool_ty alphabet) w b.0, each h b.1)

  -- ---- each derivable sequent is one, where the assumptions and the theorems of the definitions are
  module _ (al : List (Sequent N)) (dl : List (Definition N)) (on_al : AreSequents alphabet al)
      (on_dl : (i : ℕ) (d : Definition N) → slice_get dl i ≡ Some d
      → AreSequents alphabet (theorems alphabet d)) where
    pub derivable-typed : {g : List (Tm N)} {p : Tm N} → Derivable alphabet al dl g p
        → IsSequent alphabet (sequent alphabet g p)
    derivable-typed (Refl {t = t} {ty = ty} w) = refl-typed t ty w
    derivable-typed (Assume {p = p} w) = assume-typed p w
    derivable-typed (EqMp {g = g} {h = h} {p = p} {q = q} {ty = ty} x y) =
        eq_mp-typed g h p q ty (derivable-typed x) (derivable-typed y)
    derivable-typed (AbsThm {g = g} {t = t} {u = u} {ty = ty} v n x) = abs_thm-typed g t u ty v (derivable-typed x)
    derivable-typed (AppThm {g = g} {h = h} {f = f} {k = k} {x = x} {y = y} {a = a} {b = b} d e) =
        app_thm-typed g h f k x y a b (derivable-typed d) (derivable-typed e)
    derivable-typed (DeductAntisym {g = g} {h = h} {p = p} {q = q} d e) =
        deduct_antisym-typed g h p q (derivable-typed d) (derivable-typed e)
    derivable-typed (BetaConv {b = b} {u = u} {a = a} {ty = ty} w) = beta_conv-typed b u a ty w
    derivable-typed (Subst {g = g} {p = p} s m w x) = subst_rule-typed g p s m w (derivable-typed x)
    derivable-typed (Assumption {q = q} i e) = on_al i q e
    derivable-typed (Defined {d = d} {q = q} i j e f) = on_dl i d e j q f
    derivable-typed (SameSet {g = g} {h = h} {p = p} s x) = part-typed alphabet g h p s.back (derivable-typed x)
