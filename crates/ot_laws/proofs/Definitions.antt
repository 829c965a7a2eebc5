-- The theorems of accepted definitions are sequents.
use Rattle.std.specs.Prelude.{slice_get}
use Rattle.std.specs.Option.{unwrap_or}
use Rattle.std.proofs.Common.{◌≡◌, ℕ, zero, suc, ◌<◌, List, [], ◌∷◌, Some, refl, sym, ap, ◌∙◌, subst, arith, take}
use Rattle.std.proofs.lemmas.Option.{same_Some}
use Rattle.ot_logic.specs.Trees.{Alphabet, Ty, TyOp, Variable, Tm, Con, Bound, App}
use Rattle.ot_logic.specs.Trees.{Abs, Sequent, Definition, ConDef, ListDef, TyDef}
use Rattle.ot_logic.specs.Hol.{fun_ty, bool_ty, HasType, type_in, subst_tm, equation, theorems}
use Rattle.ot_logic.specs.Hol.{theorems_at, type_theorems, sequent_of, type_of, constants_for}
use Rattle.ot_logic.specs.Hol.{tys_of_vars, IsTyped, IsSequent, IsFine, Accepted, Derivable}
use Rattle.ot_laws.specs.Theorem.{AreSequents}
use Rattle.ot_laws.proofs.Tests.{Tells}
use Rattle.ot_laws.proofs.Typing.{app-typed, applied-some, type-more}
use Rattle.ot_laws.proofs.Equations.{equation-typed}
use Rattle.ot_laws.proofs.Typed.{subst-typed, derivable-typed}

-- what stands before a place stands at an earlier one
before : {X : Type 0} (xs : List X) (i k : ℕ) (c : X) → slice_get (take i xs) k ≡ Some c
    → (k < i) × (slice_get xs k ≡ Some c)
before [] zero k c g = cc
before [] (suc i) k c g = cc
before (x ∷ xs) zero k c g = cc
before (x ∷ xs) (suc i) zero c g = (omega arith, g)
before (x ∷ xs) (suc i) (suc k) c g = let w = before xs i k c g in (omega (arith, w.0), w.1)

module _ {N : Type 0} (alphabet : Alphabet N) where
  closed : (t : Tm N) → HasType alphabet t (bool_ty alphabet) → IsSequent alphabet (sequent_of alphabet t)
  closed t h = record { hyps = tt; concl = h }

  one-sequent : (t : Tm N) → HasType alphabet t (bool_ty alphabet) → AreSequents alphabet (sequent_of alphabet t ∷ [])
  one-sequent t h zero q e = let p : sequent_of alphabet t ≡ q = cc in subst (IsSequent alphabet) p (closed t h)
  one-sequent t h (suc j) q e = cc

  two-sequents : (t u : Tm N) → HasType alphabet t (bool_ty alphabet) → HasType alphabet u (bool_ty alphabet)
      → AreSequents alphabet (sequent_of alphabet t ∷ sequent_of alphabet u ∷ [])
  two-sequents t u h k zero q e = let p : sequent_of alphabet t ≡ q = cc in subst (IsSequent alphabet) p (closed t h)
  two-sequents t u h k (suc zero) q e = let p : sequent_of alphabet u ≡ q = cc in
      subst (IsSequent alphabet) p (closed u k)
  two-sequents t u h k (suc (suc j)) q e = cc

  constants-typed : (ps : List (N × Variable N)) → IsTyped alphabet (constants_for alphabet ps)
  constants-typed [] = tt
  constants-typed (p ∷ ps) = (refl, constants-typed ps)

  -- the premise of a definition is a sequent
  abbrev pub HasPremise : Definition N → Type 0
  HasPremise (ConDef n t) = Unit {0}
  HasPremise (ListDef ps q) = IsSequent alphabet q
  HasPremise (TyDef n abs rep vs q) = IsSequent alphabet q

  -- no theorem of a definition has a hypothesis
  no_hyps-at : (n abs rep : N) (vs : List N) (t : Tm N) (j : ℕ) (q : Sequent N)
      → slice_get (theorems_at alphabet n abs rep vs t) j ≡ Some q → q.hyps ≡ []
  no_hyps-at n abs rep vs (App p t) zero q e = ap (λ z. z.hyps) (sym (same_Some _ q e))
  no_hyps-at n abs rep vs (App p t) (suc zero) q e = ap (λ z. z.hyps) (sym (same_Some _ q e))
  no_hyps-at n abs rep vs (App p t) (suc (suc j)) q e = cc
  no_hyps-at n abs rep vs _ j q e = cc

  pub no_hyps-theorems : (d : Definition N) (j : ℕ) (q : Sequent N) → slice_get (theorems alphabet d) j ≡ Some q
      → q.hyps ≡ []
  no_hyps-theorems (ConDef n t) zero q e = ap (λ z. z.hyps) (sym (same_Some _ q e))
  no_hyps-theorems (ConDef n t) (suc j) q e = cc
  no_hyps-theorems (ListDef ps r) zero q e = ap (λ z. z.hyps) (sym (same_Some _ q e))
  no_hyps-theorems (ListDef ps r) (suc j) q e = cc
  no_hyps-theorems (TyDef n abs rep vs r) j q e = no_hyps-at n abs rep vs r.concl j q e

module _ {N : Type 0} (alphabet : Alphabet N) (tells : Tells alphabet) where
  -- a constant at a function type, applied
  con-app : (l : List (Ty N)) (n : N) (a b : Ty N) (x : Tm N) → type_in alphabet l x ≡ Some a
      → type_in alphabet l (App (Con n (fun_ty alphabet a b)) x) ≡ Some b
  con-app l n a b x h = app-typed alphabet tells l (Con n (fun_ty alphabet a b)) x a b refl h

  type-sequents : (ty u : Ty N) (abs rep : N) (p : Tm N) → HasType alphabet p (fun_ty alphabet u (bool_ty alphabet))
      → AreSequents alphabet (type_theorems alphabet ty u abs rep p)
  type-sequents ty u abs rep p h =
      let c : Tm N = Con abs (fun_ty alphabet u ty) in
      let r : Tm N = Con rep (fun_ty alphabet ty u) in
      let r0 : type_in alphabet (ty ∷ []) (App r (Bound 0)) ≡ Some u = con-app (ty ∷ []) rep ty u (Bound 0) refl in
      let cr : type_in alphabet (ty ∷ []) (App c (App r (Bound 0))) ≡ Some ty =
      con-app (ty ∷ []) abs u ty (App r (Bound 0)) r0 in
      let left : type_in alphabet [] (Abs ty (App c (App r (Bound 0)))) ≡ Some (fun_ty alphabet ty ty) = rw cr refl in
      let c0 : type_in alphabet (u ∷ []) (App c (Bound 0)) ≡ Some ty = con-app (u ∷ []) abs u ty (Bound 0) refl in
      let rc : type_in alphabet (u ∷ []) (App r (App c (Bound 0))) ≡ Some u =
      con-app (u ∷ []) rep ty u (App c (Bound 0)) c0 in
      let eq : type_in alphabet (u ∷ []) (equation alphabet u (App r (App c (Bound 0))) (Bound 0)) ≡ Some (bool_ty alphabet) = equation-typed alphabet tells (u ∷ []) u (App r (App c (Bound 0))) (Bound 0) rc refl in
      let test : type_in alphabet [] (Abs u (equation alphabet u (App r (App c (Bound 0))) (Bound 0))) ≡ Some (fun_ty alphabet u (bool_ty alphabet)) = rw eq refl in
      let p0 : type_in alphabet (u ∷ []) (App p (Bound 0)) ≡ Some (bool_ty alphabet) =
      app-typed alphabet tells (u ∷ []) p (Bound 0) u (bool_ty alphabet)
      (type-more alphabet tells [] (u ∷ []) p (fun_ty alphabet u (bool_ty alphabet)) h) refl in
      let pred : type_in alphabet [] (Abs u (App p (Bound 0))) ≡ Some (fun_ty alphabet u (bool_ty alphabet)) =
      rw p0 refl in
      two-sequents alphabet
      (equation alphabet (fun_ty alphabet ty ty) (Abs ty (App c (App r (Bound 0)))) (Abs ty (Bound 0)))
      (equation alphabet (fun_ty alphabet u (bool_ty alphabet))
      (Abs u (equation alphabet u (App r (App c (Bound 0))) (Bound 0))) (Abs u (App p (Bound 0))))
      (equation-typed alphabet tells [] (fun_ty alphabet ty ty) (Abs ty (App c (App r (Bound 0)))) (Abs ty (Bound 0))
      left refl)
      (equation-typed alphabet tells [] (fun_ty alphabet u (bool_ty alphabet))
      (Abs u (equation alphabet u (App r (App c (Bound 0))) (Bound 0))) (Abs u (App p (Bound 0))) test pred)

  premise-split : (n abs rep : N) (vs : List N) (q p t : Tm N) → q ≡ App p t → HasType alphabet q (bool_ty alphabet)
      → AreSequents alphabet (theorems_at alphabet n abs rep vs q)
  premise-split n abs rep vs q p t e h =
      let k : HasType alphabet (App p t) (bool_ty alphabet) =
      subst (λ z. HasType alphabet z (bool_ty alphabet)) e h in
      let (a, f, x) = applied-some alphabet tells (type_in alphabet [] p) (type_in alphabet [] t) (bool_ty alphabet)
      k in
      let u : type_of alphabet t ≡ a = ap (λ o. unwrap_or o (bool_ty alphabet)) x in
      let g : HasType alphabet p (fun_ty alphabet (type_of alphabet t) (bool_ty alphabet)) =
      f ∙ ap (λ z. Some (fun_ty alphabet z (bool_ty alphabet))) (sym u) in
      subst (λ z. AreSequents alphabet (theorems_at alphabet n abs rep vs z)) (sym e)
      (type-sequents (TyOp n (tys_of_vars alphabet vs)) (type_of alphabet t) abs rep p g)

  -- the theorems of a definition whose conditions hold
  pub definition-sequents : (al : List (Sequent N)) (dl : List (Definition N)) (d : Definition N)
      → IsFine alphabet al dl d → HasPremise alphabet d → AreSequents alphabet (theorems alphabet d)
  definition-sequents al dl (ConDef n t) f h =
      one-sequent alphabet (equation alphabet (type_of alphabet t) (Con n (type_of alphabet t)) t)
      (equation-typed alphabet tells [] (type_of alphabet t) (Con n (type_of alphabet t)) t refl f.typed)
  definition-sequents al dl (ListDef ps q) f h =
      one-sequent alphabet (subst_tm alphabet [] (constants_for alphabet ps) q.concl)
      (subst-typed alphabet tells [] (constants_for alphabet ps) q.concl (bool_ty alphabet)
      (constants-typed alphabet ps) h.concl)
  definition-sequents al dl (TyDef n abs rep vs q) f h =
      premise-split n abs rep vs q.concl f.parts.0 f.parts.1 f.parts.2 h.concl

  -- where all that is derivable so far is a sequent, a premise is one
  premise-typed : (al : List (Sequent N)) (dl : List (Definition N)) (d : Definition N) → AreSequents alphabet al
      → ((i : ℕ) (c : Definition N) → slice_get dl i ≡ Some c → AreSequents alphabet (theorems alphabet c))
      → IsFine alphabet al dl d → HasPremise alphabet d
  premise-typed al dl (ConDef n t) a h f = tt
  premise-typed al dl (ListDef ps q) a h f = derivable-typed alphabet tells al dl a h f.derivable
  premise-typed al dl (TyDef n abs rep vs q) a h f = derivable-typed alphabet tells al dl a h f.derivable

  -- the theorems of each accepted definition, by the number of definitions before it
  accepted-below : (al : List (Sequent N)) (dl : List (Definition N)) → AreSequents alphabet al
      → Accepted alphabet al dl → (n i : ℕ) (d : Definition N) → i < n → slice_get dl i ≡ Some d
      → AreSequents alphabet (theorems alphabet d)
  accepted-below al dl a ok zero i d h e = absurd (omega arith)
  accepted-below al dl a ok (suc n) i d h e =
      let earlier = λ (k : ℕ) (c : Definition N) (g : slice_get (take i dl) k ≡ Some c). let w = before dl i k c g in
      accepted-below al dl a ok n k c (omega (arith, w.0)) w.1 in
      let fine = (ok.each i d e).fine in
      definition-sequents al (take i dl) d fine (premise-typed al (take i dl) d a earlier fine)

  pub accepted-sequents : (al : List (Sequent N)) (dl : List (Definition N)) → AreSequents alphabet al
      → Accepted alphabet al dl → (i : ℕ) (d : Definition N) → slice_get dl i ≡ Some d
      → AreSequents alphabet (theorems alphabet d)
  accepted-sequents al dl a ok i d e = accepted-below al dl a ok (suc i) i d (omega arith) e

  -- so is all that is derivable from assumptions that are sequents
  pub accepted-sound : (al : List (Sequent N)) (dl : List (Definition N)) → AreSequents alphabet al
      → Accepted alphabet al dl → (q : Sequent N) → Derivable alphabet al dl q.hyps q.concl → IsSequent alphabet q
  accepted-sound al dl a ok q d = derivable-typed alphabet tells al dl a (accepted-sequents al dl a ok) d
