-- Each rule gives a theorem where its operands are theorems.
use Rattle.std.specs.Prelude.{not, if◌then◌else◌, ◌&&◌}
use Rattle.std.proofs.Common.{◌≡◌, Bool, true, false, List, [], ◌∷◌, ◌++◌, map}
use Rattle.std.proofs.Common.{Result, Ok, Err, sym, ap, ◌∙◌, subst, inl, inr}
use Rattle.std.proofs.lemmas.Bool.{not-true}
use Rattle.std.proofs.lemmas.Bool.Decides.{not_from_Decides}
use Rattle.std.proofs.lemmas.Option.{same_Some}
use Rattle.ot_logic.specs.Lists.{IsSameSet, AreDistinct}
use Rattle.ot_logic.specs.Trees.{Alphabet, Ty, Variable, Tm, App, Abs, Sequent, Definition}
use Rattle.ot_logic.specs.Hol.{same_ty, fun_ty, bool_ty, as_fun_ty, type_in, type_of, IsWellTyped, close}
use Rattle.ot_logic.specs.Hol.{opened, TypeMap, TermMap, subst_tm, same_tm, equation, minus, is_in, union}
use Rattle.ot_logic.specs.Hol.{once_each, is_free_in_some, sequent_of, IsTyped, IsSequent, Derivable, Refl}
use Rattle.ot_logic.specs.Hol.{Assume, EqMp, AbsThm, AppThm, DeductAntisym, BetaConv, Subst, SameSet}
use Rattle.ot_logic.specs.Faults.{Fault, NotBool, NotAlphaEqual, VarFreeInHyps, NotFunction, ArgumentType}
use Rattle.ot_logic.specs.Answers.{unless, some_or}
use Rattle.ot_logic.specs.Rules.{has_type, within_limit, sides, refl_rule, assume_rule, eq_mp_rule}
use Rattle.ot_logic.specs.Rules.{abs_thm_rule, app_thm_rule, deduct_antisym_rule, beta_conv_rule}
use Rattle.ot_logic.specs.Rules.{subst_rule, sym_rule, trans_rule, proved_hyp, prove_hyp_rule}
use Rattle.ot_laws.specs.Theorem.{IsTheorem}
use Rattle.ot_laws.proofs.Tests.{Tells, cases_of, same_ty-is, same_tm-is, tm_cases, has_type-is, is_free_in_some-is}
use Rattle.ot_laws.proofs.Typing.{as_fun_ty-some, type_of-typed}
use Rattle.ot_laws.proofs.Equations.{equation-typed, equation-sides}
use Rattle.ot_laws.proofs.Steps.{within_limit-ok, sides-ok}
use Rattle.ot_laws.proofs.Sets.{same_set-then, same_set-swap}
use Rattle.ot_laws.proofs.Hypotheses.{distinct-minus, same_set-union, distinct-union}
use Rattle.ot_laws.proofs.Hypotheses.{same_set-once_each, distinct-once_each, IsMember-minus}
use Rattle.ot_laws.proofs.Derived.{sym-derivable, trans-derivable, prove_hyp-derivable}
use Rattle.ot_laws.proofs.Typed.{sequent, part-typed, append-typed, refl-typed}
use Rattle.ot_laws.proofs.Typed.{assume-typed, eq_mp-typed, abs_thm-typed, app_thm-typed}
use Rattle.ot_laws.proofs.Typed.{deduct_antisym-typed, beta_conv-typed, subst_rule-typed}
use Rattle.ot_logic.proofs.Results.{bind-ok, same_Ok, some_or-ok, unless-ok}

module _ {N : Type 0} (alphabet : Alphabet N) (tells : Tells alphabet) (al : List (Sequent N))
    (dl : List (Definition N)) where
  -- the theorem with other hypotheses of one set, each once
  pub theorem-as : (g h : List (Tm N)) (p : Tm N) → IsSameSet g h → AreDistinct h → Derivable alphabet al dl g p
      → IsSequent alphabet (sequent alphabet g p) → IsTheorem alphabet al dl (sequent alphabet h p)
  theorem-as g h p s d k w =
      record { derivable = SameSet s k; sequent = part-typed alphabet g h p s.back w; distinct = d }

  -- the theorem with its conclusion in another form
  pub concluding : (q : Sequent N) (p : Tm N) → q.concl ≡ p → IsTheorem alphabet al dl q
      → IsTheorem alphabet al dl (sequent alphabet q.hyps p)
  concluding q p e t = subst (λ z. IsTheorem alphabet al dl (sequent alphabet q.hyps z)) e t

  -- what was answered
  answered : (q r : Sequent N) → ◌≡◌ {A = Result (Sequent N) (Fault N)} (Ok q) (Ok r) → IsTheorem alphabet al dl q
      → IsTheorem alphabet al dl r
  answered q r h t = subst (IsTheorem alphabet al dl) (same_Ok q r h) t

  within : (q r : Sequent N) → within_limit alphabet q ≡ Ok r → IsTheorem alphabet al dl q
      → IsTheorem alphabet al dl r
  within q r h t = subst (IsTheorem alphabet al dl) (within_limit-ok alphabet tells q r h).1 t

  -- an equation that a theorem concludes
  sides-sound : (q : Sequent N) (e : Ty N × Tm N × Tm N) → sides alphabet q ≡ Ok e → IsTheorem alphabet al dl q
      → IsTheorem alphabet al dl (sequent alphabet q.hyps (equation alphabet e.0 e.1 e.2))
  sides-sound q e h t = concluding q (equation alphabet e.0 e.1 e.2) (sides-ok alphabet tells q e h) t

  pub assume_rule-sound : (p : Tm N) (q : Sequent N) → assume_rule alphabet p ≡ Ok q → IsTheorem alphabet al dl q
  assume_rule-sound p q h =
      elim (cases_of (has_type alphabet p (bool_ty alphabet)) (has_type-is alphabet tells p (bool_ty alphabet))) [
        | inl e ↦ answered (sequent alphabet (p ∷ []) p) q (rw e.0 at h)
            (record { derivable = Assume e.1; sequent = assume-typed alphabet tells p e.1; distinct = (λ i. i, tt) })
        | inr e ↦ let k : ◌≡◌ {A = Result (Sequent N) (Fault N)} (Err NotBool) (Ok q) = rw e.0 at h in cc
      ]

  pub refl_rule-sound : (t : Tm N) (q : Sequent N) → IsWellTyped alphabet t → refl_rule alphabet t ≡ Ok q
      → IsTheorem alphabet al dl q
  refl_rule-sound t q w h =
      let typed = type_of-typed alphabet t w in
      let p : Tm N = equation alphabet (type_of alphabet t) t t in
      within (sequent_of alphabet p) q h
      (record {
        derivable = Refl typed;
        sequent = refl-typed alphabet tells t (type_of alphabet t) typed;
        distinct = tt;
      })

  pub eq_mp_rule-sound : (lower top q : Sequent N) → IsTheorem alphabet al dl lower → IsTheorem alphabet al dl top
      → eq_mp_rule alphabet lower top ≡ Ok q → IsTheorem alphabet al dl q
  eq_mp_rule-sound lower top q a b h =
      let (e, p, k) = bind-ok (sides alphabet lower) _ q h in
      let (u, r, l) = bind-ok (unless NotAlphaEqual (same_tm alphabet e.1 top.concl)) _ q k in
      let same : e.1 ≡ top.concl = (same_tm-is alphabet tells e.1 top.concl).0
      (unless-ok NotAlphaEqual (same_tm alphabet e.1 top.concl) u r) in
      let left = sides-sound lower e p a in
      let right = concluding top e.1 (sym same) b in
      answered (sequent alphabet (union alphabet lower.hyps top.hyps) e.2) q l
      (theorem-as (lower.hyps ++ top.hyps) (union alphabet lower.hyps top.hyps) e.2
      (same_set-union alphabet tells lower.hyps top.hyps)
      (distinct-union alphabet tells lower.hyps top.hyps a.distinct b.distinct)
      (EqMp left.derivable right.derivable)
      (eq_mp-typed alphabet tells lower.hyps top.hyps e.1 e.2 e.0 left.sequent right.sequent))

  pub abs_thm_rule-sound : (v : Variable N) (th q : Sequent N) → IsTheorem alphabet al dl th
      → abs_thm_rule alphabet v th ≡ Ok q → IsTheorem alphabet al dl q
  abs_thm_rule-sound v th q a h =
      let (e, p, k) = bind-ok (sides alphabet th) _ q h in
      let (u, r, l) = bind-ok (unless VarFreeInHyps (not (is_free_in_some alphabet v th.hyps))) _ q k in
      let off = not-true (is_free_in_some alphabet v th.hyps)
      (unless-ok VarFreeInHyps (not (is_free_in_some alphabet v th.hyps)) u r) in
      let fresh = not_from_Decides (is_free_in_some alphabet v th.hyps) (is_free_in_some-is alphabet tells v th.hyps)
      off in
      let t = sides-sound th e p a in
      within (sequent alphabet th.hyps (equation alphabet (fun_ty alphabet v.ty e.0) (Abs v.ty (close alphabet v e.1))
      (Abs v.ty (close alphabet v e.2)))) q l
      (record {
        derivable = AbsThm v fresh t.derivable;
        sequent = abs_thm-typed alphabet tells th.hyps e.1 e.2 e.0 v
            t.sequent;
        distinct = a.distinct;
      })

  pub app_thm_rule-sound : (lower top q : Sequent N) → IsTheorem alphabet al dl lower → IsTheorem alphabet al dl top
      → app_thm_rule alphabet lower top ≡ Ok q → IsTheorem alphabet al dl q
  app_thm_rule-sound lower top q a b h =
      let (f, p, k) = bind-ok (sides alphabet lower) _ q h in
      let (x, r, l) = bind-ok (sides alphabet top) _ q k in
      let (c, s, m) = bind-ok (some_or NotFunction (as_fun_ty alphabet f.0)) _ q l in
      let (u, t, n) = bind-ok (unless ArgumentType (same_ty alphabet c.0 x.0)) _ q m in
      let split : f.0 ≡ fun_ty alphabet c.0 c.1 =
      as_fun_ty-some alphabet tells f.0 c.0 c.1 (some_or-ok NotFunction (as_fun_ty alphabet f.0) c s) in
      let same : c.0 ≡ x.0 =
      (same_ty-is alphabet tells c.0 x.0).0 (unless-ok ArgumentType (same_ty alphabet c.0 x.0) u t) in
      let left = concluding lower (equation alphabet (fun_ty alphabet c.0 c.1) f.1 f.2)
      (sides-ok alphabet tells lower f p ∙ ap (λ z. equation alphabet z f.1 f.2) split) a in
      let right = concluding top (equation alphabet c.0 x.1 x.2)
      (sides-ok alphabet tells top x r ∙ ap (λ z. equation alphabet z x.1 x.2) (sym same)) b in
      let g = lower.hyps ++ top.hyps in
      let result : Tm N = equation alphabet c.1 (App f.1 x.1) (App f.2 x.2) in
      within (sequent alphabet (union alphabet lower.hyps top.hyps) result) q n
      (theorem-as g (union alphabet lower.hyps top.hyps) result (same_set-union alphabet tells lower.hyps top.hyps)
      (distinct-union alphabet tells lower.hyps top.hyps a.distinct b.distinct)
      (AppThm left.derivable right.derivable)
      (app_thm-typed alphabet tells lower.hyps top.hyps f.1 f.2 x.1 x.2 c.0 c.1 left.sequent right.sequent))

  pub deduct_antisym_rule-sound : (lower top q : Sequent N) → IsTheorem alphabet al dl lower
      → IsTheorem alphabet al dl top → deduct_antisym_rule alphabet lower top ≡ Ok q → IsTheorem alphabet al dl q
  deduct_antisym_rule-sound lower top q a b h =
      let g = minus alphabet top.concl lower.hyps in
      let k = minus alphabet lower.concl top.hyps in
      let result : Tm N = equation alphabet (bool_ty alphabet) lower.concl top.concl in
      within (sequent alphabet (union alphabet g k) result) q h
      (theorem-as (g ++ k) (union alphabet g k) result (same_set-union alphabet tells g k)
      (distinct-union alphabet tells g k (distinct-minus alphabet tells top.concl lower.hyps a.distinct)
      (distinct-minus alphabet tells lower.concl top.hyps b.distinct))
      (DeductAntisym a.derivable b.derivable)
      (deduct_antisym-typed alphabet tells lower.hyps top.hyps lower.concl top.concl a.sequent b.sequent))

  pub beta_conv_rule-sound : (t : Tm N) (q : Sequent N) → IsWellTyped alphabet t → beta_conv_rule alphabet t ≡ Ok q
      → IsTheorem alphabet al dl q
  beta_conv_rule-sound (App (Abs a b) u) q w h =
      let ty = type_of alphabet (App (Abs a b) u) in
      let typed = type_of-typed alphabet (App (Abs a b) u) w in
      let p : Tm N = equation alphabet ty (App (Abs a b) u) (opened alphabet b u) in
      within (sequent_of alphabet p) q h
      (record {
        derivable = BetaConv typed;
        sequent = beta_conv-typed alphabet tells b u a ty typed;
        distinct = tt;
      })
  beta_conv_rule-sound _ q w h = cc

  pub subst_rule-sound : (s : TypeMap alphabet) (m : TermMap alphabet) (th q : Sequent N) → IsTyped alphabet m
      → IsTheorem alphabet al dl th → subst_rule alphabet s m th ≡ Ok q → IsTheorem alphabet al dl q
  subst_rule-sound s m th q w a h =
      let g = map (subst_tm alphabet s m) th.hyps in
      let p : Tm N = subst_tm alphabet s m th.concl in
      within (sequent alphabet (once_each alphabet g) p) q h
      (theorem-as g (once_each alphabet g) p (same_set-once_each alphabet tells g)
      (distinct-once_each alphabet tells g)
      (Subst s m w a.derivable)
      (subst_rule-typed alphabet tells th.hyps th.concl s m w a.sequent))

  pub sym_rule-sound : (th q : Sequent N) → IsTheorem alphabet al dl th → sym_rule alphabet th ≡ Ok q
      → IsTheorem alphabet al dl q
  sym_rule-sound th q a h =
      let (e, p, k) = bind-ok (sides alphabet th) _ q h in
      let t = sides-sound th e p a in
      let typed = equation-sides alphabet tells e.0 (bool_ty alphabet) e.1 e.2 t.sequent.concl in
      within (sequent alphabet th.hyps (equation alphabet e.0 e.2 e.1)) q k
      (record {
        derivable = sym-derivable alphabet tells al dl th.hyps e.1 e.2 e.0 typed.0 t.derivable;
        sequent =
            record { hyps = a.sequent.hyps; concl = equation-typed alphabet tells [] e.0 e.2 e.1 typed.1 typed.0 };
        distinct = a.distinct;
      })

  -- two equations of which one side is the same, one after the other
  chain : (g h k : List (Tm N)) (a b c : Tm N) (ty : Ty N)
      → IsTheorem alphabet al dl (sequent alphabet g (equation alphabet ty a b))
      → IsTheorem alphabet al dl (sequent alphabet h (equation alphabet ty b c)) → IsSameSet (h ++ g) k
      → AreDistinct k → IsTheorem alphabet al dl (sequent alphabet k (equation alphabet ty a c))
  chain g h k a b c ty p q s d =
      let left = equation-sides alphabet tells ty (bool_ty alphabet) a b p.sequent.concl in
      let right = equation-sides alphabet tells ty (bool_ty alphabet) b c q.sequent.concl in
      let result : Tm N = equation alphabet ty a c in
      theorem-as (h ++ g) k result s d
      (trans-derivable alphabet tells al dl g h a b c ty left.0 p.derivable q.derivable)
      (record {
        hyps = (append-typed alphabet h g (equation alphabet ty b c) (equation alphabet ty a b) q.sequent
            p.sequent).hyps;
        concl = equation-typed alphabet tells [] ty a c left.0 right.1;
      })

  pub trans_rule-sound : (lower top q : Sequent N) → IsTheorem alphabet al dl lower → IsTheorem alphabet al dl top
      → trans_rule alphabet lower top ≡ Ok q → IsTheorem alphabet al dl q
  trans_rule-sound lower top q a b h =
      let (e, p, k) = bind-ok (sides alphabet lower) _ q h in
      let (f, r, l) = bind-ok (sides alphabet top) _ q k in
      let left = sides-sound lower e p a in
      let right = sides-sound top f r b in
      let first = equation-sides alphabet tells e.0 (bool_ty alphabet) e.1 e.2 left.sequent.concl in
      let second = equation-sides alphabet tells f.0 (bool_ty alphabet) f.1 f.2 right.sequent.concl in
      let g = union alphabet lower.hyps top.hyps in
      let both = same_set-union alphabet tells lower.hyps top.hyps in
      let once = distinct-union alphabet tells lower.hyps top.hyps a.distinct b.distinct in
      let meets : e.2 ≡ f.1 → f.0 ≡ e.0 =
      λ same. same_Some f.0 e.0 (sym second.0 ∙ ap (type_in alphabet []) (sym same) ∙ first.1) in
      let meets_back : f.2 ≡ e.1 → f.0 ≡ e.0 =
      λ same. same_Some f.0 e.0 (sym second.1 ∙ ap (type_in alphabet []) same ∙ first.0) in
      elim (tm_cases alphabet tells e.2 f.1) [
        | inl c ↦
            let next = subst (λ z. IsTheorem alphabet al dl (sequent alphabet top.hyps z))
            (λ i. equation alphabet (meets c.1 i) (sym c.1 i) f.2) right in
            answered (sequent alphabet g (equation alphabet e.0 e.1 f.2)) q (rw c.0 at l)
            (chain lower.hyps top.hyps g e.1 e.2 f.2 e.0 left next
            (same_set-then (same_set-swap lower.hyps top.hyps) both) once)
        | inr c ↦ elim (tm_cases alphabet tells f.2 e.1) [
          | inl d ↦
              let prior = subst (λ z. IsTheorem alphabet al dl (sequent alphabet top.hyps z))
              (λ i. equation alphabet (meets_back d.1 i) f.1 (d.1 i)) right in
              answered (sequent alphabet g (equation alphabet e.0 f.1 e.2)) q (rw (c.0, d.0) at l)
              (chain top.hyps lower.hyps g f.1 e.1 e.2 e.0 prior left both once)
          | inr d ↦ let none : ◌≡◌ {A = Result (Sequent N) (Fault N)} (Err NotAlphaEqual) (Ok q) =
              rw (c.0, d.0) at l in cc
        ]
      ]

  -- a hypothesis that a lemma proves
  proved_hyp-sound : (lemma other : Sequent N) → IsTheorem alphabet al dl lemma → IsTheorem alphabet al dl other
      → IsTheorem alphabet al dl (proved_hyp alphabet lemma other)
  proved_hyp-sound lemma other a b =
      let g = minus alphabet lemma.concl other.hyps in
      theorem-as (lemma.hyps ++ g) (union alphabet lemma.hyps g) other.concl
      (same_set-union alphabet tells lemma.hyps g)
      (distinct-union alphabet tells lemma.hyps g a.distinct
      (distinct-minus alphabet tells lemma.concl other.hyps b.distinct))
      (prove_hyp-derivable alphabet tells al dl lemma.hyps other.hyps lemma.concl other.concl a.derivable b.derivable)
      (append-typed alphabet lemma.hyps g lemma.concl other.concl a.sequent
      (part-typed alphabet other.hyps g other.concl
      (λ x i. (IsMember-minus alphabet tells x lemma.concl other.hyps i).0) b.sequent))

  pub prove_hyp_rule-sound : (lower top q : Sequent N) → IsTheorem alphabet al dl lower → IsTheorem alphabet al dl top
      → prove_hyp_rule alphabet lower top ≡ Ok q → IsTheorem alphabet al dl q
  prove_hyp_rule-sound lower top q a b h =
      go (not (is_in alphabet top.concl lower.hyps) && is_in alphabet lower.concl top.hyps) (same_Ok _ q h)
    where
      go : (c : Bool) → (if c then proved_hyp alphabet lower top else proved_hyp alphabet top lower) ≡ q
          → IsTheorem alphabet al dl q
      go true e = subst (IsTheorem alphabet al dl) e (proved_hyp-sound lower top a b)
      go false e = subst (IsTheorem alphabet al dl) e (proved_hyp-sound top lower b a)
