-- Each case that holds gives a theorem, where its operands are theorems.
use Rattle.std.specs.Prelude.{not, is_some}
use Rattle.std.specs.List.{list_all}
use Rattle.std.proofs.Common.{◌≡◌, Bool, true, List, [], ◌∷◌, ◌++◌, map, Option}
use Rattle.std.proofs.Common.{Some, None, Ok, refl, sym, ap, ◌∙◌, subst}
use Rattle.std.proofs.lemmas.Bool.{not-true, and_parts}
use Rattle.std.proofs.lemmas.Bool.Decides.{not_from_Decides}
use Rattle.ot_logic.specs.Trees.{Alphabet, Ty, Variable, Tm, App, Abs, Sequent, Definition}
use Rattle.ot_logic.specs.Hol.{same_ty, fun_ty, bool_ty, as_fun_ty, type_in, type_of, HasType}
use Rattle.ot_logic.specs.Hol.{IsWellTyped, close, opened, TypeMap, TermMap, subst_tm, same_tm}
use Rattle.ot_logic.specs.Hol.{equation, as_equation, minus, union, once_each, is_free_in_some, IsTyped}
use Rattle.ot_logic.specs.Hol.{Refl, Assume, EqMp, AbsThm, AppThm, DeductAntisym, BetaConv, Subst}
use Rattle.ot_logic.specs.Answers.{unless, some_or}
use Rattle.ot_logic.specs.Rules.{has_type}
use Rattle.ot_laws.specs.Theorem.{IsTheorem}
use Rattle.ot_laws.proofs.Tests.{Tells, same_ty-is, same_tm-is, has_type-is, is_free_in_some-is}
use Rattle.ot_laws.proofs.Typing.{as_fun_ty-some, type_of-typed}
use Rattle.ot_laws.proofs.Equations.{as_equation-some}
use Rattle.ot_laws.proofs.Hypotheses.{distinct-minus, same_set-union, distinct-union}
use Rattle.ot_laws.proofs.Hypotheses.{same_set-once_each, distinct-once_each}
use Rattle.ot_laws.proofs.Typed.{sequent, refl-typed, assume-typed, eq_mp-typed, abs_thm-typed}
use Rattle.ot_laws.proofs.Typed.{app_thm-typed, deduct_antisym-typed, beta_conv-typed, subst_rule-typed}
use Rattle.ot_log_format.specs.Tokens.{BadStep}
use Rattle.ot_log_format.specs.Steps.{Step, is_well_typed, is_proposition, sides_of, refl_step}
use Rattle.ot_log_format.specs.Steps.{assume_step, eq_mp_step, abs_thm_step, app_thm_step}
use Rattle.ot_log_format.specs.Steps.{deduct_antisym_step, beta_step, first_pairs, subst_step}
use Rattle.ot_logic.proofs.Results.{bind-ok, same_Ok, some_or-ok, unless-ok}
use Rattle.ot_laws.proofs.Sound.{theorem-as, concluding}

module _ {N : Type 0} (alphabet : Alphabet N) where
  -- a term that has a type
  pub well_typed-is : (t : Tm N) → is_well_typed alphabet t ≡ true → IsWellTyped alphabet t
  well_typed-is t h = from (type_in alphabet [] t) refl h
    where
      from : (o : Option (Ty N)) → type_in alphabet [] t ≡ o → is_some o ≡ true → IsWellTyped alphabet t
      from (Some ty) e k = (ty, e)
      from None e k = cc

module _ {N : Type 0} (alphabet : Alphabet N) (tells : Tells alphabet) where
  pub proposition-is : (t : Tm N) → is_proposition alphabet t ≡ true → HasType alphabet t (bool_ty alphabet)
  proposition-is t h = (has_type-is alphabet tells t (bool_ty alphabet)).0 h

  -- terms that pass the test have their variables' types
  pub typed-is : (m : TermMap alphabet) → list_all (λ p. has_type alphabet p.1 p.0.ty) m ≡ true → IsTyped alphabet m
  typed-is [] h = tt
  typed-is (p ∷ m) h =
      let k = and_parts (has_type alphabet p.1 p.0.ty) (list_all (λ q. has_type alphabet q.1 q.0.ty) m) h in
      ((has_type-is alphabet tells p.1 p.0.ty).0 k.0, typed-is m k.1)

  -- the conclusion is the equation of the two sides
  pub sides_of-ok : (q : Sequent N) (e : Ty N × Tm N × Tm N) → sides_of alphabet q ≡ Ok e
      → q.concl ≡ equation alphabet e.0 e.1 e.2
  sides_of-ok q e h =
      as_equation-some alphabet tells q.concl e.0 e.1 e.2 (some_or-ok BadStep (as_equation alphabet q.concl) e h)

module _ {N : Type 0} (alphabet : Alphabet N) (tells : Tells alphabet) (al : List (Sequent N))
    (dl : List (Definition N)) where
  -- what was given
  given : (q r : Sequent N) → ◌≡◌ {A = Step alphabet} (Ok q) (Ok r) → IsTheorem alphabet al dl q
      → IsTheorem alphabet al dl r
  given q r h t = subst (IsTheorem alphabet al dl) (same_Ok q r h) t

  -- an equation that a theorem concludes
  sides-sound : (q : Sequent N) (e : Ty N × Tm N × Tm N) → sides_of alphabet q ≡ Ok e → IsTheorem alphabet al dl q
      → IsTheorem alphabet al dl (sequent alphabet q.hyps (equation alphabet e.0 e.1 e.2))
  sides-sound q e h t = concluding alphabet tells al dl q (equation alphabet e.0 e.1 e.2)
      (sides_of-ok alphabet tells q e h) t

  pub refl-sound : (t : Tm N) (q : Sequent N) → refl_step alphabet t ≡ Ok q → IsTheorem alphabet al dl q
  refl-sound t q h =
      let (u, p, k) = bind-ok (unless BadStep (is_well_typed alphabet t)) _ q h in
      let w = well_typed-is alphabet t (unless-ok BadStep (is_well_typed alphabet t) u p) in
      let typed = type_of-typed alphabet t w in
      given (sequent alphabet [] (equation alphabet (type_of alphabet t) t t)) q k
      (record {
        derivable = Refl typed;
        sequent = refl-typed alphabet tells t (type_of alphabet t) typed;
        distinct = tt;
      })

  pub assume-sound : (p : Tm N) (q : Sequent N) → assume_step alphabet p ≡ Ok q → IsTheorem alphabet al dl q
  assume-sound p q h =
      let (u, e, k) = bind-ok (unless BadStep (is_proposition alphabet p)) _ q h in
      let w = proposition-is alphabet tells p (unless-ok BadStep (is_proposition alphabet p) u e) in
      given (sequent alphabet (p ∷ []) p) q k
      (record { derivable = Assume w; sequent = assume-typed alphabet tells p w; distinct = (λ i. i, tt) })

  pub eq_mp-sound : (a b q : Sequent N) → IsTheorem alphabet al dl a → IsTheorem alphabet al dl b
      → eq_mp_step alphabet a b ≡ Ok q → IsTheorem alphabet al dl q
  eq_mp-sound a b q s t h =
      let (e, p, k) = bind-ok (sides_of alphabet a) _ q h in
      let (u, r, l) = bind-ok (unless BadStep (same_tm alphabet e.1 b.concl)) _ q k in
      let same : e.1 ≡ b.concl =
      (same_tm-is alphabet tells e.1 b.concl).0 (unless-ok BadStep (same_tm alphabet e.1 b.concl) u r) in
      let left = sides-sound a e p s in
      let right = concluding alphabet tells al dl b e.1 (sym same) t in
      given (sequent alphabet (union alphabet a.hyps b.hyps) e.2) q l
      (theorem-as alphabet tells al dl (a.hyps ++ b.hyps) (union alphabet a.hyps b.hyps) e.2
      (same_set-union alphabet tells a.hyps b.hyps)
      (distinct-union alphabet tells a.hyps b.hyps s.distinct t.distinct)
      (EqMp left.derivable right.derivable)
      (eq_mp-typed alphabet tells a.hyps b.hyps e.1 e.2 e.0 left.sequent right.sequent))

  pub abs_thm-sound : (v : Variable N) (a q : Sequent N) → IsTheorem alphabet al dl a → abs_thm_step alphabet v a
      ≡ Ok q → IsTheorem alphabet al dl q
  abs_thm-sound v a q s h =
      let (e, p, k) = bind-ok (sides_of alphabet a) _ q h in
      let (u, r, l) = bind-ok (unless BadStep (not (is_free_in_some alphabet v a.hyps))) _ q k in
      let off = not-true (is_free_in_some alphabet v a.hyps)
      (unless-ok BadStep (not (is_free_in_some alphabet v a.hyps)) u r) in
      let fresh = not_from_Decides (is_free_in_some alphabet v a.hyps) (is_free_in_some-is alphabet tells v a.hyps)
      off in
      let t = sides-sound a e p s in
      given (sequent alphabet a.hyps (equation alphabet (fun_ty alphabet v.ty e.0) (Abs v.ty (close alphabet v e.1))
      (Abs v.ty (close alphabet v e.2)))) q l
      (record {
        derivable = AbsThm v fresh t.derivable;
        sequent = abs_thm-typed alphabet tells a.hyps e.1 e.2 e.0 v
            t.sequent;
        distinct = s.distinct;
      })

  pub app_thm-sound : (a b q : Sequent N) → IsTheorem alphabet al dl a → IsTheorem alphabet al dl b
      → app_thm_step alphabet a b ≡ Ok q → IsTheorem alphabet al dl q
  app_thm-sound a b q s t h =
      let (f, p, k) = bind-ok (sides_of alphabet a) _ q h in
      let (x, r, l) = bind-ok (sides_of alphabet b) _ q k in
      let (c, i, m) = bind-ok (some_or BadStep (as_fun_ty alphabet f.0)) _ q l in
      let (u, j, n) = bind-ok (unless BadStep (same_ty alphabet c.0 x.0)) _ q m in
      let split : f.0 ≡ fun_ty alphabet c.0 c.1 =
      as_fun_ty-some alphabet tells f.0 c.0 c.1 (some_or-ok BadStep (as_fun_ty alphabet f.0) c i) in
      let same : c.0 ≡ x.0 =
      (same_ty-is alphabet tells c.0 x.0).0 (unless-ok BadStep (same_ty alphabet c.0 x.0) u j) in
      let left = concluding alphabet tells al dl a (equation alphabet (fun_ty alphabet c.0 c.1) f.1 f.2)
      (sides_of-ok alphabet tells a f p ∙ ap (λ z. equation alphabet z f.1 f.2) split) s in
      let right = concluding alphabet tells al dl b (equation alphabet c.0 x.1 x.2)
      (sides_of-ok alphabet tells b x r ∙ ap (λ z. equation alphabet z x.1 x.2) (sym same)) t in
      let result : Tm N = equation alphabet c.1 (App f.1 x.1) (App f.2 x.2) in
      given (sequent alphabet (union alphabet a.hyps b.hyps) result) q n
      (theorem-as alphabet tells al dl (a.hyps ++ b.hyps) (union alphabet a.hyps b.hyps) result
      (same_set-union alphabet tells a.hyps b.hyps)
      (distinct-union alphabet tells a.hyps b.hyps s.distinct t.distinct)
      (AppThm left.derivable right.derivable)
      (app_thm-typed alphabet tells a.hyps b.hyps f.1 f.2 x.1 x.2 c.0 c.1 left.sequent right.sequent))

  pub deduct_antisym-sound : (a b q : Sequent N) → IsTheorem alphabet al dl a → IsTheorem alphabet al dl b
      → deduct_antisym_step alphabet a b ≡ Ok q → IsTheorem alphabet al dl q
  deduct_antisym-sound a b q s t h =
      let g = minus alphabet b.concl a.hyps in
      let k = minus alphabet a.concl b.hyps in
      let result : Tm N = equation alphabet (bool_ty alphabet) a.concl b.concl in
      given (sequent alphabet (union alphabet g k) result) q h
      (theorem-as alphabet tells al dl (g ++ k) (union alphabet g k) result (same_set-union alphabet tells g k)
      (distinct-union alphabet tells g k (distinct-minus alphabet tells b.concl a.hyps s.distinct)
      (distinct-minus alphabet tells a.concl b.hyps t.distinct))
      (DeductAntisym s.derivable t.derivable)
      (deduct_antisym-typed alphabet tells a.hyps b.hyps a.concl b.concl s.sequent t.sequent))

  pub beta-sound : (t : Tm N) (q : Sequent N) → beta_step alphabet t ≡ Ok q → IsTheorem alphabet al dl q
  beta-sound (App (Abs a b) u) q h =
      let t : Tm N = App (Abs a b) u in
      let (x, p, k) = bind-ok (unless BadStep (is_well_typed alphabet t)) _ q h in
      let w = well_typed-is alphabet t (unless-ok BadStep (is_well_typed alphabet t) x p) in
      let ty = type_of alphabet t in
      let typed = type_of-typed alphabet t w in
      given (sequent alphabet [] (equation alphabet ty t (opened alphabet b u))) q k
      (record {
        derivable = BetaConv typed;
        sequent = beta_conv-typed alphabet tells b u a ty typed;
        distinct = tt;
      })
  beta-sound _ q h = cc

  pub subst-sound : (s : TypeMap alphabet) (m : TermMap alphabet) (a q : Sequent N) → IsTheorem alphabet al dl a
      → subst_step alphabet s m a ≡ Ok q → IsTheorem alphabet al dl q
  subst-sound s m a q t h =
      let fm = first_pairs alphabet m in
      let test : Bool = list_all (λ p. has_type alphabet p.1 p.0.ty) fm in
      let (u, p, k) = bind-ok (unless BadStep test) _ q h in
      let w = typed-is alphabet tells fm (unless-ok BadStep test u p) in
      let g = map (subst_tm alphabet s fm) a.hyps in
      let c : Tm N = subst_tm alphabet s fm a.concl in
      given (sequent alphabet (once_each alphabet g) c) q k
      (theorem-as alphabet tells al dl g (once_each alphabet g) c (same_set-once_each alphabet tells g)
      (distinct-once_each alphabet tells g)
      (Subst s fm w t.derivable)
      (subst_rule-typed alphabet tells a.hyps a.concl s fm w t.sequent))
