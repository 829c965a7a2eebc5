-- A rule of an article that isn't refused is a case of a log, and within the log's limit.
use Rattle.std.specs.Prelude.{not, is_some}
use Rattle.std.proofs.Common.{◌≡◌, Bool, true, [], ◌∷◌, Ok, ap, ◌∙◌}
use Rattle.ot_logic.specs.Trees.{Alphabet, Ty, Variable, Tm, App, Abs, Sequent}
use Rattle.ot_logic.specs.Hol.{same_ty, fun_ty, bool_ty, as_fun_ty, type_of, IsWellTyped, close}
use Rattle.ot_logic.specs.Hol.{opened, same_tm, equation}
use Rattle.ot_logic.specs.Hol.{as_equation, minus, union, is_free_in_some, sequent_of}
use Rattle.ot_logic.specs.Faults.{NotBool, NotEquation, NotAlphaEqual, VarFreeInHyps, NotFunction, ArgumentType}
use Rattle.ot_logic.specs.Answers.{◌>>=◌, unless, some_or}
use Rattle.ot_logic.specs.Rules.{has_type, within_limit, sides, refl_rule, assume_rule, eq_mp_rule}
use Rattle.ot_logic.specs.Rules.{abs_thm_rule, app_thm_rule, deduct_antisym_rule, beta_conv_rule}
use Rattle.ot_laws.proofs.Tests.{Tells}
use Rattle.ot_laws.proofs.Steps.{within_limit-ok, limit-ok}
use Rattle.ot_log_format.specs.Tokens.{BadStep}
use Rattle.ot_log_format.specs.Steps.{Step, is_well_typed}
use Rattle.ot_log_format.specs.Steps.{sides_of, refl_step, assume_step, eq_mp_step, abs_thm_step}
use Rattle.ot_log_format.specs.Steps.{app_thm_step, deduct_antisym_step, beta_step}
use Rattle.ot_logic.proofs.Results.{bind-ok, same_Ok, some_or-ok, unless-ok}

module _ {N : Type 0} (alphabet : Alphabet N) (tells : Tells alphabet) where
  -- ---- the rules
  ruled : (q r : Sequent N) → within_limit alphabet q ≡ Ok r → ◌≡◌ {A = Step alphabet} (Ok q) (Ok r)
  ruled q r h = ap Ok (within_limit-ok alphabet tells q r h).1

  sided : (q : Sequent N) (e : Ty N × Tm N × Tm N) → sides alphabet q ≡ Ok e → sides_of alphabet q ≡ Ok e
  sided q e h = ap (some_or BadStep) (some_or-ok NotEquation (as_equation alphabet q.concl) e h)

  well_typed-back : (t : Tm N) → IsWellTyped alphabet t → is_well_typed alphabet t ≡ true
  well_typed-back t w = ap is_some w.1

  pub refl-ruled : (t : Tm N) (q : Sequent N) → IsWellTyped alphabet t → refl_rule alphabet t ≡ Ok q
      → refl_step alphabet t ≡ Ok q
  refl-ruled t q w h =
      let made : Sequent N = sequent_of alphabet (equation alphabet (type_of alphabet t) t t) in
      ap (λ b. unless BadStep b >>= λ _. Ok made) (well_typed-back t w) ∙ ruled made q h

  pub assume-ruled : (p : Tm N) (q : Sequent N) → assume_rule alphabet p ≡ Ok q → assume_step alphabet p ≡ Ok q
  assume-ruled p q h =
      let made : Sequent N = record { hyps = p ∷ []; concl = p } in
      let (b, e) = limit-ok (has_type alphabet p (bool_ty alphabet)) NotBool made q h in
      ap (λ z. unless BadStep z >>= λ _. Ok made) b ∙ ap Ok e

  pub eq_mp-ruled : (a b q : Sequent N) → eq_mp_rule alphabet a b ≡ Ok q → eq_mp_step alphabet a b ≡ Ok q
  eq_mp-ruled a b q h =
      let (e, p, k) = bind-ok (sides alphabet a) _ q h in
      let (u, r, l) = bind-ok (unless NotAlphaEqual (same_tm alphabet e.1 b.concl)) _ q k in
      let made : Sequent N = record { hyps = union alphabet a.hyps b.hyps; concl = e.2 } in
      let go : (Ty N × Tm N × Tm N) → Step alphabet =
      λ z. unless BadStep (same_tm alphabet z.1 b.concl)
      >>= λ _. Ok (record { hyps = union alphabet a.hyps b.hyps; concl = z.2 }) in
      ap (λ z. z >>= go) (sided a e p)
      ∙ ap (λ z. unless BadStep z >>= λ _. Ok made) (unless-ok NotAlphaEqual (same_tm alphabet e.1 b.concl) u r)
      ∙ ap Ok (same_Ok made q l)

  pub abs_thm-ruled : (v : Variable N) (a q : Sequent N) → abs_thm_rule alphabet v a ≡ Ok q
      → abs_thm_step alphabet v a ≡ Ok q
  abs_thm-ruled v a q h =
      let (e, p, k) = bind-ok (sides alphabet a) _ q h in
      let test : Bool = not (is_free_in_some alphabet v a.hyps) in
      let (u, r, l) = bind-ok (unless VarFreeInHyps test) _ q k in
      let made : (Ty N × Tm N × Tm N) → Sequent N =
      λ z. record {
        hyps = a.hyps;
        concl = equation alphabet (fun_ty alphabet v.ty z.0) (Abs v.ty (close alphabet v z.1))
            (Abs v.ty (close alphabet v z.2));
      } in
      let go : (Ty N × Tm N × Tm N) → Step alphabet = λ z. unless BadStep test >>= λ _. Ok (made z) in
      ap (λ z. z >>= go) (sided a e p)
      ∙ ap (λ z. unless BadStep z >>= λ _. Ok (made e)) (unless-ok VarFreeInHyps test u r)
      ∙ ruled (made e) q l

  pub app_thm-ruled : (a b q : Sequent N) → app_thm_rule alphabet a b ≡ Ok q → app_thm_step alphabet a b ≡ Ok q
  app_thm-ruled a b q h =
      let (f, p, k) = bind-ok (sides alphabet a) _ q h in
      let (x, r, l) = bind-ok (sides alphabet b) _ q k in
      let (c, i, m) = bind-ok (some_or NotFunction (as_fun_ty alphabet f.0)) _ q l in
      let (u, j, n) = bind-ok (unless ArgumentType (same_ty alphabet c.0 x.0)) _ q m in
      let made : (Ty N × Ty N) → Sequent N =
      λ parts. record {
        hyps = union alphabet a.hyps b.hyps;
        concl = equation alphabet parts.1 (App f.1 x.1)
            (App f.2 x.2);
      } in
      let three : (Ty N × Ty N) → Step alphabet =
      λ parts. unless BadStep (same_ty alphabet parts.0 x.0) >>= λ _. Ok (made parts) in
      let two : (Ty N × Tm N × Tm N) → (Ty N × Tm N × Tm N) → Step alphabet =
      λ y z. some_or BadStep (as_fun_ty alphabet y.0)
      >>= λ parts. unless BadStep (same_ty alphabet parts.0 z.0)
      >>= λ _. Ok
      (record {
        hyps = union alphabet a.hyps b.hyps;
        concl = equation alphabet parts.1 (App y.1 z.1)
            (App y.2 z.2);
      }) in
      ap (λ z. z >>= λ y. sides_of alphabet b >>= two y) (sided a f p) ∙ ap (λ z. z >>= two f) (sided b x r)
      ∙ ap (λ z. some_or BadStep z >>= three) (some_or-ok NotFunction (as_fun_ty alphabet f.0) c i)
      ∙ ap (λ z. unless BadStep z >>= λ _. Ok (made c)) (unless-ok ArgumentType (same_ty alphabet c.0 x.0) u j)
      ∙ ruled (made c) q n

  pub deduct_antisym-ruled : (a b q : Sequent N) → deduct_antisym_rule alphabet a b ≡ Ok q
      → deduct_antisym_step alphabet a b ≡ Ok q
  deduct_antisym-ruled a b q h =
      ruled (record {
        hyps = union alphabet (minus alphabet b.concl a.hyps) (minus alphabet a.concl b.hyps);
        concl = equation alphabet (bool_ty alphabet) a.concl b.concl;
      }) q h

  pub beta-ruled : (t : Tm N) (q : Sequent N) → IsWellTyped alphabet t → beta_conv_rule alphabet t ≡ Ok q
      → beta_step alphabet t ≡ Ok q
  beta-ruled (App (Abs a b) u) q w h =
      let t : Tm N = App (Abs a b) u in
      let made : Sequent N = sequent_of alphabet (equation alphabet (type_of alphabet t) t (opened alphabet b u)) in
      ap (λ z. unless BadStep z >>= λ _. Ok made) (well_typed-back t w) ∙ ruled made q h
  beta-ruled _ q w h = cc
