-- The check of a log keeps what was made proved, up to its end.
use Rattle.std.specs.Prelude.{slice_get}
use Rattle.std.proofs.Common.{◌≡◌, ℕ, zero, suc, List, [], ◌∷◌, Some, Result, Ok, Err, refl, subst}
use Rattle.ot_logic.specs.Trees.{Alphabet, Ty, TyVar, TyOp, Tm, Free, Con, Bound, App, Abs, Sequent}
use Rattle.ot_logic.specs.Answers.{unless}
use Rattle.ot_laws.specs.Theorem.{IsTheorem}
use Rattle.ot_laws.proofs.Tests.{Tells}
use Rattle.ot_log_format.specs.Tokens.{LogFault, BadHeader, BadReference, Token, Tokens, NoMore, Stopped, Then}
use Rattle.ot_log_format.specs.declared.word.RecordWord.{RecordWord}
use Rattle.ot_log_format.specs.declared.word.RecordWord.TheVariants as words
use Rattle.ot_log_format.specs.Steps.{refl_step, assume_step, eq_mp_step, abs_thm_step}
use Rattle.ot_log_format.specs.Steps.{app_thm_step, deduct_antisym_step, beta_step, subst_step}
use Rattle.ot_log_format.specs.Steps.{constant_step, constants_step, type_operator_step}
use Rattle.ot_log_format.specs.State.{LogState, nothing_made, Change}
use Rattle.ot_log_format.specs.Records.{Makes, AskName, AskCount, AskType, AskTerm, AskSequent, Ask, ask_each, ask_list}
use Rattle.ot_log_format.specs.Records.{ask_type_pair, ask_term_pair, ask_constant_pair, arguments, RecordForm, form}
use Rattle.ot_log_format.specs.Check.{Ends, as_name, as_number, as_earlier, as_record, is_first}
use Rattle.ot_log_format.specs.Check.{is_second, Place, AtFirst, AtSecond, Between, Within}
use Rattle.ot_log_format.specs.Check.{answered, at_line, settled, token_step, ended, go_on, check}
use Rattle.ot_log_format.specs.Sound.{LogsAreSound}
use Rattle.ot_log_format.proofs.StepSound.{refl-sound, assume-sound, eq_mp-sound, abs_thm-sound}
use Rattle.ot_log_format.proofs.StepSound.{app_thm-sound, deduct_antisym-sound, beta-sound, subst-sound}
use Rattle.ot_log_format.proofs.DefinitionSound.{constant-acceptable, constants-acceptable, type_operator-acceptable}
use Rattle.ot_log_format.proofs.StateSound.{IsSound, nothing-sound, type-sound, term-sound, sequent-sound}
use Rattle.ot_log_format.proofs.StateSound.{result-sound, assumption-sound, definition-sound}
use Rattle.ot_logic.proofs.Members.{IsMember-at}
use Rattle.ot_logic.proofs.Results.{bind-ok, same_Ok, some_or-ok}

module _ {N : Type 0} (alphabet : Alphabet N) where
  -- whatever a form is answered, it makes what is proved, from what is
  abbrev KeepsSound : LogState N → RecordForm alphabet → Type 0
  KeepsSound st (Makes change) = (now : LogState N) → change st ≡ Ok now → IsSound alphabet now
  KeepsSound st (AskName next) = (n : N) → KeepsSound st (next n)
  KeepsSound st (AskCount next) = (k : ℕ) → KeepsSound st (next k)
  KeepsSound st (AskType next) = (t : Ty N) → KeepsSound st (next t)
  KeepsSound st (AskTerm next) = (t : Tm N) → KeepsSound st (next t)
  KeepsSound st (AskSequent next) = (q : Sequent N) → IsTheorem alphabet st.assumptions st.definitions q
      → KeepsSound st (next q)

  -- asking keeps it
  abbrev AsksSoundly : (A : Type 0) → LogState N → Ask N (Change alphabet) A → Type 0
  AsksSoundly A st ask = (next : A → RecordForm alphabet) → ((x : A) → KeepsSound st (next x))
      → KeepsSound st (ask next)

  each-sound : {A : Type 0} (st : LogState N) (ask : Ask N (Change alphabet) A) → AsksSoundly A st ask → (k : ℕ)
      → AsksSoundly (List A) st (ask_each ask k)
  each-sound st ask a zero next h = h []
  each-sound st ask a (suc k) next h = a (λ x. ask_each ask k (λ xs. next (x ∷ xs)))
      (λ x. each-sound st ask a k (λ xs. next (x ∷ xs)) (λ xs. h (x ∷ xs)))

  list-sound : {A : Type 0} (st : LogState N) (ask : Ask N (Change alphabet) A) → AsksSoundly A st ask
      → AsksSoundly (List A) st (ask_list ask)
  list-sound st ask a next h k = each-sound st ask a k next h

module _ {N : Type 0} (alphabet : Alphabet N) (tells : Tells alphabet) where
  form-sound : (st : LogState N) → IsSound alphabet st → (w : RecordWord) → KeepsSound alphabet st (form alphabet w)
  form-sound st s words.TyVar = λ n now. type-sound alphabet (TyVar n) st now s
  form-sound st s words.TyOp = λ n. list-sound alphabet st AskType (λ next h. h) _
      (λ ts now. type-sound alphabet (TyOp n (arguments ts)) st now s)
  form-sound st s words.Free = λ n t now. term-sound alphabet (Free (record { name = n; ty = t })) st now s
  form-sound st s words.Con = λ n t now. term-sound alphabet (Con n t) st now s
  form-sound st s words.Bound = λ k now. term-sound alphabet (Bound k) st now s
  form-sound st s words.App = λ f x now. term-sound alphabet (App f x) st now s
  form-sound st s words.Lam = λ t b now. term-sound alphabet (Abs t b) st now s
  form-sound st s words.Refl = λ t now. sequent-sound alphabet (refl_step alphabet t) st now
      (refl-sound alphabet tells st.assumptions st.definitions t) s
  form-sound st s words.Assume = λ p now. sequent-sound alphabet (assume_step alphabet p) st now
      (assume-sound alphabet tells st.assumptions st.definitions p) s
  form-sound st s words.EqMp = λ a ta b tb now. sequent-sound alphabet (eq_mp_step alphabet a b) st now
      (λ q. eq_mp-sound alphabet tells st.assumptions st.definitions a b q ta tb) s
  form-sound st s words.AbsThm =
      λ n t a ta now. sequent-sound alphabet (abs_thm_step alphabet (record { name = n; ty = t }) a) st now
      (λ q. abs_thm-sound alphabet tells st.assumptions st.definitions (record { name = n; ty = t }) a q ta) s
  form-sound st s words.AppThm = λ a ta b tb now. sequent-sound alphabet (app_thm_step alphabet a b) st now
      (λ q. app_thm-sound alphabet tells st.assumptions st.definitions a b q ta tb) s
  form-sound st s words.DeductAntisym = λ a ta b tb now. sequent-sound alphabet (deduct_antisym_step alphabet a b) st
      now (λ q. deduct_antisym-sound alphabet tells st.assumptions st.definitions a b q ta tb) s
  form-sound st s words.BetaConv = λ t now. sequent-sound alphabet (beta_step alphabet t) st now
      (beta-sound alphabet tells st.assumptions st.definitions t) s
  form-sound st s words.Subst = λ a ta.
      list-sound alphabet st (ask_type_pair) (λ next h n t. h (n, t)) _ (λ tys.
      list-sound alphabet st (ask_term_pair) (λ next h n t e. h (record { name = n; ty = t }, e)) _ (λ m now.
      sequent-sound alphabet (subst_step alphabet tys m a) st now
      (λ q. subst-sound alphabet tells st.assumptions st.definitions tys m a q ta) s))
  form-sound st s words.Assumption = λ p. list-sound alphabet st AskTerm (λ next h. h) _
      (λ hyps now. assumption-sound alphabet tells hyps p st now s)
  form-sound st s words.Constant = λ n t now. definition-sound alphabet tells (λ dl. constant_step alphabet dl n t) st
      now (constant-acceptable alphabet tells st.assumptions st.definitions n t) s
  form-sound st s words.Constants =
      list-sound alphabet st (ask_constant_pair) (λ next h n v t. h (n, record { name = v; ty = t })) _
      (λ ps a ta now.
      definition-sound alphabet tells (λ dl. constants_step alphabet dl ps a) st now
      (λ d. constants-acceptable alphabet tells st.assumptions st.definitions ps a d ta) s)
  form-sound st s words.TypeOperator = λ n abs rep.
      list-sound alphabet st AskName (λ next h. h) _ (λ vars a ta now.
      definition-sound alphabet tells (λ dl. type_operator_step alphabet dl n abs rep vars a) st now
      (λ d. type_operator-acceptable alphabet tells st.assumptions st.definitions n abs rep vars a d ta) s)
  form-sound st s words.Result = λ a ta now. result-sound alphabet tells a st now ta s

  -- ---- one token
  earlier-ok : {A : Type 0} (xs : List A) (t : Token N) (x : A) → as_earlier xs t ≡ Ok x
      → (i : ℕ) × (slice_get xs i ≡ Some x)
  earlier-ok xs t x h = let (i, p, k) = bind-ok (as_number t) _ x h in
      (i, some_or-ok BadReference (slice_get xs i) x k)

  same : (st : LogState N) (f g : RecordForm alphabet) → ◌≡◌ {A = Result (RecordForm alphabet) LogFault} (Ok f) (Ok g)
      → KeepsSound alphabet st f → KeepsSound alphabet st g
  same st f g h k = subst (KeepsSound alphabet st) (same_Ok f g h) k

  answered-sound : (st : LogState N) (f g : RecordForm alphabet) (t : Token N) → IsSound alphabet st
      → KeepsSound alphabet st f → answered alphabet st f t ≡ Ok g → KeepsSound alphabet st g
  answered-sound st (Makes change) g t s k h = cc
  answered-sound st (AskName next) g t s k h = let (n, p, l) = bind-ok (as_name t) _ g h in same st (next n) g l (k n)
  answered-sound st (AskCount next) g t s k h = let (n, p, l) = bind-ok (as_number t) _ g h in
      same st (next n) g l (k n)
  answered-sound st (AskType next) g t s k h = let (x, p, l) = bind-ok (as_earlier st.types t) _ g h in
      same st (next x) g l (k x)
  answered-sound st (AskTerm next) g t s k h = let (x, p, l) = bind-ok (as_earlier st.terms t) _ g h in
      same st (next x) g l (k x)
  answered-sound st (AskSequent next) g t s k h =
      let (x, p, l) = bind-ok (as_earlier st.sequents t) _ g h in
      let (i, e) = earlier-ok st.sequents t x p in
      same st (next x) g l (k x (s.sequents x (IsMember-at st.sequents i x e)))

  -- ---- where the check is
  abbrev IsSoundPlace : Place alphabet → Type 0
  IsSoundPlace AtFirst = Unit {0}
  IsSoundPlace AtSecond = Unit {0}
  IsSoundPlace (Between st) = IsSound alphabet st
  IsSoundPlace (Within first st f) = IsSound alphabet st × KeepsSound alphabet st f

  abbrev Placed : Type 0
  Placed = Result (Place alphabet) (ℕ × LogFault)

  at : (p q : Place alphabet) → ◌≡◌ {A = Placed} (Ok p) (Ok q) → IsSoundPlace p → IsSoundPlace q
  at p q h k = subst IsSoundPlace (same_Ok p q h) k

  at_line-ok : {A : Type 0} (line : ℕ) (r : Result A LogFault) (x : A) → at_line alphabet line r ≡ Ok x → r ≡ Ok x
  at_line-ok line (Ok y) x h = let e : y ≡ x = same_Ok y x h in
      subst (λ z. ◌≡◌ {A = Result _ LogFault} (Ok y) (Ok z)) e refl
  at_line-ok line (Err f) x h = cc

  settled-sound : (first : ℕ) (st : LogState N) (f : RecordForm alphabet) (p : Place alphabet) → IsSound alphabet st
      → KeepsSound alphabet st f → settled alphabet first st f ≡ Ok p → IsSoundPlace p
  settled-sound first st (Makes change) p s k h =
      let (now, e, l) = bind-ok (at_line alphabet first (change st)) _ p h in
      at (Between now) p l (k now (at_line-ok first (change st) now e))
  settled-sound first st (AskName next) p s k h = at (Within first st (AskName next)) p h (s, k)
  settled-sound first st (AskCount next) p s k h = at (Within first st (AskCount next)) p h (s, k)
  settled-sound first st (AskType next) p s k h = at (Within first st (AskType next)) p h (s, k)
  settled-sound first st (AskTerm next) p s k h = at (Within first st (AskTerm next)) p h (s, k)
  settled-sound first st (AskSequent next) p s k h = at (Within first st (AskSequent next)) p h (s, k)

  token-sound : (line : ℕ) (p q : Place alphabet) (t : Token N) → IsSoundPlace p → token_step alphabet line p t ≡ Ok q
      → IsSoundPlace q
  token-sound line AtFirst q t s h = let (u, e, k) =
      bind-ok (at_line alphabet line (unless BadHeader (is_first t))) _ q h in at AtSecond q k tt
  token-sound line AtSecond q t s h = let (u, e, k) = bind-ok (at_line alphabet line (unless BadHeader (is_second t)))
      _ q h in at (Between nothing_made) q k (nothing-sound alphabet)
  token-sound line (Between st) q t s h =
      let (w, e, k) = bind-ok (at_line alphabet line (as_record t)) _ q h in
      settled-sound line st (form alphabet w) q s (form-sound st s w) k
  token-sound line (Within first st f) q t s h =
      let (g, e, k) = bind-ok (at_line alphabet line (answered alphabet st f t)) _ q h in
      settled-sound first st g q s.0
      (answered-sound st f g t s.0 s.1 (at_line-ok line (answered alphabet st f t) g e)) k

  ended-sound : (last : ℕ) (p : Place alphabet) (st : LogState N) → IsSoundPlace p → ended alphabet last p ≡ Ends st
      → IsSound alphabet st
  ended-sound last (Between now) st s h = let e : now ≡ st = cc in subst (IsSound alphabet) e s
  ended-sound last AtFirst st s h = cc
  ended-sound last AtSecond st s h = cc
  ended-sound last (Within first now f) st s h = cc

  check-sound : (tokens : Tokens N) (last : ℕ) (p : Place alphabet) (st : LogState N) → IsSoundPlace p
      → check alphabet last p tokens ≡ Ends st → IsSound alphabet st
  check-sound NoMore last p st s h = ended-sound last p st s h
  check-sound (Stopped line fault) last p st s h = cc
  check-sound (Then line t rest) last p st s h = by (token_step alphabet line p t) refl (check-sound rest line) h
    where
      by : (r : Placed) → token_step alphabet line p t ≡ r
          → ((q : Place alphabet) (now : LogState N) → IsSoundPlace q → check alphabet line q rest ≡ Ends now
          → IsSound alphabet now) → go_on alphabet r (λ q. check alphabet line q rest) ≡ Ends st → IsSound alphabet st
      by (Ok q) e next k = next q st (token-sound line p q t s e) k
      by (Err f) e next k = cc

  pub logs_are_sound : LogsAreSound alphabet
  logs_are_sound tokens st h =
      let s = check-sound tokens 0 AtFirst st tt h in
      record {
        accepted = s.accepted;
        assumptions = λ i q e. (s.assumptions q (IsMember-at st.assumptions i q e)).0;
        results = λ i q e. s.results q (IsMember-at st.results i q e);
      }
