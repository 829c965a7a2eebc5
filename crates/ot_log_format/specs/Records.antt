-- The records of a log: the tokens that each asks for, one after another, and what it makes.
use Rattle.std.specs.Prelude.{ℕ, zero, suc, List, [], ◌∷◌}
use Rattle.ot_logic.specs.Trees.{Alphabet, Ty, Tys, NoTys, MoreTys, TyVar, TyOp}
use Rattle.ot_logic.specs.Trees.{Variable, Tm, Free, Con, Bound, App, Abs, Sequent}
use Rattle.ot_log_format.specs.declared.word.RecordWord.{RecordWord}
use Rattle.ot_log_format.specs.declared.word.RecordWord.TheVariants as words
use Rattle.ot_log_format.specs.Steps.{refl_step, assume_step, eq_mp_step, abs_thm_step, app_thm_step}
use Rattle.ot_log_format.specs.Steps.{deduct_antisym_step, beta_step, subst_step, assumption_step}
use Rattle.ot_log_format.specs.Steps.{constant_step, constants_step, type_operator_step}
use Rattle.ot_log_format.specs.State.{Change, makes_type, makes_term, makes_sequent}
use Rattle.ot_log_format.specs.State.{makes_assumption, makes_definition, makes_result}

-- what a record asks for next: a name, a count, the number of an earlier type, term or sequent; or what it makes in
-- the end
pub data Form (N : Type 0) (C : Type 0) : Type 0 where
  Makes : C → Form N C
  AskName : (N → Form N C) → Form N C
  AskCount : (ℕ → Form N C) → Form N C
  AskType : (Ty N → Form N C) → Form N C
  AskTerm : (Tm N → Form N C) → Form N C
  AskSequent : (Sequent N → Form N C) → Form N C

-- asks for something and goes on with it
abbrev pub Ask : (N C A : Type 0) → Type 0
Ask N C A = (A → Form N C) → Form N C

-- asks so many times
abbrev pub ask_each : {N C A : Type 0} → Ask N C A → ℕ → Ask N C (List A)
ask_each ask zero next = next []
ask_each ask (suc k) next = ask (λ x. ask_each ask k (λ xs. next (x ∷ xs)))

-- asks for a count and then so many times
abbrev pub ask_list : {N C A : Type 0} → Ask N C A → Ask N C (List A)
ask_list ask next = AskCount (λ k. ask_each ask k next)

-- a name and the number of a type
abbrev pub ask_variable : {N C : Type 0} → Ask N C (Variable N)
ask_variable next = AskName (λ n. AskType (λ t. next (record { name = n; ty = t })))

abbrev pub ask_type_pair : {N C : Type 0} → Ask N C (N × Ty N)
ask_type_pair next = AskName (λ n. AskType (λ t. next (n, t)))

abbrev pub ask_term_pair : {N C : Type 0} → Ask N C (Variable N × Tm N)
ask_term_pair next = ask_variable (λ v. AskTerm (λ e. next (v, e)))

abbrev pub ask_constant_pair : {N C : Type 0} → Ask N C (N × Variable N)
ask_constant_pair next = AskName (λ n. ask_variable (λ v. next (n, v)))

-- types as arguments
abbrev pub arguments : {N : Type 0} → List (Ty N) → Tys N
arguments [] = NoTys
arguments (t ∷ ts) = MoreTys t (arguments ts)

module _ {N : Type 0} (alphabet : Alphabet N) where
  abbrev pub RecordForm : Type 0
  RecordForm = Form N (Change alphabet)

  -- the record of each word
  abbrev pub form : RecordWord → RecordForm
  form words.TyVar = AskName (λ n. Makes (makes_type alphabet (TyVar n)))
  form words.TyOp = AskName (λ n. ask_list AskType (λ ts. Makes (makes_type alphabet (TyOp n (arguments ts)))))
  form words.Free = ask_variable (λ v. Makes (makes_term alphabet (Free v)))
  form words.Con = AskName (λ n. AskType (λ t. Makes (makes_term alphabet (Con n t))))
  form words.Bound = AskCount (λ k. Makes (makes_term alphabet (Bound k)))
  form words.App = AskTerm (λ f. AskTerm (λ x. Makes (makes_term alphabet (App f x))))
  form words.Lam = AskType (λ t. AskTerm (λ b. Makes (makes_term alphabet (Abs t b))))
  form words.Refl = AskTerm (λ t. Makes (makes_sequent alphabet (refl_step alphabet t)))
  form words.Assume = AskTerm (λ p. Makes (makes_sequent alphabet (assume_step alphabet p)))
  form words.EqMp = AskSequent (λ a. AskSequent (λ b. Makes (makes_sequent alphabet (eq_mp_step alphabet a b))))
  form words.AbsThm = ask_variable (λ v. AskSequent (λ a. Makes (makes_sequent alphabet (abs_thm_step alphabet v a))))
  form words.AppThm = AskSequent (λ a. AskSequent (λ b. Makes (makes_sequent alphabet (app_thm_step alphabet a b))))
  form words.DeductAntisym =
      AskSequent (λ a. AskSequent (λ b. Makes (makes_sequent alphabet (deduct_antisym_step alphabet a b))))
  form words.BetaConv = AskTerm (λ t. Makes (makes_sequent alphabet (beta_step alphabet t)))
  form words.Subst =
      AskSequent (λ a. ask_list (ask_type_pair)
      (λ s. ask_list (ask_term_pair) (λ m. Makes (makes_sequent alphabet (subst_step alphabet s m a)))))
  form words.Assumption =
      AskTerm (λ p. ask_list AskTerm (λ hyps. Makes (makes_assumption alphabet (assumption_step alphabet hyps p))))
  form words.Constant =
      AskName (λ n. AskTerm (λ t. Makes (makes_definition alphabet (λ dl. constant_step alphabet dl n t))))
  form words.Constants = ask_list (ask_constant_pair)
      (λ ps. AskSequent (λ a. Makes (makes_definition alphabet (λ dl. constants_step alphabet dl ps a))))
  form words.TypeOperator =
      AskName (λ n.
      AskName (λ abs.
      AskName (λ rep. ask_list AskName
      (λ vars. AskSequent
      (λ a. Makes (makes_definition alphabet (λ dl. type_operator_step alphabet dl n abs rep vars a)))))))
  form words.Result = AskSequent (λ a. Makes (makes_result alphabet a))
