-- The rules by which types, terms and theorems are made, as functions: what is made, or the one refusal that counts
-- first.
use Rattle.std.specs.Prelude.{Bool, false, ◌&&◌, not, if◌then◌else◌, []}
use Rattle.std.specs.Prelude.{◌∷◌, map, Option, Some, None, Result, Ok, Err}
use Rattle.std.specs.Option.{option_and_then}
use Rattle.ot_logic.specs.Trees.{Alphabet, Ty, Tys, TyOp, Variable, Tm, App, Abs, Sequent}
use Rattle.ot_logic.specs.Hol.{same_ty, fun_ty, bool_ty, as_fun_ty, is_shallow_ty, type_in, type_of, close}
use Rattle.ot_logic.specs.Hol.{opened, TypeMap, TermMap, subst_tm, is_shallow, same_tm, equation, as_equation}
use Rattle.ot_logic.specs.Hol.{minus, is_in, union, once_each, is_free_in_some, is_shallow_sequent, sequent_of}
use Rattle.ot_logic.specs.Faults.{Fault, NotFunction, ArgumentType, NotBool, NotEquation}
use Rattle.ot_logic.specs.Faults.{NotAlphaEqual, VarFreeInHyps, NotRedex, Nesting}
use Rattle.ot_logic.specs.Answers.{◌>>=◌, unless, some_or}

module _ {N : Type 0} (alphabet : Alphabet N) where
  -- ---- types and terms

  abbrev has_ty : Option (Ty N) → Ty N → Bool
  has_ty None ty = false
  has_ty (Some t) ty = same_ty alphabet t ty

  -- whether the term has the type
  abbrev pub has_type : Tm N → Ty N → Bool
  has_type t ty = has_ty (type_in alphabet [] t) ty

  abbrev shallow_ty : Ty N → Result (Ty N) (Fault N)
  shallow_ty t = if is_shallow_ty alphabet t then Ok t else Err Nesting

  abbrev shallow : Tm N → Result (Tm N) (Fault N)
  shallow t = if is_shallow alphabet t then Ok t else Err Nesting

  -- an operator with its arguments
  abbrev pub op_rule : N → Tys N → Result (Ty N) (Fault N)
  op_rule n ts = shallow_ty (TyOp n ts)

  -- a function applied to an argument
  abbrev pub app_rule : Tm N → Tm N → Result (Tm N) (Fault N)
  app_rule f x = do
    parts ← some_or NotFunction (option_and_then (as_fun_ty alphabet) (type_in alphabet [] f))
    _ ← unless ArgumentType (has_type x parts.0)
    shallow (App f x)

  -- an abstraction
  abbrev pub abs_rule : Variable N → Tm N → Result (Tm N) (Fault N)
  abs_rule v t = shallow (Abs v.ty (close alphabet v t))

  -- ---- theorems

  abbrev pub Rule : Type 0
  Rule = Result (Sequent N) (Fault N)

  -- the last condition of a rule
  abbrev pub within_limit : Sequent N → Rule
  within_limit q = if is_shallow_sequent alphabet q then Ok q else Err Nesting

  -- the type and the two sides of a theorem's conclusion
  abbrev pub sides : Sequent N → Result (Ty N × Tm N × Tm N) (Fault N)
  sides q = some_or NotEquation (as_equation alphabet q.concl)

  -- t = t
  abbrev pub refl_rule : Tm N → Rule
  refl_rule t = within_limit (sequent_of alphabet (equation alphabet (type_of alphabet t) t t))

  -- {p} |- p
  abbrev pub assume_rule : Tm N → Rule
  assume_rule p = if has_type p (bool_ty alphabet) then Ok (record { hyps = p ∷ []; concl = p }) else Err NotBool

  -- from G |- p = q and D |- p
  abbrev pub eq_mp_rule : Sequent N → Sequent N → Rule
  eq_mp_rule lower top = do
    e ← sides lower
    _ ← unless NotAlphaEqual (same_tm alphabet e.1 top.concl)
    Ok (record { hyps = union alphabet lower.hyps top.hyps; concl = e.2 })

  -- from G |- t = u, with v free in no member of G
  abbrev pub abs_thm_rule : Variable N → Sequent N → Rule
  abs_thm_rule v th = do
    e ← sides th
    _ ← unless VarFreeInHyps (not (is_free_in_some alphabet v th.hyps))
    within_limit
        (record {
          hyps = th.hyps;
          concl = equation alphabet (fun_ty alphabet v.ty e.0)
              (Abs v.ty (close alphabet v e.1)) (Abs v.ty (close alphabet v e.2));
        })

  -- from G |- f = g and D |- x = y
  abbrev pub app_thm_rule : Sequent N → Sequent N → Rule
  app_thm_rule lower top = do
    f ← sides lower
    x ← sides top
    parts ← some_or NotFunction (as_fun_ty alphabet f.0)
    _ ← unless ArgumentType (same_ty alphabet parts.0 x.0)
    within_limit
        (record {
          hyps = union alphabet lower.hyps top.hyps;
          concl = equation alphabet parts.1 (App f.1 x.1)
              (App f.2 x.2);
        })

  -- from G |- p and D |- q
  abbrev pub deduct_antisym_rule : Sequent N → Sequent N → Rule
  deduct_antisym_rule lower top =
      within_limit (record {
        hyps = union alphabet (minus alphabet top.concl lower.hyps) (minus alphabet lower.concl top.hyps);
        concl = equation alphabet (bool_ty alphabet) lower.concl top.concl;
      })

  -- (\v. t) u = t with u for v
  abbrev pub beta_conv_rule : Tm N → Rule
  beta_conv_rule (App (Abs a b) u) =
      within_limit
      (sequent_of alphabet
      (equation alphabet (type_of alphabet (App (Abs a b) u)) (App (Abs a b) u) (opened alphabet b u)))
  beta_conv_rule _ = Err NotRedex

  -- a substitution put into each term
  abbrev pub subst_rule : TypeMap alphabet → TermMap alphabet → Sequent N → Rule
  subst_rule s m th =
      within_limit
      (record {
        hyps = once_each alphabet (map (subst_tm alphabet s m) th.hyps);
        concl = subst_tm alphabet s m th.concl;
      })

  -- from G |- t = u
  abbrev pub sym_rule : Sequent N → Rule
  sym_rule th = do
    e ← sides th
    within_limit (record { hyps = th.hyps; concl = equation alphabet e.0 e.2 e.1 })

  -- from G |- a = b and D |- c = d: a = d where b is c, else c = b where d is a
  abbrev pub trans_rule : Sequent N → Sequent N → Rule
  trans_rule lower top = do
    e ← sides lower
    f ← sides top
    if same_tm alphabet e.2 f.1
        then Ok (record { hyps = union alphabet lower.hyps top.hyps; concl = equation alphabet e.0 e.1 f.2 })
        else (if same_tm alphabet f.2 e.1
        then Ok (record { hyps = union alphabet lower.hyps top.hyps; concl = equation alphabet e.0 f.1 e.2 })
        else Err NotAlphaEqual)

  -- the lemma L |- a and another theorem M |- b give L union (M minus a) |- b
  abbrev pub proved_hyp : Sequent N → Sequent N → Sequent N
  proved_hyp lemma other =
      record { hyps = union alphabet lemma.hyps (minus alphabet lemma.concl other.hyps); concl = other.concl }

  -- the lemma is the top theorem, but the lower one where that alone fits
  abbrev pub prove_hyp_rule : Sequent N → Sequent N → Rule
  prove_hyp_rule lower top =
      Ok (if not (is_in alphabet top.concl lower.hyps) && is_in alphabet lower.concl top.hyps then proved_hyp lower
      top else proved_hyp top lower)
