-- The cases of a derivation, as functions: the sequent that a case gives, or that the case doesn't hold.
use Rattle.std.specs.Prelude.{cond, Bool, true, ◌&&◌, not, is_some, if◌then◌else◌, ℕ, nat_le}
use Rattle.std.specs.Prelude.{List, [], ◌∷◌, map, Option, Some, None, Result, Ok, Err}
use Rattle.std.specs.List.{list_all, flat_map}
use Rattle.ot_logic.specs.Trees.{Alphabet, Ty, Variable, Tm, App, Abs, Sequent}
use Rattle.ot_logic.specs.Trees.{Symbol, Definition, ConDef, ListDef, TyDef}
use Rattle.ot_logic.specs.Hol.{same_ty, same_var, fun_ty, bool_ty, as_fun_ty, depth_ty, type_in, type_of, close}
use Rattle.ot_logic.specs.Hol.{opened, depth_tm, TypeMap, TermMap, subst_tm, same_tm, equation, as_equation}
use Rattle.ot_logic.specs.Hol.{minus, union, once_each, is_free_in_some, sequent_of, defined, used}
use Rattle.ot_logic.specs.Answers.{◌>>=◌, unless, some_or}
use Rattle.ot_logic.specs.Rules.{has_type}
use Rattle.ot_laws.specs.Conditions.{checked_const, checked_list, checked_type}
use Rattle.ot_log_format.specs.Tokens.{LogFault, BadStep}

-- how deep a log may nest: somewhat deeper than an article, since some of its words stand for several records
abbrev pub log_depth : ℕ
log_depth = 4128

-- a condition that passed, for one that may not have
abbrev pub or_bad : {A E : Type 0} → Result A E → Result A LogFault
or_bad (Ok x) = Ok x
or_bad (Err e) = Err BadStep

module _ {N : Type 0} (alphabet : Alphabet N) where
  abbrev pub Step : Type 0
  Step = Result (Sequent N) LogFault

  -- whether the term has a type; then no place leads out of it
  abbrev pub is_well_typed : Tm N → Bool
  is_well_typed t = is_some (type_in alphabet [] t)

  -- whether the term is well typed and of the type of propositions
  abbrev pub is_proposition : Tm N → Bool
  is_proposition t = has_type alphabet t (bool_ty alphabet)

  -- the type and the two sides of a sequent's conclusion
  abbrev pub sides_of : Sequent N → Result (Ty N × Tm N × Tm N) LogFault
  sides_of q = some_or BadStep (as_equation alphabet q.concl)

  -- ---- the cases

  -- |- t = t
  abbrev pub refl_step : Tm N → Step
  refl_step t = do
    _ ← unless BadStep (is_well_typed t)
    Ok (sequent_of alphabet (equation alphabet (type_of alphabet t) t t))

  -- {p} |- p
  abbrev pub assume_step : Tm N → Step
  assume_step p = do
    _ ← unless BadStep (is_proposition p)
    Ok (record { hyps = p ∷ []; concl = p })

  -- from G |- p = q and H |- p
  abbrev pub eq_mp_step : Sequent N → Sequent N → Step
  eq_mp_step a b = do
    e ← sides_of a
    _ ← unless BadStep (same_tm alphabet e.1 b.concl)
    Ok (record { hyps = union alphabet a.hyps b.hyps; concl = e.2 })

  -- from G |- t = u, with v free in no member of G
  abbrev pub abs_thm_step : Variable N → Sequent N → Step
  abs_thm_step v a = do
    e ← sides_of a
    _ ← unless BadStep (not (is_free_in_some alphabet v a.hyps))
    Ok (record {
      hyps = a.hyps;
      concl = equation alphabet (fun_ty alphabet v.ty e.0) (Abs v.ty (close alphabet v e.1))
          (Abs v.ty (close alphabet v e.2));
    })

  -- from G |- f = g and H |- x = y
  abbrev pub app_thm_step : Sequent N → Sequent N → Step
  app_thm_step a b = do
    f ← sides_of a
    x ← sides_of b
    parts ← some_or BadStep (as_fun_ty alphabet f.0)
    _ ← unless BadStep (same_ty alphabet parts.0 x.0)
    Ok (record { hyps = union alphabet a.hyps b.hyps; concl = equation alphabet parts.1 (App f.1 x.1) (App f.2 x.2) })

  -- from G |- p and H |- q
  abbrev pub deduct_antisym_step : Sequent N → Sequent N → Step
  deduct_antisym_step a b =
      Ok (record {
        hyps = union alphabet (minus alphabet b.concl a.hyps) (minus alphabet a.concl b.hyps);
        concl = equation alphabet (bool_ty alphabet) a.concl b.concl;
      })

  -- (\v. t) u = t with u for v
  abbrev pub beta_step : Tm N → Step
  beta_step (App (Abs a b) u) = do
    _ ← unless BadStep (is_well_typed (App (Abs a b) u))
    Ok (sequent_of alphabet
        (equation alphabet (type_of alphabet (App (Abs a b) u)) (App (Abs a b) u) (opened alphabet b u)))
  beta_step _ = Err BadStep

  -- the list without the pairs for this variable
  abbrev pub without : Variable N → TermMap alphabet → TermMap alphabet
  without v [] = []
  without v (p ∷ m) = if same_var alphabet v p.0 then without v m else p ∷ without v m

  -- of two pairs for one variable the first
  abbrev pub first_pairs : TermMap alphabet → TermMap alphabet
  first_pairs [] = []
  first_pairs (p ∷ m) = p ∷ without p.0 (first_pairs m)

  -- of two pairs for one name the first
  abbrev pub without_name : N → TypeMap alphabet → TypeMap alphabet
  without_name n [] = []
  without_name n (p ∷ s) = cond (alphabet.same n p.0) (without_name n s) (p ∷ without_name n s)

  abbrev pub first_types : TypeMap alphabet → TypeMap alphabet
  first_types [] = []
  first_types (p ∷ s) = p ∷ without_name p.0 (first_types s)

  -- a substitution put into each term: the terms that count have their variables' types
  abbrev pub subst_step : TypeMap alphabet → TermMap alphabet → Sequent N → Step
  subst_step s m a = do
    _ ← unless BadStep (list_all (λ p. has_type alphabet p.1 p.0.ty) (first_pairs m))
    Ok (record {
      hyps = once_each alphabet (map (subst_tm alphabet s (first_pairs m)) a.hyps);
      concl = subst_tm alphabet s (first_pairs m) a.concl;
    })

  -- the sequent of these hypotheses and this conclusion, of propositions alone
  abbrev pub assumption_step : List (Tm N) → Tm N → Step
  assumption_step hyps p = do
    _ ← unless BadStep (is_proposition p && list_all is_proposition hyps)
    Ok (record { hyps = once_each alphabet hyps; concl = p })

  -- ---- definitions, each after those before it

  abbrev pub all_defined : List (Definition N) → List (Symbol N)
  all_defined dl = flat_map (defined alphabet) dl

  abbrev pub all_used : List (Definition N) → List (Symbol N)
  all_used dl = flat_map (used alphabet) dl

  abbrev pub constant_step : List (Definition N) → N → Tm N → Result (Definition N) LogFault
  constant_step dl n t = do
    _ ← unless BadStep (is_well_typed t)
    _ ← or_bad (checked_const alphabet (all_defined dl) (all_used dl) n t)
    Ok (ConDef n t)

  abbrev pub constants_step : List (Definition N) → List (N × Variable N) → Sequent N → Result (Definition N) LogFault
  constants_step dl ps q = do
    _ ← or_bad (checked_list alphabet (all_defined dl) (all_used dl) (map (λ p. p.0) ps) (map (λ p. p.1) ps) q)
    Ok (ListDef ps q)

  abbrev pub type_operator_step : List (Definition N) → (n abs rep : N) → List N → Sequent N
      → Result (Definition N) LogFault
  type_operator_step dl n abs rep vars q = do
    _ ← or_bad (checked_type alphabet (all_defined dl) (all_used dl) n abs rep vars q)
    Ok (TyDef n abs rep vars q)

  -- ---- the nesting limit

  abbrev pub is_within_type : Option (Ty N) → Bool
  is_within_type None = true
  is_within_type (Some t) = nat_le (depth_ty alphabet t) log_depth

  -- the type of each subterm is within the limit, under binders of these types, the innermost first
  abbrev pub has_types_within : List (Ty N) → Tm N → Bool
  has_types_within l (App f x) = is_within_type (type_in alphabet l (App f x))
      && (has_types_within l f && has_types_within l x)
  has_types_within l (Abs t b) = is_within_type (type_in alphabet l (Abs t b)) && has_types_within (t ∷ l) b
  has_types_within l t = is_within_type (type_in alphabet l t)

  -- whether a term of a sequent is within the limit: its depth, and the depth of the type of each subterm
  abbrev pub is_within : Tm N → Bool
  is_within t = nat_le (depth_tm alphabet t) log_depth && has_types_within [] t

  abbrev pub is_sequent_within : Sequent N → Bool
  is_sequent_within q = list_all is_within q.hyps && is_within q.concl
