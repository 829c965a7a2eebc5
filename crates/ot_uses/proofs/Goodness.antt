-- The value of an origin over theorems is of theorems.
use Rattle.std.specs.Prelude.{IfOk, IsTrue, nat_lt, nat_le, ◌-◌, ◌==◌, ◌++◌, if◌then◌else◌}
use Rattle.std.specs.List.{AllByRecursion, list_any}
use Rattle.std.proofs.Common.{◌≡◌, ℕ, zero, suc, Bool, true, false, List, [], ◌∷◌}
use Rattle.std.proofs.Common.{Result, Ok, Err, refl, length, slice_get, inl, inr, ◌⊎◌}
use Rattle.ot_logic.specs.Names.{Name}
use Rattle.ot_logic.specs.Naming.{names}
use Rattle.ot_logic.specs.Trees.{Variable, Sequent, Definition, Tm, TyVar, Free, Con, App, Abs}
use Rattle.ot_logic.specs.Hol.{IsWellTyped, HasType, IsTyped, TypeMap, TermMap}
use Rattle.ot_logic.specs.Hol.{same_var, close, is_shallow, depth_limit}
use Rattle.ot_logic.specs.Rules.{has_type, op_rule, app_rule, abs_rule, abs_thm_rule, refl_rule}
use Rattle.ot_logic.specs.Rules.{assume_rule, eq_mp_rule, app_thm_rule, deduct_antisym_rule}
use Rattle.ot_logic.specs.Rules.{beta_conv_rule, subst_rule, sym_rule, trans_rule, prove_hyp_rule}
use Rattle.ot_logic.specs.Faults.{Fault, BadSubst, StackEmpty, Nesting}
use Rattle.ot_logic.specs.Answers.{◌>>=◌, unless, some_or}
use Rattle.ot_logic.specs.declared.command.Cmd.{Cmd}
use Rattle.ot_logic.specs.declared.command.Cmd.TheVariants as words
use Rattle.ot_laws.specs.Theorem.{IsTheorem}
use Rattle.ot_laws.proofs.Tests.{tells_names, has_type-is}
use Rattle.ot_machine.specs.Objects.{Object, Objects, list, type_op, a_type, constant, variable}
use Rattle.ot_machine.specs.Objects.{term, theorem, no_objects, more_objects, nesting}
use Rattle.ot_trace.specs.Origins.{Origin, Origins, Number, Named, Make, Define, Outcome, NoOrigins, MoreOrigins}
use Rattle.ot_machine.specs.Places.{as_list, as_term, as_theorem, as_variable, as_name}
use Rattle.ot_machine.specs.Places.{as_type, as_each, as_type_op, as_constant, arguments}
use Rattle.ot_machine.specs.Makers.{Read, Maker, of_none, of_top, of_two, no_maker, arity, made_by, maker}
use Rattle.ot_machine.specs.Makers.{consed, cons_made, op_type_made, var_made, const_term_made, app_term_made}
use Rattle.ot_machine.specs.Makers.{abs_term_made, one_theorem_made, two_theorems_made, abs_thm_made, subst_made}
use Rattle.ot_kernel.specs.Pairs.{with_term}
use Rattle.ot_machine.specs.Parts.{or_bad, two_of}
use Rattle.ot_machine.specs.Substitutions.{term_pair, types_onto, terms_onto, maps_of}
use Rattle.ot_laws.specs.Laws.{TermRulesAreSound, RulesAreSound}
use Rattle.ot_laws.proofs.Laws.{term_rules_are_sound, rules_are_sound}
use Rattle.ot_machine.specs.Values.{value, values, value_at, applied}
use Rattle.ot_uses.proofs.Leaves.{IsGood, AreGood, IsLeaf, HasLeaves, HaveLeaves}

pub if_bind : {A B E : Type 0} (r : Result A E) (f : A → Result B E) (P : A → Type 0) (Q : B → Type 0) → IfOk r P
    → ((x : A) → P x → IfOk (f x) Q) → IfOk (r >>= f) Q
if_bind (Ok x) f P Q p next = next x p
if_bind (Err e) f P Q p next = tt

-- where nothing is asked of what was made
pub any_bind : {A B E : Type 0} (r : Result A E) (f : A → Result B E) (Q : B → Type 0) → ((x : A) → IfOk (f x) Q)
    → IfOk (r >>= f) Q
any_bind (Ok x) f Q next = next x
any_bind (Err e) f Q next = tt

module _ (al : List (Sequent Name)) (dl : List (Definition Name)) where
  abbrev pub GoodRead : Read → Type 0
  GoodRead r = IfOk r (IsGood al dl)

  term-good : (o : Object) → IsGood al dl o → IfOk (as_term o) (IsWellTyped names)
  term-good (term t) g = g
  term-good _ g = tt

  theorem-good : (o : Object) → IsGood al dl o → IfOk (as_theorem o) (IsTheorem names al dl)
  theorem-good (theorem q) g = g
  theorem-good _ g = tt

  list-good : (o : Object) → IsGood al dl o → IfOk (as_list o) (AreGood al dl)
  list-good (list os) g = g
  list-good _ g = tt

  -- ---- operands

  at-good : (vs : List Object) → AllByRecursion (IsGood al dl) vs → (k : ℕ) (e : Fault Name)
      → IfOk (some_or e (slice_get vs k)) (IsGood al dl)
  at-good [] g k e = tt
  at-good (v ∷ vs) g zero e = g.0
  at-good (v ∷ vs) g (suc k) e = at-good vs g.1 k e

  pub value_at-good : (vs : List Object) → AllByRecursion (IsGood al dl) vs → (n : ℕ) → GoodRead (value_at n vs)
  value_at-good vs g n = go (nat_lt n (length vs))
    where
      go : (b : Bool) → GoodRead (if b then some_or StackEmpty (slice_get vs (length vs - suc n)) else Err StackEmpty)
      go true = at-good vs g (length vs - suc n) StackEmpty
      go false = tt

  -- what makes good of good
  abbrev MakerIsGood : Maker → Type 0
  MakerIsGood (of_none o) = IsGood al dl o
  MakerIsGood (of_top f) = (r : Read) → GoodRead r → GoodRead (f r)
  MakerIsGood (of_two f) = (r s : Read) → GoodRead r → GoodRead s → GoodRead (f r s)
  MakerIsGood no_maker = Unit {0}

  made-good : (m : Maker) → MakerIsGood m → (vs : List Object) → AllByRecursion (IsGood al dl) vs
      → GoodRead (made_by m (λ n. value_at n vs))
  made-good (of_none o) h vs g = h
  made-good (of_top f) h vs g = h (value_at 0 vs) (value_at-good vs g 0)
  made-good (of_two f) h vs g = h (value_at 0 vs) (value_at 1 vs) (value_at-good vs g 0) (value_at-good vs g 1)
  made-good no_maker h vs g = tt

  applied-good : (m : Maker) → MakerIsGood m → (vs : List Object) → AllByRecursion (IsGood al dl) vs
      → GoodRead (applied m vs)
  applied-good m h vs g =
      any_bind (unless StackEmpty (length vs == arity m))
      (λ x. made_by m (λ n. value_at n vs)) (IsGood al dl) (λ x. made-good m h vs g)

  -- ---- each word

  pub read-term : (r : Read) → GoodRead r → IfOk (r >>= as_term) (IsWellTyped names)
  read-term r g = if_bind r as_term (IsGood al dl) (IsWellTyped names) g term-good

  pub read-theorem : (r : Read) → GoodRead r → IfOk (r >>= as_theorem) (IsTheorem names al dl)
  read-theorem r g = if_bind r as_theorem (IsGood al dl) (IsTheorem names al dl) g theorem-good

  read-list : (r : Read) → GoodRead r → IfOk (r >>= as_list) (AreGood al dl)
  read-list r g = if_bind r as_list (IsGood al dl) (AreGood al dl) g list-good

  as-theorem : (r : Result (Sequent Name) (Fault Name)) → IfOk r (IsTheorem names al dl)
      → GoodRead (r >>= λ q. Ok (theorem q))
  as-theorem r g = if_bind r (λ q. Ok (theorem q)) (IsTheorem names al dl) (IsGood al dl) g (λ q t. t)

  one-good : (rule : Sequent Name → Result (Sequent Name) (Fault Name))
      → ((th : Sequent Name) → IsTheorem names al dl th → IfOk (rule th) (IsTheorem names al dl))
      → MakerIsGood (of_top (one_theorem_made rule))
  one-good rule sound r g =
      if_bind (r >>= as_theorem) (λ th. rule th >>= λ q. Ok (theorem q)) (IsTheorem names al dl)
      (IsGood al dl) (read-theorem r g) (λ th t. as-theorem (rule th) (sound th t))

  two-good : (rule : Sequent Name → Sequent Name → Result (Sequent Name) (Fault Name))
      → ((lower top : Sequent Name) → IsTheorem names al dl lower → IsTheorem names al dl top
      → IfOk (rule lower top) (IsTheorem names al dl)) → MakerIsGood (of_two (two_theorems_made rule))
  two-good rule sound r s g h =
      if_bind (r >>= as_theorem) (λ upper. (s >>= as_theorem) >>= λ lower. rule lower upper >>= λ q. Ok (theorem q))
      (IsTheorem names al dl) (IsGood al dl) (read-theorem r g)
      (λ upper u. if_bind (s >>= as_theorem) (λ lower. rule lower upper >>= λ q. Ok (theorem q))
      (IsTheorem names al dl) (IsGood al dl) (read-theorem s h)
      (λ lower l. as-theorem (rule lower upper) (sound lower upper l u)))

  term-rule-good : (rule : Tm Name → Result (Sequent Name) (Fault Name))
      → ((t : Tm Name) → IsWellTyped names t → IfOk (rule t) (IsTheorem names al dl)) → (r : Read) → GoodRead r
      → GoodRead ((r >>= as_term) >>= λ t. rule t >>= λ q. Ok (theorem q))
  term-rule-good rule sound r g =
      if_bind (r >>= as_term) (λ t. rule t >>= λ q. Ok (theorem q)) (IsWellTyped names)
      (IsGood al dl) (read-term r g) (λ t w. as-theorem (rule t) (sound t w))

  cons-good : MakerIsGood (of_two cons_made)
  cons-good r s g h =
      if_bind (r >>= as_list) (λ tail. s >>= λ head. consed head tail) (AreGood al dl) (IsGood al dl) (read-list r g)
      (λ tail t. if_bind s (λ head. consed head tail) (IsGood al dl) (IsGood al dl) h
      (λ head k. both (nat_le (nesting (list (more_objects head tail))) depth_limit) head tail k t))
    where
      both : (b : Bool) (head : Object) (tail : Objects) → IsGood al dl head → AreGood al dl tail
          → GoodRead (if b then Ok (list (more_objects head tail)) else Err Nesting)
      both true head tail k t = (k, t)
      both false head tail k t = tt

  app-good : MakerIsGood (of_two app_term_made)
  app-good r s g h =
      any_bind (r >>= as_term) (λ x. (s >>= as_term) >>= λ f. app_rule names f x >>= λ t. Ok (term t)) (IsGood al dl)
      (λ x. any_bind (s >>= as_term) (λ f. app_rule names f x >>= λ t. Ok (term t)) (IsGood al dl)
      (λ f. if_bind (app_rule names f x) (λ t. Ok (term t))
      (λ t. (t ≡ App f x) × IsWellTyped names t × IsTrue (is_shallow names t)) (IsGood al dl) (rules.app f x)
      (λ t w. w.1)))
    where
      rules : TermRulesAreSound names
      rules = term_rules_are_sound names tells_names

  abs-good : MakerIsGood (of_two abs_term_made)
  abs-good r s g h =
      if_bind (r >>= as_term) (λ t. (s >>= as_variable) >>= λ v. abs_rule names v t >>= λ u. Ok (term u))
      (IsWellTyped names) (IsGood al dl) (read-term r g)
      (λ t w. any_bind (s >>= as_variable) (λ v. abs_rule names v t >>= λ u. Ok (term u)) (IsGood al dl)
      (λ v. if_bind (abs_rule names v t) (λ u. Ok (term u))
      (λ u. (u ≡ Abs v.ty (close names v t)) × IsWellTyped names u × IsTrue (is_shallow names u))
      (IsGood al dl) (rules.abs v t w) (λ u k. k.1)))
    where
      rules : TermRulesAreSound names
      rules = term_rules_are_sound names tells_names

  abs-thm-good : ((v : Variable Name) (th : Sequent Name) → IsTheorem names al dl th
      → IfOk (abs_thm_rule names v th) (IsTheorem names al dl))
      → MakerIsGood (of_two abs_thm_made)
  abs-thm-good sound r s g h =
      if_bind (r >>= as_theorem) (λ th. (s >>= as_variable) >>= λ v. abs_thm_rule names v th >>= λ q. Ok (theorem q))
      (IsTheorem names al dl) (IsGood al dl) (read-theorem r g)
      (λ th t. any_bind (s >>= as_variable) (λ v. abs_thm_rule names v th >>= λ q. Ok (theorem q))
      (IsGood al dl) (λ v. as-theorem (abs_thm_rule names v th) (sound v th t)))

  -- the terms of a map have their variables' types
  with-typed : (m : TermMap names) (v : Variable Name) (t : Tm Name) → IsTyped names m → HasType names t v.ty
      → IsTyped names (with_term m v t)
  with-typed m v t typed has = go (list_any (λ p. same_var names v p.0) m)
    where
      push : (k : TermMap names) → IsTyped names k → IsTyped names (k ++ (v, t) ∷ [])
      push [] w = (has, tt)
      push (p ∷ k) w = (w.0, push k w.1)

      go : (b : Bool) → IsTyped names (if b then m else m ++ (v, t) ∷ [])
      go true = typed
      go false = push m typed

  terms-typed : (os : Objects) (m : TermMap names) → IsTyped names m → IfOk (terms_onto m os) (IsTyped names)
  terms-typed no_objects m typed = typed
  terms-typed (more_objects o os) m typed =
      any_bind (term_pair o)
      (λ p. unless BadSubst (has_type names p.1 p.0.ty) >>= λ x. terms_onto (with_term m p.0 p.1) os) (IsTyped names)
      (λ p. test p (has_type names p.1 p.0.ty) refl (λ w. terms-typed os (with_term m p.0 p.1) w))
    where
      test : (p : Variable Name × Tm Name) (b : Bool) → has_type names p.1 p.0.ty ≡ b
          → ((w : IsTyped names (with_term m p.0 p.1)) → IfOk (terms_onto (with_term m p.0 p.1) os) (IsTyped names))
          → IfOk (unless BadSubst b >>= λ x. terms_onto (with_term m p.0 p.1) os) (IsTyped names)
      test p true e next = next (with-typed m p.0 p.1 typed ((has_type-is names tells_names p.1 p.0.ty).0 e))
      test p false e next = tt

  maps-typed : (os : Objects) → IfOk (maps_of os) (λ maps. IsTyped names maps.1)
  maps-typed os =
      any_bind (two_of BadSubst os) (λ parts. or_bad BadSubst (as_list parts.0)
      >>= λ types. or_bad BadSubst (as_list parts.1)
      >>= λ terms. types_onto [] types >>= λ s. terms_onto [] terms >>= λ m. Ok (s, m))
      (λ maps. IsTyped names maps.1)
      (λ parts. any_bind (or_bad BadSubst (as_list parts.0))
      (λ types. or_bad BadSubst (as_list parts.1)
      >>= λ terms. types_onto [] types >>= λ s. terms_onto [] terms >>= λ m. Ok (s, m))
      (λ maps. IsTyped names maps.1)
      (λ types. any_bind (or_bad BadSubst (as_list parts.1))
      (λ terms. types_onto [] types >>= λ s. terms_onto [] terms >>= λ m. Ok (s, m)) (λ maps. IsTyped names maps.1)
      (λ terms. any_bind (types_onto [] types) (λ s. terms_onto [] terms >>= λ m. Ok (s, m))
      (λ maps. IsTyped names maps.1)
      (λ s. if_bind (terms_onto [] terms) (λ m. Ok (s, m)) (IsTyped names)
      (λ maps. IsTyped names maps.1) (terms-typed terms [] tt) (λ m w. w)))))

  subst-good : ((s : TypeMap names) (m : TermMap names) (th : Sequent Name) → IsTyped names m
      → IsTheorem names al dl th
      → IfOk (subst_rule names s m th) (IsTheorem names al dl))
      → MakerIsGood (of_two subst_made)
  subst-good sound r s g h =
      if_bind (r >>= as_theorem) (λ th. (s >>= as_list)
      >>= λ os. maps_of os >>= λ maps. subst_rule names maps.0 maps.1 th >>= λ q. Ok (theorem q))
      (IsTheorem names al dl) (IsGood al dl) (read-theorem r g)
      (λ th t. any_bind (s >>= as_list)
      (λ os. maps_of os >>= λ maps. subst_rule names maps.0 maps.1 th >>= λ q. Ok (theorem q)) (IsGood al dl)
      (λ os. if_bind (maps_of os) (λ maps. subst_rule names maps.0 maps.1 th >>= λ q. Ok (theorem q))
      (λ maps. IsTyped names maps.1) (IsGood al dl) (maps-typed os)
      (λ maps w. as-theorem (subst_rule names maps.0 maps.1 th) (sound maps.0 maps.1 th w t))))

  abbrev IsPlain : Cmd → Type 0
  IsPlain words.Axiom = ⊥
  IsPlain _ = Unit {0}

  op-type-good : MakerIsGood (of_two op_type_made)
  op-type-good r s g h =
      any_bind (r >>= as_list >>= as_each as_type)
      (λ ts. (s >>= as_type_op) >>= λ n. op_rule names n (arguments ts) >>= λ t. Ok (a_type t)) (IsGood al dl)
      (λ ts. any_bind (s >>= as_type_op) (λ n. op_rule names n (arguments ts) >>= λ t. Ok (a_type t)) (IsGood al dl)
      (λ n. any_bind (op_rule names n (arguments ts)) (λ t. Ok (a_type t)) (IsGood al dl) (λ t. tt)))

  var-good : MakerIsGood (of_two var_made)
  var-good r s g h =
      any_bind (r >>= as_type) (λ t. (s >>= as_name) >>= λ n. Ok (variable (record { name = n; ty = t })))
      (IsGood al dl)
      (λ t. any_bind (s >>= as_name) (λ n. Ok (variable (record { name = n; ty = t }))) (IsGood al dl) (λ n. tt))

  const-term-good : MakerIsGood (of_two const_term_made)
  const-term-good r s g h =
      any_bind (r >>= as_type) (λ t. (s >>= as_constant) >>= λ n. Ok (term (Con n t))) (IsGood al dl)
      (λ t. any_bind (s >>= as_constant) (λ n. Ok (term (Con n t))) (IsGood al dl) (λ n. (t, refl)))

  sound : RulesAreSound names al dl
  sound = rules_are_sound names tells_names al dl

  maker-good : (w : Cmd) → IsPlain w → MakerIsGood (maker w)
  maker-good words.Version p = tt
  maker-good words.Nil p = tt
  maker-good words.Cons p = cons-good
  maker-good words.HdTl p = tt
  maker-good words.Def p = tt
  maker-good words.Ref p = tt
  maker-good words.Remove p = tt
  maker-good words.Pop p = tt
  maker-good words.Pragma p = tt
  maker-good words.TypeOp p = λ r g. any_bind (r >>= as_name) (λ n. Ok (type_op n)) (IsGood al dl) (λ n. tt)
  maker-good words.OpType p = op-type-good
  maker-good words.VarType p = λ r g. any_bind (r >>= as_name) (λ n. Ok (a_type (TyVar n))) (IsGood al dl) (λ n. tt)
  maker-good words.Var p = var-good
  maker-good words.VarTerm p = λ r g. any_bind (r >>= as_variable) (λ v. Ok (term (Free v))) (IsGood al dl)
      (λ v. (v.ty, refl))
  maker-good words.Const p = λ r g. any_bind (r >>= as_name) (λ n. Ok (constant n)) (IsGood al dl) (λ n. tt)
  maker-good words.ConstTerm p = const-term-good
  maker-good words.AppTerm p = app-good
  maker-good words.AbsTerm p = abs-good
  maker-good words.Refl p = term-rule-good (refl_rule names) sound.refl
  maker-good words.Assume p = term-rule-good (assume_rule names) (λ t w. sound.assume t)
  maker-good words.EqMp p = two-good (eq_mp_rule names) sound.eq_mp
  maker-good words.AbsThm p = abs-thm-good sound.abs_thm
  maker-good words.AppThm p = two-good (app_thm_rule names) sound.app_thm
  maker-good words.DeductAntisym p = two-good (deduct_antisym_rule names) sound.deduct_antisym
  maker-good words.BetaConv p = term-rule-good (beta_conv_rule names) sound.beta_conv
  maker-good words.Subst p = subst-good sound.subst
  maker-good words.Sym p = one-good (sym_rule names) sound.sym
  maker-good words.Trans p = two-good (trans_rule names) sound.trans
  maker-good words.ProveHyp p = two-good (prove_hyp_rule names) sound.prove_hyp
  maker-good words.Axiom p = absurd p
  maker-good words.Thm p = tt
  maker-good words.DefineConst p = tt
  maker-good words.DefineConstList p = tt
  maker-good words.DefineTypeOp p = tt

  -- ---- the value

  -- a word is plain, or it is `axiom`, whose own value is asked for
  plain-or : (w : Cmd) → ((os : Origins Name) → IsLeaf al dl w os → GoodRead (value (Make w os))) ⊎ IsPlain w
  plain-or words.Axiom = inl (λ os l. l)
  plain-or _ = inr tt

  mutual
    pub value-good : (o : Origin Name) → HasLeaves al dl o → GoodRead (value o)
    value-good (Number k) l = tt
    value-good (Named n) l = tt
    value-good (Make w os) l = elim (plain-or w) [
      | inl f ↦ f os l.1
      | inr p ↦
          if_bind (values os) (applied (maker w)) (AllByRecursion (IsGood al dl))
          (IsGood al dl) (values-good os l.0) (applied-good (maker w) (maker-good w p))
    ]
    value-good (Define w os) l = tt
    value-good (Outcome j d) l = l

    pub values-good : (os : Origins Name) → HaveLeaves al dl os → IfOk (values os) (AllByRecursion (IsGood al dl))
    values-good NoOrigins l = tt
    values-good (MoreOrigins o os) l =
        if_bind (value o) (λ v. values os >>= λ vs. Ok (v ∷ vs)) (IsGood al dl) (AllByRecursion (IsGood al dl))
        (value-good o l.0)
        (λ v g. if_bind (values os) (λ vs. Ok (v ∷ vs)) (AllByRecursion (IsGood al dl))
        (AllByRecursion (IsGood al dl)) (values-good os l.1) (λ vs gs. (g, gs)))
