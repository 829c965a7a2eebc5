-- Each word makes objects of one kind.
use Rattle.std.proofs.Common.{◌≡◌, zero, suc, Bool, true, false, List, [], ◌∷◌, Result, Ok, Err, refl, sym, ap, ◌∙◌}
use Rattle.ot_logic.specs.Names.{Name}
use Rattle.ot_logic.specs.Naming.{names}
use Rattle.ot_logic.specs.Faults.{Fault, StackEmpty, Nesting}
use Rattle.ot_logic.specs.Answers.{◌>>=◌, some_or}
use Rattle.ot_logic.specs.Hol.{theorems, depth_limit}
use Rattle.ot_logic.specs.declared.command.Cmd.{Cmd}
use Rattle.ot_logic.specs.declared.command.Cmd.TheVariants as words
use Rattle.ot_logic.specs.declared.kind.Kind.{Kind}
use Rattle.ot_logic.specs.declared.kind.Kind.TheVariants as kinds
use Rattle.ot_trace.specs.Origins.{Origin, Number, Named, Make, Define, Outcome}
use Rattle.ot_machine.specs.Objects.{Object, kind_of, nesting, name, list, type_op, a_type}
use Rattle.ot_machine.specs.Objects.{constant, variable, term, theorem, more_objects}
use Rattle.ot_machine.specs.Places.{as_name, as_list, as_type_op, as_type, as_constant}
use Rattle.ot_machine.specs.Places.{as_variable, as_term, as_theorem, as_each, arguments}
use Rattle.ot_machine.specs.Substitutions.{maps_of}
use Rattle.ot_kernel.specs.Axioms.{axiom_rule}
use Rattle.ot_logic.specs.Rules.{op_rule, app_rule, abs_rule, refl_rule, assume_rule, eq_mp_rule}
use Rattle.ot_logic.specs.Rules.{abs_thm_rule, app_thm_rule, deduct_antisym_rule, beta_conv_rule}
use Rattle.ot_logic.specs.Rules.{subst_rule, sym_rule, trans_rule, prove_hyp_rule}
use Rattle.ot_logic.specs.Trees.{TyVar, Free, Con, Sequent}
use Rattle.std.specs.Prelude.{if◌then◌else◌, nat_le, slice_get}
use Rattle.ot_machine.specs.Makers.{Read, Maker, of_none, of_top, of_two, no_maker}
use Rattle.ot_machine.specs.Makers.{maker, one_theorem_made, two_theorems_made}
use Rattle.ot_machine.specs.Values.{applied, value, values, definition_of, theorem_of}
use Rattle.ot_article.proofs.Operands.{made_of, made-of}
use Rattle.ot_logic.proofs.Results.{bind-ok}

-- what is given is of the kind
abbrev pub Gives : Kind → Read → Type 0
Gives kind r = (v : Object) → r ≡ Ok v → kind_of v ≡ kind

gives-bind : {A : Type 0} (kind : Kind) (r : Result A (Fault Name)) (f : A → Read) → ((a : A) → Gives kind (f a))
    → Gives kind (r >>= f)
gives-bind kind r f h v p = let b = bind-ok r f v p in h b.0 v b.2

gives-ok : (o : Object) → Gives (kind_of o) (Ok o)
gives-ok o v p = let e : o ≡ v = cc in ap kind_of (sym e)

gives-where : (kind : Kind) (b : Bool) (o : Object) (f : Fault Name) → kind_of o ≡ kind
    → Gives kind (if b then Ok o else Err f)
gives-where kind true o f h v p = let e : o ≡ v = cc in ap kind_of (sym e) ∙ h
gives-where kind false o f h v p = absurd (cc)

-- what is made of any operands
abbrev MakerGives : Kind → Maker → Type 0
MakerGives kind (of_none o) = kind_of o ≡ kind
MakerGives kind (of_top f) = (x : Read) → Gives kind (f x)
MakerGives kind (of_two f) = (x y : Read) → Gives kind (f x y)
MakerGives kind no_maker = Unit {0}

made-gives : (kind : Kind) (m : Maker) → MakerGives kind m → (vs : List Object) → Gives kind (made_of m vs)
made-gives kind (of_none o) h [] v p = let e : o ≡ v = cc in ap kind_of (sym e) ∙ h
made-gives kind (of_none o) h (x ∷ vs) v p = absurd (cc)
made-gives kind (of_top f) h [] v p = absurd (cc)
made-gives kind (of_top f) h (x ∷ []) v p = h (Ok x) v p
made-gives kind (of_top f) h (x ∷ y ∷ vs) v p = absurd (cc)
made-gives kind (of_two f) h [] v p = absurd (cc)
made-gives kind (of_two f) h (x ∷ []) v p = absurd (cc)
made-gives kind (of_two f) h (x ∷ y ∷ []) v p = h (Ok y) (Ok x) v p
made-gives kind (of_two f) h (x ∷ y ∷ z ∷ vs) v p = absurd (cc)
made-gives kind no_maker h vs v p = absurd (cc)

-- the kind of what a word makes
abbrev pub made_kind : Cmd → Kind
made_kind words.Nil = kinds.List
made_kind words.Cons = kinds.List
made_kind words.TypeOp = kinds.TyOp
made_kind words.OpType = kinds.Ty
made_kind words.VarType = kinds.Ty
made_kind words.Var = kinds.Var
made_kind words.VarTerm = kinds.Tm
made_kind words.Const = kinds.Con
made_kind words.ConstTerm = kinds.Tm
made_kind words.AppTerm = kinds.Tm
made_kind words.AbsTerm = kinds.Tm
made_kind _ = kinds.Thm

one-theorem : (rule : Sequent Name → Result (Sequent Name) (Fault Name))
    → MakerGives kinds.Thm (of_top (one_theorem_made rule))
one-theorem rule x =
    gives-bind kinds.Thm (x >>= as_theorem) _ (λ th. gives-bind kinds.Thm (rule th) _ (λ q. gives-ok (theorem q)))

two-theorems : (rule : Sequent Name → Sequent Name → Result (Sequent Name) (Fault Name))
    → MakerGives kinds.Thm (of_two (two_theorems_made rule))
two-theorems rule x y =
    gives-bind kinds.Thm (x >>= as_theorem) _
    (λ a. gives-bind kinds.Thm (y >>= as_theorem) _
    (λ b. gives-bind kinds.Thm (rule b a) _ (λ q. gives-ok (theorem q))))

maker-gives : (w : Cmd) → MakerGives (made_kind w) (maker w)
maker-gives words.Version = tt
maker-gives words.Nil = refl
maker-gives words.Cons =
    λ x y. gives-bind kinds.List (x >>= as_list) _
    (λ t. gives-bind kinds.List y _
    (λ h. gives-where kinds.List (nat_le (nesting (list (more_objects h t))) depth_limit) (list (more_objects h t))
    Nesting refl))
maker-gives words.HdTl = tt
maker-gives words.Def = tt
maker-gives words.Ref = tt
maker-gives words.Remove = tt
maker-gives words.Pop = tt
maker-gives words.Pragma = tt
maker-gives words.TypeOp = λ x. gives-bind kinds.TyOp (x >>= as_name) _ (λ n. gives-ok (type_op n))
maker-gives words.OpType = λ x y. gives-bind kinds.Ty (x >>= as_list >>= as_each as_type) _
    (λ ts. gives-bind kinds.Ty (y >>= as_type_op) _
    (λ n. gives-bind kinds.Ty (op_rule names n (arguments ts)) _ (λ t. gives-ok (a_type t))))
maker-gives words.VarType = λ x. gives-bind kinds.Ty (x >>= as_name) _ (λ n. gives-ok (a_type (TyVar n)))
maker-gives words.Var = λ x y. gives-bind kinds.Var (x >>= as_type) _
    (λ t. gives-bind kinds.Var (y >>= as_name) _ (λ n. gives-ok (variable (record { name = n; ty = t }))))
maker-gives words.VarTerm = λ x. gives-bind kinds.Tm (x >>= as_variable) _ (λ v. gives-ok (term (Free v)))
maker-gives words.Const = λ x. gives-bind kinds.Con (x >>= as_name) _ (λ n. gives-ok (constant n))
maker-gives words.ConstTerm = λ x y. gives-bind kinds.Tm (x >>= as_type) _
    (λ t. gives-bind kinds.Tm (y >>= as_constant) _ (λ n. gives-ok (term (Con n t))))
maker-gives words.AppTerm =
    λ x y. gives-bind kinds.Tm (x >>= as_term) _
    (λ a. gives-bind kinds.Tm (y >>= as_term) _
    (λ f. gives-bind kinds.Tm (app_rule names f a) _ (λ t. gives-ok (term t))))
maker-gives words.AbsTerm =
    λ x y. gives-bind kinds.Tm (x >>= as_term) _
    (λ t. gives-bind kinds.Tm (y >>= as_variable) _
    (λ v. gives-bind kinds.Tm (abs_rule names v t) _ (λ u. gives-ok (term u))))
maker-gives words.Refl = λ x. gives-bind kinds.Thm (x >>= as_term) _
    (λ t. gives-bind kinds.Thm (refl_rule names t) _ (λ q. gives-ok (theorem q)))
maker-gives words.Assume = λ x. gives-bind kinds.Thm (x >>= as_term) _
    (λ p. gives-bind kinds.Thm (assume_rule names p) _ (λ q. gives-ok (theorem q)))
maker-gives words.EqMp = two-theorems (eq_mp_rule names)
maker-gives words.AbsThm =
    λ x y. gives-bind kinds.Thm (x >>= as_theorem) _
    (λ th. gives-bind kinds.Thm (y >>= as_variable) _
    (λ v. gives-bind kinds.Thm (abs_thm_rule names v th) _ (λ q. gives-ok (theorem q))))
maker-gives words.AppThm = two-theorems (app_thm_rule names)
maker-gives words.DeductAntisym = two-theorems (deduct_antisym_rule names)
maker-gives words.BetaConv = λ x. gives-bind kinds.Thm (x >>= as_term) _
    (λ t. gives-bind kinds.Thm (beta_conv_rule names t) _ (λ q. gives-ok (theorem q)))
maker-gives words.Subst =
    λ x y. gives-bind kinds.Thm (x >>= as_theorem) _
    (λ th. gives-bind kinds.Thm (y >>= as_list) _
    (λ os. gives-bind kinds.Thm (maps_of os) _
    (λ maps. gives-bind kinds.Thm (subst_rule names maps.0 maps.1 th) _ (λ q. gives-ok (theorem q)))))
maker-gives words.Sym = one-theorem (sym_rule names)
maker-gives words.Trans = two-theorems (trans_rule names)
maker-gives words.ProveHyp = two-theorems (prove_hyp_rule names)
maker-gives words.Axiom =
    λ x y. gives-bind kinds.Thm (x >>= as_term) _ (λ p. gives-bind kinds.Thm (y >>= as_list >>= as_each as_term) _
    (λ hyps. gives-bind kinds.Thm (axiom_rule hyps p) _ (λ q. gives-ok (theorem q))))
maker-gives words.Thm = tt
maker-gives words.DefineConst = tt
maker-gives words.DefineConstList = tt
maker-gives words.DefineTypeOp = tt

-- what a word makes is of its kind
pub kind-made : (w : Cmd) (vs : List Object) → Gives (made_kind w) (made_of (maker w) vs)
kind-made w vs = made-gives (made_kind w) (maker w) (maker-gives w) vs

-- no word makes a name
no-name : (w : Cmd) → kinds.Name ≡ made_kind w → ⊥
no-name words.Nil e = cc
no-name words.Cons e = cc
no-name words.TypeOp e = cc
no-name words.OpType e = cc
no-name words.VarType e = cc
no-name words.Var e = cc
no-name words.VarTerm e = cc
no-name words.Const e = cc
no-name words.ConstTerm e = cc
no-name words.AppTerm e = cc
no-name words.AbsTerm e = cc
no-name _ e = cc

-- a name has the origin of a name line
pub value-name : (o : Origin Name) (n : Name) → value o ≡ Ok (name n) → o ≡ Named n
value-name (Number k) n p = absurd (cc)
value-name (Named m) n p = let e : m ≡ n = cc in ap Named e
value-name (Make w os) n p = let b = bind-ok (values os) (applied (maker w)) (name n) p in
    absurd (no-name w (kind-made w b.0 (name n) (made-of (maker w) b.0 (name n) b.2)))
value-name (Define w os) n p = absurd (cc)
value-name (Outcome zero d) n p = let b = bind-ok (definition_of [] d) (theorem_of zero) (name n) p in
    absurd (let f : Err StackEmpty ≡ Ok (name n) = b.2 in cc)
value-name (Outcome (suc j) d) n p =
    let b = bind-ok (definition_of [] d) (theorem_of (suc j)) (name n) p in
    let c = bind-ok (some_or StackEmpty (slice_get (theorems names b.0) j)) (λ q. Ok (theorem q)) (name n) b.2 in
    absurd (let f : Ok (theorem c.0) ≡ Ok (name n) = c.2 in cc)
