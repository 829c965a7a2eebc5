-- Each word makes objects of one kind.
use Rattle.std.specs.Prelude.{◌≡◌, ℕ, zero, suc, [], Result, Ok, Err, nat_le}
use Rattle.std.specs.Prelude.{if◌then◌else◌, Bool, true, false, slice_get}
use Rattle.std.proofs.Common.{refl, sym, ap, ◌∙◌}
use Rattle.ot_logic.specs.Names.{Name}
use Rattle.ot_logic.specs.Naming.{names}
use Rattle.ot_logic.specs.Trees.{TyVar, Free, Con, Definition}
use Rattle.ot_logic.specs.Hol.{theorems, depth_limit}
use Rattle.ot_logic.specs.Faults.{Fault, StackEmpty, Nesting}
use Rattle.ot_logic.specs.Answers.{◌>>=◌, some_or}
use Rattle.ot_logic.specs.declared.command.Cmd.{Cmd}
use Rattle.ot_logic.specs.declared.command.Cmd.TheVariants as words
use Rattle.ot_logic.specs.declared.kind.Kind.{Kind}
use Rattle.ot_logic.specs.declared.kind.Kind.TheVariants as kinds
use Rattle.ot_trace.specs.Origins.{Origin, Origins, Number, Named, Make, Define, Outcome}
use Rattle.ot_machine.specs.Objects.{Object, Objects, name, list, type_op, a_type, constant}
use Rattle.ot_machine.specs.Objects.{variable, term, theorem, more_objects, nesting, kind_of}
use Rattle.ot_machine.specs.Places.{as_name, as_list, as_type_op, as_type, as_constant}
use Rattle.ot_machine.specs.Places.{as_variable, as_term, as_theorem, as_each, arguments}
use Rattle.ot_machine.specs.Substitutions.{maps_of}
use Rattle.ot_kernel.specs.Axioms.{axiom_rule}
use Rattle.ot_logic.specs.Rules.{op_rule, app_rule, abs_rule, refl_rule, assume_rule, eq_mp_rule}
use Rattle.ot_logic.specs.Rules.{abs_thm_rule, app_thm_rule, deduct_antisym_rule, beta_conv_rule}
use Rattle.ot_logic.specs.Rules.{subst_rule, sym_rule, trans_rule, prove_hyp_rule}
use Rattle.ot_machine.specs.Makers.{Read, Maker, of_none, of_top, of_two, no_maker, maker}
use Rattle.ot_machine.specs.Values.{value, values, applied, definition_of, theorem_of}
use Rattle.ot_machine.proofs.Tops.{same-ok, no-ok}
use Rattle.ot_machine.proofs.Operands.{no-operands, one-operand, two-operands}
use Rattle.ot_logic.proofs.Results.{bind-ok}

-- the kind of what a word makes; some kind where it makes nothing
abbrev pub word_kind : Cmd → Kind
word_kind words.Version = kinds.Num
word_kind words.Nil = kinds.List
word_kind words.Cons = kinds.List
word_kind words.HdTl = kinds.Num
word_kind words.Def = kinds.Num
word_kind words.Ref = kinds.Num
word_kind words.Remove = kinds.Num
word_kind words.Pop = kinds.Num
word_kind words.Pragma = kinds.Num
word_kind words.TypeOp = kinds.TyOp
word_kind words.OpType = kinds.Ty
word_kind words.VarType = kinds.Ty
word_kind words.Var = kinds.Var
word_kind words.VarTerm = kinds.Tm
word_kind words.Const = kinds.Con
word_kind words.ConstTerm = kinds.Tm
word_kind words.AppTerm = kinds.Tm
word_kind words.AbsTerm = kinds.Tm
word_kind words.Refl = kinds.Thm
word_kind words.Assume = kinds.Thm
word_kind words.EqMp = kinds.Thm
word_kind words.AbsThm = kinds.Thm
word_kind words.AppThm = kinds.Thm
word_kind words.DeductAntisym = kinds.Thm
word_kind words.BetaConv = kinds.Thm
word_kind words.Subst = kinds.Thm
word_kind words.Sym = kinds.Thm
word_kind words.Trans = kinds.Thm
word_kind words.ProveHyp = kinds.Thm
word_kind words.Axiom = kinds.Thm
word_kind words.Thm = kinds.Num
word_kind words.DefineConst = kinds.Num
word_kind words.DefineConstList = kinds.Num
word_kind words.DefineTypeOp = kinds.Num

abbrev pub HasKind : Kind → Maker → Type 0
HasKind k (of_none o) = kind_of o ≡ k
HasKind k (of_top f) = (r : Read) (o : Object) → f r ≡ Ok o → kind_of o ≡ k
HasKind k (of_two f) = (r q : Read) (o : Object) → f r q ≡ Ok o → kind_of o ≡ k
HasKind k no_maker = Unit {0}

abbrev made : Object → Read
made o = Ok o

kind-is : (p o : Object) → made p ≡ made o → kind_of o ≡ kind_of p
kind-is p o e = ap kind_of (sym (same-ok (made p) p o refl e))

-- where each step behind the first ends so, the whole does
ends : {A : Type 0} (k : Kind) (r : Result A (Fault Name)) (f : A → Read)
    → ((x : A) (o : Object) → f x ≡ made o → kind_of o ≡ k) → (o : Object) → (r >>= f) ≡ made o → kind_of o ≡ k
ends k r f h o p = let a = bind-ok r f o p in h a.0 o a.2

list-within : (n : ℕ) (os : Objects) (o : Object) → (if nat_le n depth_limit then Ok (list os) else Err Nesting)
    ≡ made o → kind_of o ≡ kinds.List
list-within n os o p = by (nat_le n depth_limit) p
  where
    by : (b : Bool) → (if b then Ok (list os) else Err Nesting) ≡ made o → kind_of o ≡ kinds.List
    by true p = kind-is (list os) o p
    by false p = absurd (cc)

pub makes-kind : (w : Cmd) → HasKind (word_kind w) (maker w)
makes-kind words.Version = tt
makes-kind words.Nil = refl
makes-kind words.Cons = λ r q. ends kinds.List (r >>= as_list) _
    (λ z0. ends kinds.List q _ (λ z1 o p. list-within (nesting (list (more_objects z1 z0))) (more_objects z1 z0) o p))
makes-kind words.HdTl = tt
makes-kind words.Def = tt
makes-kind words.Ref = tt
makes-kind words.Remove = tt
makes-kind words.Pop = tt
makes-kind words.Pragma = tt
makes-kind words.TypeOp = λ r. ends kinds.TyOp (r >>= as_name) _ (λ z0 o p. kind-is (type_op z0) o p)
makes-kind words.OpType =
    λ r q. ends kinds.Ty (r >>= as_list >>= as_each as_type) _
    (λ z0. ends kinds.Ty (q >>= as_type_op) _
    (λ z1. ends kinds.Ty (op_rule names z1 (arguments z0)) _ (λ z2 o p. kind-is (a_type z2) o p)))
makes-kind words.VarType = λ r. ends kinds.Ty (r >>= as_name) _ (λ z0 o p. kind-is (a_type (TyVar z0)) o p)
makes-kind words.Var = λ r q. ends kinds.Var (r >>= as_type) _
    (λ z0. ends kinds.Var (q >>= as_name) _ (λ z1 o p. kind-is (variable (record { name = z1; ty = z0 })) o p))
makes-kind words.VarTerm = λ r. ends kinds.Tm (r >>= as_variable) _ (λ z0 o p. kind-is (term (Free z0)) o p)
makes-kind words.Const = λ r. ends kinds.Con (r >>= as_name) _ (λ z0 o p. kind-is (constant z0) o p)
makes-kind words.ConstTerm = λ r q. ends kinds.Tm (r >>= as_type) _
    (λ z0. ends kinds.Tm (q >>= as_constant) _ (λ z1 o p. kind-is (term (Con z1 z0)) o p))
makes-kind words.AppTerm =
    λ r q. ends kinds.Tm (r >>= as_term) _
    (λ z0. ends kinds.Tm (q >>= as_term) _
    (λ z1. ends kinds.Tm (app_rule names z1 z0) _ (λ z2 o p. kind-is (term z2) o p)))
makes-kind words.AbsTerm =
    λ r q. ends kinds.Tm (r >>= as_term) _
    (λ z0. ends kinds.Tm (q >>= as_variable) _
    (λ z1. ends kinds.Tm (abs_rule names z1 z0) _ (λ z2 o p. kind-is (term z2) o p)))
makes-kind words.Refl = λ r. ends kinds.Thm (r >>= as_term) _
    (λ z0. ends kinds.Thm (refl_rule names z0) _ (λ z1 o p. kind-is (theorem z1) o p))
makes-kind words.Assume = λ r. ends kinds.Thm (r >>= as_term) _
    (λ z0. ends kinds.Thm (assume_rule names z0) _ (λ z1 o p. kind-is (theorem z1) o p))
makes-kind words.EqMp =
    λ r q. ends kinds.Thm (r >>= as_theorem) _
    (λ z0. ends kinds.Thm (q >>= as_theorem) _
    (λ z1. ends kinds.Thm (eq_mp_rule names z1 z0) _ (λ z2 o p. kind-is (theorem z2) o p)))
makes-kind words.AbsThm =
    λ r q. ends kinds.Thm (r >>= as_theorem) _
    (λ z0. ends kinds.Thm (q >>= as_variable) _
    (λ z1. ends kinds.Thm (abs_thm_rule names z1 z0) _ (λ z2 o p. kind-is (theorem z2) o p)))
makes-kind words.AppThm =
    λ r q. ends kinds.Thm (r >>= as_theorem) _
    (λ z0. ends kinds.Thm (q >>= as_theorem) _
    (λ z1. ends kinds.Thm (app_thm_rule names z1 z0) _ (λ z2 o p. kind-is (theorem z2) o p)))
makes-kind words.DeductAntisym =
    λ r q. ends kinds.Thm (r >>= as_theorem) _
    (λ z0. ends kinds.Thm (q >>= as_theorem) _
    (λ z1. ends kinds.Thm (deduct_antisym_rule names z1 z0) _ (λ z2 o p. kind-is (theorem z2) o p)))
makes-kind words.BetaConv = λ r. ends kinds.Thm (r >>= as_term) _
    (λ z0. ends kinds.Thm (beta_conv_rule names z0) _ (λ z1 o p. kind-is (theorem z1) o p))
makes-kind words.Subst =
    λ r q. ends kinds.Thm (r >>= as_theorem) _
    (λ z0. ends kinds.Thm (q >>= as_list) _
    (λ z1. ends kinds.Thm (maps_of z1) _
    (λ z2. ends kinds.Thm (subst_rule names z2.0 z2.1 z0) _ (λ z3 o p. kind-is (theorem z3) o p))))
makes-kind words.Sym = λ r. ends kinds.Thm (r >>= as_theorem) _
    (λ z0. ends kinds.Thm (sym_rule names z0) _ (λ z1 o p. kind-is (theorem z1) o p))
makes-kind words.Trans =
    λ r q. ends kinds.Thm (r >>= as_theorem) _
    (λ z0. ends kinds.Thm (q >>= as_theorem) _
    (λ z1. ends kinds.Thm (trans_rule names z1 z0) _ (λ z2 o p. kind-is (theorem z2) o p)))
makes-kind words.ProveHyp =
    λ r q. ends kinds.Thm (r >>= as_theorem) _
    (λ z0. ends kinds.Thm (q >>= as_theorem) _
    (λ z1. ends kinds.Thm (prove_hyp_rule names z1 z0) _ (λ z2 o p. kind-is (theorem z2) o p)))
makes-kind words.Axiom =
    λ r q. ends kinds.Thm (r >>= as_term) _
    (λ z0. ends kinds.Thm (q >>= as_list >>= as_each as_term) _
    (λ z1. ends kinds.Thm (axiom_rule z1 z0) _ (λ z2 o p. kind-is (theorem z2) o p)))
makes-kind words.Thm = tt
makes-kind words.DefineConst = tt
makes-kind words.DefineConstList = tt
makes-kind words.DefineTypeOp = tt

made-kind : (k : Kind) (m : Maker) (args : Origins Name) (o : Object) → HasKind k m → (values args >>= applied m)
    ≡ made o → kind_of o ≡ k
made-kind k (of_none q) args o h p = ap kind_of (sym (no-operands q args o p).1) ∙ h
made-kind k (of_top f) args o h p = h _ o (one-operand f args o p).made
made-kind k (of_two f) args o h p = h _ _ o (two-operands f args o p).made
made-kind k no_maker args o h p = let a = bind-ok (values args) _ _ p in absurd (no-ok _ StackEmpty o a.2)

pub word-kind : (w : Cmd) (args : Origins Name) (o : Object) → value (Make w args) ≡ made o → kind_of o ≡ word_kind w
word-kind w args o p = made-kind (word_kind w) (maker w) args o (makes-kind w) p

theorem-kind : (j : ℕ) (d : Definition Name) (o : Object) → theorem_of j d ≡ made o → kind_of o ≡ kinds.Thm
theorem-kind zero d o p = absurd (cc)
theorem-kind (suc j) d o p = ends kinds.Thm (some_or StackEmpty (slice_get (theorems names d) j)) _
    (λ q o p. kind-is (theorem q) o p) o p

pub outcome-kind : (j : ℕ) (d : Origin Name) (o : Object) → value (Outcome j d) ≡ made o → kind_of o ≡ kinds.Thm
outcome-kind j d o p = ends kinds.Thm (definition_of [] d) _ (λ x o p. theorem-kind j x o p) o p

-- ---- a name's origin is the name
no-name : (w : Cmd) → kinds.Name ≡ word_kind w → ⊥
no-name words.Version p = cc
no-name words.Nil p = cc
no-name words.Cons p = cc
no-name words.HdTl p = cc
no-name words.Def p = cc
no-name words.Ref p = cc
no-name words.Remove p = cc
no-name words.Pop p = cc
no-name words.Pragma p = cc
no-name words.TypeOp p = cc
no-name words.OpType p = cc
no-name words.VarType p = cc
no-name words.Var p = cc
no-name words.VarTerm p = cc
no-name words.Const p = cc
no-name words.ConstTerm p = cc
no-name words.AppTerm p = cc
no-name words.AbsTerm p = cc
no-name words.Refl p = cc
no-name words.Assume p = cc
no-name words.EqMp p = cc
no-name words.AbsThm p = cc
no-name words.AppThm p = cc
no-name words.DeductAntisym p = cc
no-name words.BetaConv p = cc
no-name words.Subst p = cc
no-name words.Sym p = cc
no-name words.Trans p = cc
no-name words.ProveHyp p = cc
no-name words.Axiom p = cc
no-name words.Thm p = cc
no-name words.DefineConst p = cc
no-name words.DefineConstList p = cc
no-name words.DefineTypeOp p = cc

pub name-origin : (o : Origin Name) (n : Name) → value o ≡ made (name n) → o ≡ Named n
name-origin (Number k) n p = absurd (cc)
name-origin (Named m) n p = ap Named (inside m n (same-ok _ _ _ refl p))
  where
    inside : (m n : Name) → name m ≡ name n → m ≡ n
    inside m n p = cc
name-origin (Make w args) n p = absurd (no-name w (word-kind w args (name n) p))
name-origin (Define w args) n p = absurd (cc)
name-origin (Outcome j d) n p = absurd (other (outcome-kind j d (name n) p))
  where
    other : kinds.Name ≡ kinds.Thm → ⊥
    other e = cc
