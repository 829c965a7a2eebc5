-- The value of each origin is kept.
use Rattle.std.specs.Prelude.{nat_le}
use Rattle.std.specs.List.{AllByRecursion}
use Rattle.std.proofs.Common.{◌≡◌, ℕ, zero, suc, ◌≤◌, true, List, [], ◌∷◌}
use Rattle.std.proofs.Common.{slice_get, Some, Ok, refl, sym, subst, arith}
use Rattle.std.proofs.lemmas.Bool.{leb-true}
use Rattle.std.proofs.lemmas.Option.{same_Some}
use Rattle.ot_logic.specs.Names.{Name}
use Rattle.ot_logic.specs.Naming.{names}
use Rattle.ot_logic.specs.Trees.{Ty, TyVar, Tm, Free, Con, Sequent, Definition}
use Rattle.ot_logic.specs.Hol.{depth_limit, depth_ty, HasType, theorems}
use Rattle.ot_logic.specs.Faults.{StackEmpty, Nesting}
use Rattle.ot_logic.specs.Answers.{◌>>=◌, some_or}
use Rattle.ot_logic.specs.Rules.{op_rule, app_rule, abs_rule}
use Rattle.ot_logic.specs.declared.command.Cmd.{Cmd}
use Rattle.ot_logic.specs.declared.command.Cmd.TheVariants as words
use Rattle.ot_laws.proofs.Tests.{tells_names}
use Rattle.ot_laws.proofs.Steps.{limit-ok, op_rule-ok, app_rule-ok, abs_rule-ok}
use Rattle.ot_trace.specs.Origins.{Origin, Origins, Number, Named, Make, Define, Outcome, NoOrigins, MoreOrigins}
use Rattle.ot_machine.specs.Objects.{Object, number, name, list, type_op, a_type, constant}
use Rattle.ot_machine.specs.Objects.{variable, term, theorem, no_objects, more_objects, nesting}
use Rattle.ot_machine.specs.Places.{as_name, as_list, as_type_op, as_type, as_constant}
use Rattle.ot_machine.specs.Places.{as_variable, as_term, as_each, arguments}
use Rattle.ot_machine.specs.Makers.{Read, maker, cons_made, type_op_made, op_type_made, var_type_made, var_made}
use Rattle.ot_machine.specs.Makers.{var_term_made, const_made, const_term_made, app_term_made, abs_term_made}
use Rattle.ot_machine.specs.Values.{value, values, applied, definition_of, defines, theorem_of}
use Rattle.ot_machine.proofs.ObjectKinds.{list-is, type-is, variable-is, term-is}
use Rattle.ot_article.proofs.Operands.{made_of, made-of, given-of}
use Rattle.ot_log_records.proofs.Fitting.{Fits, fits-shallow}
use Rattle.ot_log_law.specs.Derived.{makes_theorem}
use Rattle.ot_log_law.proofs.Kept.{IsKeptTerm, IsKept, refl-kept, assume-kept, eq_mp-kept, abs_thm-kept}
use Rattle.ot_log_law.proofs.Kept.{app_thm-kept, deduct_antisym-kept, beta-kept, subst-kept, sym-kept}
use Rattle.ot_log_law.proofs.KeptWords.{trans-kept, prove_hyp-kept, axiom-kept}
use Rattle.ot_log_law.proofs.Steps.{IsStep, ByRefl, ByAssume, ByBeta, ByAbsThm, BySubst, ByAxiom}
use Rattle.ot_log_law.proofs.Steps.{BySym, ByEqMp, ByAppThm, ByDeductAntisym, ByTrans, ByProveHyp}
use Rattle.ot_log_law.proofs.Steps.{step-of, one-of, two-of}
use Rattle.ot_log_law.proofs.Read.{maps-typed}
use Rattle.ot_log_law.proofs.Defining.{defining-of, defined-kept}
use Rattle.ot_log_law.proofs.KeptObjects.{IsKeptObject, each-term}
use Rattle.ot_logic.proofs.Results.{bind-ok, same_Ok, some_or-ok}

abbrev pub Each : List Object → Type 0
Each = AllByRecursion IsKeptObject

-- ---- theorems

pub step-kept : (w : Cmd) (vs : List Object) (q : Sequent Name) → IsStep vs q w → Each vs → IsKept q
step-kept w vs q (ByRefl t s h) k = refl-kept t q (subst Each s k).0 h
step-kept w vs q (ByAssume p s h) k = assume-kept p q (subst Each s k).0 h
step-kept w vs q (ByBeta t s h) k = beta-kept t q (subst Each s k).0 h
step-kept w vs q (ByAbsThm v a s h) k = abs_thm-kept v a q (subst Each s k).1.0 h
step-kept w vs q (BySubst os maps a s e h) k =
    subst-kept maps.0 maps.1 a q (maps-typed os maps e) (subst Each s k).1.0 h
step-kept w vs q (ByAxiom os hyps p s e h) k =
    axiom-kept hyps p q (each-term os hyps (subst Each s k).0 e) (subst Each s k).1.0 h
step-kept w vs q (BySym a s h) k = sym-kept a q (subst Each s k).0 h
step-kept w vs q (ByEqMp a b s h) k = eq_mp-kept a b q (subst Each s k).0 (subst Each s k).1.0 h
step-kept w vs q (ByAppThm a b s h) k = app_thm-kept a b q (subst Each s k).0 (subst Each s k).1.0 h
step-kept w vs q (ByDeductAntisym a b s h) k = deduct_antisym-kept a b q (subst Each s k).0 (subst Each s k).1.0 h
step-kept w vs q (ByTrans a b s h) k = trans-kept a b q (subst Each s k).0 (subst Each s k).1.0 h
step-kept w vs q (ByProveHyp a b s h) k = prove_hyp-kept a b q (subst Each s k).0 (subst Each s k).1.0 h

by-step : (w : Cmd) (vs : List Object) (v : Object) → makes_theorem w ≡ true → made_of (maker w) vs ≡ Ok v → Each vs
    → IsKeptObject v
by-step w vs v m e k = let s = step-of w vs v m e in subst IsKeptObject (sym s.1) (step-kept w vs s.0 s.2 k)

-- ---- other objects

abbrev made : (o v : Object) → ◌≡◌ {A = Read} (Ok o) (Ok v) → IsKeptObject o → IsKeptObject v
made o v e h = subst IsKeptObject (same_Ok o v e) h

cons-kept : (vs : List Object) (v : Object) → made_of (maker words.Cons) vs ≡ Ok v → Each vs → IsKeptObject v
cons-kept vs v e k =
    let (y, x, s, h) = two-of cons_made vs v e in
    let a = bind-ok (as_list x) _ v h in
    let l = subst Each s k in
    subst IsKeptObject (limit-ok (nat_le (nesting (list (more_objects y a.0))) depth_limit)
    Nesting (list (more_objects y a.0)) v a.2).1
    (l.0, subst IsKeptObject (list-is x a.0 a.1) l.1.0)

op_type-kept : (vs : List Object) (v : Object) → made_of (maker words.OpType) vs ≡ Ok v → IsKeptObject v
op_type-kept vs v e =
    let (y, x, s, h) = two-of op_type_made vs v e in
    let a = bind-ok (as_list x >>= as_each as_type) _ v h in
    let b = bind-ok (as_type_op y) _ v a.2 in
    let c = bind-ok (op_rule names b.0 (arguments a.0)) _ v b.2 in
    made (a_type c.0) v c.2 (leb-true (depth_ty names c.0) depth_limit
    (op_rule-ok names tells_names b.0 (arguments a.0) c.0 c.1).1)

var_type-kept : (vs : List Object) (v : Object) → made_of (maker words.VarType) vs ≡ Ok v → IsKeptObject v
var_type-kept vs v e =
    let (x, s, h) = one-of var_type_made vs v e in
    let a = bind-ok (as_name x) _ v h in made (a_type (TyVar a.0)) v a.2 (omega arith)

type_op-kept : (vs : List Object) (v : Object) → made_of (maker words.TypeOp) vs ≡ Ok v → IsKeptObject v
type_op-kept vs v e =
    let (x, s, h) = one-of type_op_made vs v e in let a = bind-ok (as_name x) _ v h in made (type_op a.0) v a.2 tt

const-kept : (vs : List Object) (v : Object) → made_of (maker words.Const) vs ≡ Ok v → IsKeptObject v
const-kept vs v e = let (x, s, h) = one-of const_made vs v e in let a = bind-ok (as_name x) _ v h in
    made (constant a.0) v a.2 tt

var-kept : (vs : List Object) (v : Object) → made_of (maker words.Var) vs ≡ Ok v → Each vs → IsKeptObject v
var-kept vs v e k =
    let (y, x, s, h) = two-of var_made vs v e in
    let a = bind-ok (as_type x) _ v h in
    let b = bind-ok (as_name y) _ v a.2 in
    made (variable (record { name = b.0; ty = a.0 })) v b.2
    (subst IsKeptObject (type-is x a.0 a.1) (subst Each s k).1.0)

pub leaf-kept : (t : Tm Name) (ty : Ty Name) → HasType names t ty → Fits names depth_limit t → IsKeptTerm t
leaf-kept t ty h f = record { typed = (ty, h); fits = f }

var_term-kept : (vs : List Object) (v : Object) → made_of (maker words.VarTerm) vs ≡ Ok v → Each vs → IsKeptObject v
var_term-kept vs v e k =
    let (x, s, h) = one-of var_term_made vs v e in
    let a = bind-ok (as_variable x) _ v h in
    let low : depth_ty names a.0.ty ≤ depth_limit = subst IsKeptObject (variable-is x a.0 a.1) (subst Each s k).0 in
    made (term (Free a.0)) v a.2 (leaf-kept (Free a.0) a.0.ty refl (record { depth = omega arith; types = low }))

const_term-kept : (vs : List Object) (v : Object) → made_of (maker words.ConstTerm) vs ≡ Ok v → Each vs
    → IsKeptObject v
const_term-kept vs v e k =
    let (y, x, s, h) = two-of const_term_made vs v e in
    let a = bind-ok (as_type x) _ v h in
    let b = bind-ok (as_constant y) _ v a.2 in
    let low : depth_ty names a.0 ≤ depth_limit = subst IsKeptObject (type-is x a.0 a.1) (subst Each s k).1.0 in
    made (term (Con b.0 a.0)) v b.2 (leaf-kept (Con b.0 a.0) a.0 refl (record { depth = omega arith; types = low }))

app_term-kept : (vs : List Object) (v : Object) → made_of (maker words.AppTerm) vs ≡ Ok v → IsKeptObject v
app_term-kept vs v e =
    let (y, x, s, h) = two-of app_term_made vs v e in
    let a = bind-ok (as_term x) _ v h in
    let b = bind-ok (as_term y) _ v a.2 in
    let c = bind-ok (app_rule names b.0 a.0) _ v b.2 in
    let r = app_rule-ok names tells_names b.0 a.0 c.0 c.1 in
    made (term c.0) v c.2 (record { typed = r.1; fits = fits-shallow names c.0 r.2 })

abs_term-kept : (vs : List Object) (v : Object) → made_of (maker words.AbsTerm) vs ≡ Ok v → Each vs → IsKeptObject v
abs_term-kept vs v e k =
    let (y, x, s, h) = two-of abs_term_made vs v e in
    let a = bind-ok (as_term x) _ v h in
    let b = bind-ok (as_variable y) _ v a.2 in
    let c = bind-ok (abs_rule names b.0 a.0) _ v b.2 in
    let body : IsKeptTerm a.0 = subst IsKeptObject (term-is x a.0 a.1) (subst Each s k).1.0 in
    let r = abs_rule-ok names tells_names b.0 a.0 c.0 body.typed c.1 in
    made (term c.0) v c.2 (record { typed = r.1; fits = fits-shallow names c.0 r.2 })

made-kept : (w : Cmd) (vs : List Object) (v : Object) → made_of (maker w) vs ≡ Ok v → Each vs → IsKeptObject v
made-kept words.Nil [] v e k = made (list no_objects) v e tt
made-kept words.Nil (x ∷ vs) v e k = absurd (cc)
made-kept words.Cons vs v e k = cons-kept vs v e k
made-kept words.TypeOp vs v e k = type_op-kept vs v e
made-kept words.OpType vs v e k = op_type-kept vs v e
made-kept words.VarType vs v e k = var_type-kept vs v e
made-kept words.Var vs v e k = var-kept vs v e k
made-kept words.VarTerm vs v e k = var_term-kept vs v e k
made-kept words.Const vs v e k = const-kept vs v e
made-kept words.ConstTerm vs v e k = const_term-kept vs v e k
made-kept words.AppTerm vs v e k = app_term-kept vs v e
made-kept words.AbsTerm vs v e k = abs_term-kept vs v e k
made-kept words.Refl vs v e k = by-step words.Refl vs v refl e k
made-kept words.Assume vs v e k = by-step words.Assume vs v refl e k
made-kept words.EqMp vs v e k = by-step words.EqMp vs v refl e k
made-kept words.AbsThm vs v e k = by-step words.AbsThm vs v refl e k
made-kept words.AppThm vs v e k = by-step words.AppThm vs v refl e k
made-kept words.DeductAntisym vs v e k = by-step words.DeductAntisym vs v refl e k
made-kept words.BetaConv vs v e k = by-step words.BetaConv vs v refl e k
made-kept words.Subst vs v e k = by-step words.Subst vs v refl e k
made-kept words.Sym vs v e k = by-step words.Sym vs v refl e k
made-kept words.Trans vs v e k = by-step words.Trans vs v refl e k
made-kept words.ProveHyp vs v e k = by-step words.ProveHyp vs v refl e k
made-kept words.Axiom vs v e k = by-step words.Axiom vs v refl e k
made-kept _ vs v e k = absurd (cc)

-- ---- origins

get-kept : (qs : List (Sequent Name)) (i : ℕ) (q : Sequent Name) → AllByRecursion IsKept qs → slice_get qs i ≡ Some q
    → IsKept q
get-kept [] i q h e = absurd (cc)
get-kept (r ∷ qs) zero q h e = subst IsKept (same_Some r q e) h.0
get-kept (r ∷ qs) (suc i) q h e = get-kept qs i q h.1 e

theorem_of-kept : (j : ℕ) (d : Definition Name) (v : Object) → AllByRecursion IsKept (theorems names d)
    → theorem_of j d ≡ Ok v
    → IsKeptObject v
theorem_of-kept zero d v h e = absurd (cc)
theorem_of-kept (suc j) d v h e =
    let a = bind-ok (some_or StackEmpty (slice_get (theorems names d) j)) _ v e in
    made (theorem a.0) v a.2 (get-kept (theorems names d) j a.0 h
    (some_or-ok StackEmpty (slice_get (theorems names d) j) a.0 a.1))

mutual
  pub value-kept : (o : Origin Name) (v : Object) → value o ≡ Ok v → IsKeptObject v
  value-kept (Number k) v e = made (number k) v e tt
  value-kept (Named n) v e = made (name n) v e tt
  value-kept (Make w os) v e =
      let a = bind-ok (values os) (applied (maker w)) v e in
      made-kept w a.0 v (made-of (maker w) a.0 v a.2) (values-kept os a.0 a.1)
  value-kept (Define w os) v e = absurd (cc)
  value-kept (Outcome j d) v e =
      let a = bind-ok (definition_of [] d) (theorem_of j) v e in
      theorem_of-kept j a.0 v (definition-kept d a.0 a.1) a.2

  pub values-kept : (os : Origins Name) (vs : List Object) → values os ≡ Ok vs → Each vs
  values-kept NoOrigins vs e = subst Each (same_Ok [] vs e) tt
  values-kept (MoreOrigins o os) vs e =
      let a = bind-ok (value o) _ vs e in
      let b = bind-ok (values os) _ vs a.2 in
      subst Each (same_Ok (a.0 ∷ b.0) vs b.2) (value-kept o a.0 a.1, values-kept os b.0 b.1)

  pub definition-kept : (d : Origin Name) (x : Definition Name) → definition_of [] d ≡ Ok x
      → AllByRecursion IsKept (theorems names x)
  definition-kept (Number k) x e = absurd (cc)
  definition-kept (Named n) x e = absurd (cc)
  definition-kept (Make w os) x e = absurd (cc)
  definition-kept (Define w os) x e =
      let a = bind-ok (values os) (defines w []) x e in
      defined-kept w a.0 x (values-kept os a.0 a.1) (defining-of w [] a.0 x (given-of w [] a.0 x a.2))
  definition-kept (Outcome j d) x e = absurd (cc)
