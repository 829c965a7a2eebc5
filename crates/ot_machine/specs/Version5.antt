-- What `defineTypeOp` pushes in an article of version 5.
use Rattle.std.specs.Prelude.{max, ℕ, suc, List, [], ◌∷◌, codes, Option, Some, None, Result, Ok, Err, slice_get}
use Rattle.std.specs.Fmt.{decimal}
use Rattle.ot_logic.specs.Names.{Name}
use Rattle.ot_logic.specs.Naming.{names}
use Rattle.ot_logic.specs.Trees.{Ty, Tys, TyVar, TyOp, NoTys, MoreTys, Tm, Free, Con, Bound, App, Abs}
use Rattle.ot_logic.specs.Hol.{fun_ty, bool_ty, type_of, tys_of_vars}
use Rattle.ot_logic.specs.Faults.{Fault, NotApplication}
use Rattle.ot_logic.specs.Answers.{◌>>=◌}
use Rattle.ot_logic.specs.declared.command.Cmd.TheVariants as words
use Rattle.ot_kernel.specs.Defining.{type_definition}
use Rattle.ot_interp.specs.Interpretation.{renamed}
use Rattle.ot_trace.specs.Origins.{Origin, Named, Make, NoOrigins, make_one}
use Rattle.ot_trace.specs.Origins.{make_two, constant_origin, type_op_origin}
use Rattle.ot_machine.specs.States.{Entry, State, Context}
use Rattle.ot_machine.specs.Places.{theorem_on, names_on, name_on}
use Rattle.ot_machine.specs.Rows.{defined, with_defined, type_op_entry, constant_entry, type_defining}
use Rattle.ot_machine.specs.Makers.{Read}
use Rattle.ot_machine.specs.Values.{value, combined}

-- ---- origins of types and closed terms
abbrev mutual
  pub canon_ty : Ty Name → Origin Name
  canon_ty (TyVar n) = make_one words.VarType (Named n)
  canon_ty (TyOp n ts) = make_two words.OpType (type_op_origin (Named n)) (canon_tys ts)

  -- the cons tree
  pub canon_tys : Tys Name → Origin Name
  canon_tys NoTys = Make words.Nil NoOrigins
  canon_tys (MoreTys t ts) = make_two words.Cons (canon_ty t) (canon_tys ts)

abbrev pub var_origin : Name → Ty Name → Origin Name
var_origin n t = make_two words.Var (Named n) (canon_ty t)

abbrev pub var_term : Origin Name → Origin Name
var_term = make_one words.VarTerm

abbrev pub const_term : Name → Ty Name → Origin Name
const_term n t = make_two words.ConstTerm (constant_origin (Named n)) (canon_ty t)

abbrev pub app : Origin Name → Origin Name → Origin Name
app = make_two words.AppTerm

abbrev pub lam : Origin Name → Origin Name → Origin Name
lam = make_two words.AbsTerm

-- how many abstractions of a term stand around one another
abbrev pub binders : Tm Name → ℕ
binders (Free v) = 0
binders (Con n t) = 0
binders (Bound i) = 0
binders (App f x) = max (binders f) (binders x)
binders (Abs t b) = suc (binders b)

-- a variable by its number of abstractions around
abbrev pub numbered_variable : ℕ → Ty Name → Origin Name
numbered_variable k t = var_origin (decimal k ∷ []) t

abbrev pub or_nil : Option (Origin Name) → Origin Name
or_nil (Some v) = v
or_nil None = Make words.Nil NoOrigins

-- a term under k abstractions, whose variables are vs, the innermost first
abbrev pub canon_under : ℕ → List (Origin Name) → Tm Name → Origin Name
canon_under k vs (Free v) = var_term (var_origin v.name v.ty)
canon_under k vs (Con n t) = const_term n t
canon_under k vs (Bound i) = var_term (or_nil (slice_get vs i))
canon_under k vs (App f x) = app (canon_under k vs f) (canon_under k vs x)
canon_under k vs (Abs t b) = lam (numbered_variable k t) (canon_under (suc k) (numbered_variable k t ∷ vs) b)

abbrev pub canon : Tm Name → Origin Name
canon = canon_under 0 []

-- ---- the two theorems of `defineTypeOp`, derived from those of the definition
-- new: the new type; old: the type of t in the premise p t
module _ (abs rep : Name) (new old : Ty Name) (p : Tm Name) where
  abbrev pub va : Origin Name
  va = var_origin (codes "a" ∷ []) new

  abbrev pub vr : Origin Name
  vr = var_origin (codes "r" ∷ []) old

  abbrev pub ta : Origin Name
  ta = var_term va

  abbrev pub tr : Origin Name
  tr = var_term vr

  abbrev pub cabs : Origin Name
  cabs = const_term abs (fun_ty names old new)

  abbrev pub crep : Origin Name
  crep = const_term rep (fun_ty names new old)

  abbrev pub ceq : Origin Name
  ceq = const_term names.equals (fun_ty names old (fun_ty names old (bool_ty names)))

  -- (\a. abs (rep a)) a, (\a. a) a, (\r. rep (abs r) = r) r and (\r. p r) r, by beta
  abbrev pub b1 : Origin Name
  b1 = make_one words.BetaConv (app (lam va (app cabs (app crep ta))) ta)

  abbrev pub b2 : Origin Name
  b2 = make_one words.BetaConv (app (lam va ta) ta)

  abbrev pub b3 : Origin Name
  b3 = make_one words.BetaConv (app (lam vr (app (app ceq (app crep (app cabs tr))) tr)) tr)

  abbrev pub b4 : Origin Name
  b4 = make_one words.BetaConv (app (lam vr (app (canon p) tr)) tr)

  -- |- abs (rep a) = a, from the definition's first theorem
  abbrev pub abs_origin : Origin Name → Origin Name
  abs_origin o =
      make_two words.Trans
      (make_two words.Trans (make_one words.Sym b1) (make_two words.AppThm o (make_one words.Refl ta))) b2

  abbrev pub abs_value : Read → Read
  abs_value v =
      let applied = combined words.AppThm (v ∷ value (make_one words.Refl ta) ∷ []) in
      combined words.Trans (combined words.Trans (value (make_one words.Sym b1) ∷ applied ∷ []) ∷ value b2 ∷ [])

  -- |- p r = (rep (abs r) = r), from its second
  abbrev pub rep_origin : Origin Name → Origin Name
  rep_origin o =
      make_two words.Trans
      (make_two words.Trans (make_one words.Sym b4)
      (make_one words.Sym (make_two words.AppThm o (make_one words.Refl tr)))) b3

  abbrev pub rep_value : Read → Read
  rep_value v =
      let applied = combined words.AppThm (v ∷ value (make_one words.Refl tr) ∷ []) in
      combined words.Trans
      (combined words.Trans (value (make_one words.Sym b4) ∷ combined words.Sym (applied ∷ []) ∷ []) ∷ value b3
      ∷ [])

-- the two theorems for a premise p t, of those of the definition
abbrev pub open_theorems : (abs rep : Name) → Ty Name → Tm Name → List Entry → Result (List Entry) (Fault Name)
open_theorems abs rep new (App p t) (x ∷ y ∷ []) =
    let old = type_of names t in
    abs_value abs rep new old p (Ok x.object) >>= λ first. rep_value abs rep new old p (Ok y.object) >>= λ second.
    Ok (record { object = first; origin = abs_origin abs rep new old p x.origin }
    ∷ record { object = second; origin = rep_origin abs rep new old p y.origin } ∷ [])
open_theorems abs rep new _ _ = Err NotApplication

-- the row in version 5: the definition is that of version 6
abbrev pub define_type_op_5_row : Context → State → Result State (Fault Name)
define_type_op_5_row c s = do
  th ← theorem_on 0 s.article.stack
  vars ← names_on 1 s.article.stack
  rep ← name_on 2 s.article.stack
  abs ← name_on 3 s.article.stack
  n ← name_on 4 s.article.stack
  let op = renamed names c.interpretation.type_ops n in
      let a = renamed names c.interpretation.constants abs in
      let r = renamed names c.interpretation.constants rep in
      defined (λ ds. type_definition names ds op a r vars th) (type_defining op a r s.article.stack) s.run >>= λ made.
      open_theorems a r (TyOp op (tys_of_vars names vars)) th.concl made.0
      >>= λ ths. Ok (with_defined 5 (type_op_entry op ∷ constant_entry a ∷ constant_entry r ∷ []) (ths, made.1) s)
