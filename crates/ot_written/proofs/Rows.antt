-- Articles line by line, and needed definitions.
use Rattle.std.proofs.Common.{◌≡◌, ℕ, Bool, true, [], ◌∷◌, refl}
use Rattle.std.specs.Prelude.{pos, nat_eq}
use Rattle.ot_logic.specs.declared.command.Cmd.{Cmd}
use Rattle.ot_logic.specs.declared.command.Cmd.TheVariants.{Version, Nil, Cons, Def, Ref, Pop, TypeOp, OpType}
use Rattle.ot_logic.specs.declared.command.Cmd.TheVariants.{Var, VarTerm, Const, ConstTerm, AppTerm, AbsTerm}
use Rattle.ot_logic.specs.declared.command.Cmd.TheVariants.{Refl, Assume, Thm, DefineConst, DefineConstList}
use Rattle.ot_trace.specs.Origins.{Origin, Named, Make, Define, Outcome, NoOrigins, MoreOrigins, Roots}
use Rattle.ot_written.specs.Same.{same_origin}
use Rattle.ot_written.specs.Written.{Line, Numeral, Spelled, Order, roots_of}
use Rattle.ot_written.specs.Uses.{article, article_by}
use Rattle.ot_written.specs.Needed.{needed_definitions}

abbrev same : Origin ℕ → Origin ℕ → Bool
same = same_origin nat_eq

abbrev none : Cmd → Origin ℕ
none c = Make c NoOrigins

abbrev one : Cmd → Origin ℕ → Origin ℕ
one c o = Make c (MoreOrigins o NoOrigins)

abbrev two : Cmd → Origin ℕ → Origin ℕ → Origin ℕ
two c o p = Make c (MoreOrigins o (MoreOrigins p NoOrigins))

abbrev N : ℕ → Line ℕ
N k = Numeral (pos k)

-- names: 0 "p", 1 "bool", 2 "x", 3 "=", 4 "->", 5 "Data.Bool.T"
abbrev boolean : Origin ℕ
boolean = two OpType (one TypeOp (Named 1)) (none Nil)

-- ---- {p} |- p

abbrev p_term : Origin ℕ
p_term = one VarTerm (two Var (Named 0) boolean)

abbrev assumed : Roots ℕ
assumed = record { theorem = one Assume p_term; list = two Cons p_term (none Nil); term = p_term }

-- each origin stored: 36 lines
stored-all : (article_by same (λ o. true) [] (assumed ∷ [])).lines ≡ N 6 ∷ Order Version ∷ Spelled 0 ∷ N 0 ∷ Order Def
    ∷ Spelled 1 ∷ N 1 ∷ Order Def ∷ Order TypeOp ∷ N 2 ∷ Order Def ∷ Order Nil ∷ N 3 ∷ Order Def ∷ Order OpType ∷ N 4
    ∷ Order Def
    ∷ Order Var ∷ N 5 ∷ Order Def ∷ Order VarTerm ∷ N 6 ∷ Order Def ∷ Order Assume ∷ N 7 ∷ Order Def ∷ N 6 ∷ Order Ref
    ∷ N 3 ∷ Order Ref ∷ Order Cons ∷ N 8 ∷ Order Def ∷ N 6 ∷ Order Ref ∷ Order Thm ∷ []
stored-all = refl

-- what is shared stored: 22 lines
stored-shared : (article same [] (assumed ∷ [])).lines ≡ N 6 ∷ Order Version ∷ Spelled 0 ∷ Spelled 1 ∷ Order TypeOp
    ∷ Order Nil ∷ N 0 ∷ Order Def ∷ Order OpType ∷ Order Var ∷ Order VarTerm ∷ N 1 ∷ Order Def ∷ Order Assume
    ∷ N 1 ∷ Order Ref ∷ N 0 ∷ Order Ref ∷ Order Cons ∷ N 1 ∷ Order Ref ∷ Order Thm ∷ []
stored-shared = refl

-- ---- a definition: T is (\x. x) = (\x. x)

abbrev fun_op : Origin ℕ
fun_op = one TypeOp (Named 4)

abbrev single : Origin ℕ
single = two Cons boolean (none Nil)

abbrev bool_fun : Origin ℕ
bool_fun = two OpType fun_op (two Cons boolean single)

abbrev equality : Origin ℕ
equality = two ConstTerm (one Const (Named 3))
    (two OpType fun_op (two Cons bool_fun (two Cons (two OpType fun_op (two Cons bool_fun single)) (none Nil))))

abbrev x_var : Origin ℕ
x_var = two Var (Named 2) boolean

abbrev self_fun : Origin ℕ
self_fun = two AbsTerm x_var (one VarTerm x_var)

abbrev truth : Origin ℕ
truth = two AppTerm (two AppTerm equality self_fun) self_fun

abbrev truth_defined : Origin ℕ
truth_defined = Define DefineConst (MoreOrigins (Named 5) (MoreOrigins truth NoOrigins))

abbrev truth_export : Roots ℕ
truth_export = record {
  theorem = Outcome 1 truth_defined;
  list = none Nil;
  term = two AppTerm
      (two AppTerm (two ConstTerm (one Const (Named 3))
      (two OpType fun_op (two Cons boolean (two Cons bool_fun (none Nil)))))
      (two ConstTerm (one Const (Named 5)) boolean)) truth;
}

-- 100 lines
truth-article : (article same (truth_defined ∷ []) (truth_export ∷ [])).lines ≡ N 6 ∷ Order Version ∷ Spelled 5 ∷ N 0
    ∷ Order Def ∷ Spelled 3 ∷ Order Const ∷ N 1 ∷ Order Def ∷ Spelled 4 ∷ Order TypeOp ∷ N 2 ∷ Order Def ∷ N 2
    ∷ Order Ref ∷ Spelled 1 ∷ Order TypeOp ∷ Order Nil ∷ N 3 ∷ Order Def ∷ Order OpType ∷ N 4 ∷ Order Def ∷ N 4
    ∷ Order Ref ∷ N 3 ∷ Order Ref ∷ Order Cons ∷ N 5 ∷ Order Def ∷ Order Cons ∷ Order OpType ∷ N 6 ∷ Order Def ∷ N 2
    ∷ Order Ref ∷ N 6 ∷ Order Ref ∷ N 5 ∷ Order Ref ∷ Order Cons ∷ Order OpType ∷ N 3 ∷ Order Ref ∷ Order Cons
    ∷ Order Cons ∷ Order OpType ∷ Order ConstTerm ∷ Spelled 2 ∷ N 4 ∷ Order Ref ∷ Order Var ∷ N 7 ∷ Order Def ∷ N 7
    ∷ Order Ref ∷ Order VarTerm ∷ Order AbsTerm ∷ N 8 ∷ Order Def ∷ Order AppTerm ∷ N 8 ∷ Order Ref ∷ Order AppTerm
    ∷ N 9 ∷ Order Def ∷ Order DefineConst ∷ N 10 ∷ Order Def ∷ Order Pop ∷ Order Pop ∷ N 10 ∷ Order Ref ∷ N 3
    ∷ Order Ref ∷ N 1 ∷ Order Ref ∷ N 2 ∷ Order Ref ∷ N 4 ∷ Order Ref ∷ N 6 ∷ Order Ref ∷ N 3 ∷ Order Ref ∷ Order Cons
    ∷ Order Cons ∷ Order OpType ∷ Order ConstTerm ∷ N 0 ∷ Order Ref ∷ Order Const ∷ N 4 ∷ Order Ref ∷ Order ConstTerm
    ∷ Order AppTerm ∷ N 9 ∷ Order Ref ∷ Order AppTerm ∷ Order Thm ∷ []
truth-article = refl

-- ---- |- (\x. x) = (\x. x)

abbrev self_export : Roots ℕ
self_export = record { theorem = one Refl self_fun; list = none Nil; term = truth }

self-article : (article same [] (self_export ∷ [])).lines ≡ N 6 ∷ Order Version ∷ Spelled 2 ∷ Spelled 1 ∷ Order TypeOp
    ∷ Order Nil ∷ N 0 ∷ Order Def ∷ Order OpType ∷ N 1 ∷ Order Def ∷ Order Var ∷ N 2 ∷ Order Def ∷ N 2 ∷ Order Ref
    ∷ Order VarTerm ∷ Order AbsTerm ∷ N 3 ∷ Order Def ∷ Order Refl ∷ N 0 ∷ Order Ref ∷ Spelled 3 ∷ Order Const
    ∷ Spelled 4 ∷ Order TypeOp ∷ N 4 ∷ Order Def ∷ N 4 ∷ Order Ref ∷ N 1 ∷ Order Ref ∷ N 1 ∷ Order Ref ∷ N 0
    ∷ Order Ref ∷ Order Cons ∷ N 5 ∷ Order Def ∷ Order Cons ∷ Order OpType ∷ N 6 ∷ Order Def ∷ N 4 ∷ Order Ref ∷ N 6
    ∷ Order Ref ∷ N 5 ∷ Order Ref ∷ Order Cons ∷ Order OpType ∷ N 0 ∷ Order Ref ∷ Order Cons ∷ Order Cons ∷ Order
    OpType ∷ Order ConstTerm ∷ N 3 ∷ Order Ref ∷ Order AppTerm ∷ N 3 ∷ Order Ref ∷ Order AppTerm ∷ Order Thm ∷ []
self-article = refl

-- ---- needed definitions

-- a definition that nothing leads to
abbrev idle : Origin ℕ
idle = Define DefineConst (MoreOrigins (Named 0) (MoreOrigins truth NoOrigins))

idle-left : needed_definitions same (roots_of (truth_export ∷ [])) (idle ∷ truth_defined ∷ []) ≡ truth_defined ∷ []
idle-left = refl

-- a definition that uses the constant of a later one
abbrev early : Origin ℕ
early = Define DefineConst
    (MoreOrigins (Named 0) (MoreOrigins (two ConstTerm (one Const (Named 5)) boolean) NoOrigins))

later-needed : needed_definitions same (Outcome 1 early ∷ []) (early ∷ idle ∷ truth_defined ∷ []) ≡ early
    ∷ truth_defined ∷ []
later-needed = refl

-- two definitions of one origin: the first alone
abbrev nothing_defined : Origin ℕ
nothing_defined = Define DefineConstList (MoreOrigins (none Nil) (MoreOrigins (one Refl truth) NoOrigins))

first-alone : needed_definitions same (Outcome 1 nothing_defined ∷ [])
    (nothing_defined ∷ truth_defined ∷ nothing_defined ∷ []) ≡ nothing_defined ∷ []
first-alone = refl
