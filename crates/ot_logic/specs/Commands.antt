-- The 34 command words of the article format.
use Rattle.std.specs.Prelude.{ℕ, List, [], ◌∷◌, codes, Option, find}
use Rattle.std.specs.Str.{bytes_eq}
use Rattle.ot_logic.specs.declared.command.Cmd.{Cmd}
use Rattle.ot_logic.specs.declared.command.Cmd.TheVariants.{Version, Nil, Cons, HdTl, Def, Ref, Remove, Pop, Pragma}
use Rattle.ot_logic.specs.declared.command.Cmd.TheVariants.{TypeOp, OpType, VarType, Var, VarTerm, Const, ConstTerm}
use Rattle.ot_logic.specs.declared.command.Cmd.TheVariants.{AppTerm, AbsTerm, Refl, Assume, EqMp, AbsThm, AppThm}
use Rattle.ot_logic.specs.declared.command.Cmd.TheVariants.{DeductAntisym, BetaConv, Subst, Sym, Trans, ProveHyp}
use Rattle.ot_logic.specs.declared.command.Cmd.TheVariants.{Axiom, Thm, DefineConst, DefineConstList, DefineTypeOp}

-- how a command is written
abbrev pub spelling : Cmd → List ℕ
spelling Version = codes "version"
spelling Nil = codes "nil"
spelling Cons = codes "cons"
spelling HdTl = codes "hdTl"
spelling Def = codes "def"
spelling Ref = codes "ref"
spelling Remove = codes "remove"
spelling Pop = codes "pop"
spelling Pragma = codes "pragma"
spelling TypeOp = codes "typeOp"
spelling OpType = codes "opType"
spelling VarType = codes "varType"
spelling Var = codes "var"
spelling VarTerm = codes "varTerm"
spelling Const = codes "const"
spelling ConstTerm = codes "constTerm"
spelling AppTerm = codes "appTerm"
spelling AbsTerm = codes "absTerm"
spelling Refl = codes "refl"
spelling Assume = codes "assume"
spelling EqMp = codes "eqMp"
spelling AbsThm = codes "absThm"
spelling AppThm = codes "appThm"
spelling DeductAntisym = codes "deductAntisym"
spelling BetaConv = codes "betaConv"
spelling Subst = codes "subst"
spelling Sym = codes "sym"
spelling Trans = codes "trans"
spelling ProveHyp = codes "proveHyp"
spelling Axiom = codes "axiom"
spelling Thm = codes "thm"
spelling DefineConst = codes "defineConst"
spelling DefineConstList = codes "defineConstList"
spelling DefineTypeOp = codes "defineTypeOp"

-- all of them, in the order in which they are looked for; no two are written alike
abbrev pub commands : List Cmd
commands =
    Ref ∷ Cons ∷ Def ∷ AppTerm ∷ EqMp ∷ Subst ∷ AppThm ∷ ProveHyp ∷ Trans ∷ Refl ∷ AbsTerm ∷ Assume ∷ AbsThm
    ∷ BetaConv ∷ DeductAntisym ∷ Sym ∷ Var ∷ VarTerm ∷ OpType ∷ ConstTerm ∷ Thm ∷ Pop ∷ VarType ∷ Const
    ∷ DefineConst ∷ TypeOp ∷ DefineTypeOp ∷ Axiom ∷ Version ∷ Nil ∷ HdTl ∷ Remove ∷ Pragma ∷ DefineConstList ∷ []

-- the command that is written so
abbrev pub command_of : List ℕ → Option Cmd
command_of text = find (λ c. bytes_eq (spelling c) text) commands
