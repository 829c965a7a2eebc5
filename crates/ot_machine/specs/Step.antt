-- One command of the stated machine.
use Rattle.std.specs.Prelude.{List, min, ◌^◌, ◌+◌, ◌-◌, ◌==◌, ℕ, ℤ, Bool, true, false, Result, Ok, Err, if◌then◌else◌}
use Rattle.ot_logic.specs.Names.{Name}
use Rattle.ot_logic.specs.Reading.{name_read}
use Rattle.ot_logic.specs.Faults.{Fault, BadName, VersionLate}
use Rattle.ot_logic.specs.Answers.{◌>>=◌, some_or}
use Rattle.ot_logic.specs.declared.command.Cmd.{Cmd}
use Rattle.ot_logic.specs.declared.command.Cmd.TheVariants as words
use Rattle.ot_scan.specs.Words.{WordValue, Numeral, Quoted, Order}
use Rattle.ot_machine.specs.Objects.{number, name}
use Rattle.ot_trace.specs.Origins.{Number, Named}
use Rattle.ot_machine.specs.States.{Entry, Version, open_version, version_5, version_6, ArticleState, State, Context}
use Rattle.ot_machine.specs.Places.{pushed}
use Rattle.ot_machine.specs.Rows.{Row, making, nil_row, hd_tl_row, pop_row, version_row}
use Rattle.ot_machine.specs.Rows.{type_op_row, const_row, define_const_row, define_const_list_row}
use Rattle.ot_machine.specs.Rows.{define_type_op_row, def_row, ref_row, remove_row, thm_row}
use Rattle.ot_machine.specs.Discharge.{axiom_row}
use Rattle.ot_machine.specs.Version5.{define_type_op_5_row}

-- a command: a number, a name, or a word of the 34
pub data Command : Type 0 where
  numeral : ℤ → Command
  named : Name → Command
  order : Cmd → Command

-- a quoted text that spells no name is no command
abbrev pub command_of : WordValue → Result Command (Fault Name)
command_of (Numeral k) = Ok (numeral k)
command_of (Quoted text) = some_or BadName (name_read text) >>= λ n. Ok (named n)
command_of (Order c) = Ok (order c)

abbrev pub is_version : Command → Bool
is_version (order words.Version) = true
is_version _ = false

-- a number leaves the version of the first command open
abbrev pub first_version : Command → Result Version (Fault Name)
first_version (numeral k) = Ok open_version
first_version w = if is_version w then Err VersionLate else Ok version_5

-- `version` is the second command of an article of version 6
abbrev pub second_version : Command → Version
second_version w = if is_version w then version_6 else version_5

-- `version` stands nowhere else
abbrev pub later_version : Version → Command → Result Version (Fault Name)
later_version v w = if is_version w then Err VersionLate else Ok v

-- the version behind a command, after so many
abbrev pub version_rule : Version → ℕ → Command → Result Version (Fault Name)
version_rule open_version count w = if count == 0 then first_version w else
    (if count == 1 then Ok (second_version w) else later_version open_version w)
version_rule v count w = later_version v w

-- the article alone changes
abbrev pub on_article : (ArticleState → Result ArticleState (Fault Name)) → State → Result State (Fault Name)
on_article change s = change s.article >>= λ article. Ok (record s { article = article })

-- the stack alone changes
abbrev pub on_stack : (List Entry → Row) → State → Result State (Fault Name)
on_stack change = on_article (λ a. change a.stack >>= λ stack. Ok (record a { stack = stack }))

-- in an article of version 6 the theorems of a type are equations of abstractions
abbrev pub define_type_row : Version → Context → State → Result State (Fault Name)
define_type_row version_6 = define_type_op_row
define_type_row v = define_type_op_5_row

-- the row of a word, in an article of a version
abbrev pub word_row : Version → Context → Cmd → State → Result State (Fault Name)
word_row v c words.Version = on_stack version_row
word_row v c words.Nil = on_stack nil_row
word_row v c words.Cons = on_stack (making words.Cons)
word_row v c words.HdTl = on_stack hd_tl_row
word_row v c words.Def = on_article def_row
word_row v c words.Ref = on_article ref_row
word_row v c words.Remove = on_article remove_row
word_row v c words.Pop = on_stack pop_row
word_row v c words.Pragma = on_stack pop_row
word_row v c words.TypeOp = on_stack (type_op_row c)
word_row v c words.OpType = on_stack (making words.OpType)
word_row v c words.VarType = on_stack (making words.VarType)
word_row v c words.Var = on_stack (making words.Var)
word_row v c words.VarTerm = on_stack (making words.VarTerm)
word_row v c words.Const = on_stack (const_row c)
word_row v c words.ConstTerm = on_stack (making words.ConstTerm)
word_row v c words.AppTerm = on_stack (making words.AppTerm)
word_row v c words.AbsTerm = on_stack (making words.AbsTerm)
word_row v c words.Refl = on_stack (making words.Refl)
word_row v c words.Assume = on_stack (making words.Assume)
word_row v c words.EqMp = on_stack (making words.EqMp)
word_row v c words.AbsThm = on_stack (making words.AbsThm)
word_row v c words.AppThm = on_stack (making words.AppThm)
word_row v c words.DeductAntisym = on_stack (making words.DeductAntisym)
word_row v c words.BetaConv = on_stack (making words.BetaConv)
word_row v c words.Subst = on_stack (making words.Subst)
word_row v c words.Sym = on_stack (making words.Sym)
word_row v c words.Trans = on_stack (making words.Trans)
word_row v c words.ProveHyp = on_stack (making words.ProveHyp)
word_row v c words.Axiom = axiom_row c
word_row v c words.Thm = on_article thm_row
word_row v c words.DefineConst = define_const_row c
word_row v c words.DefineConstList = define_const_list_row c
word_row v c words.DefineTypeOp = define_type_row v c

abbrev pub row : Version → Context → Command → State → Result State (Fault Name)
row v c (numeral k) = on_stack (λ stack. Ok (pushed (record { object = number k; origin = Number k }) stack))
row v c (named n) = on_stack (λ stack. Ok (pushed (record { object = name n; origin = Named n }) stack))
row v c (order w) = word_row v c w

-- one command more; the count saturates at the end of a u64
abbrev pub counted : ArticleState → ArticleState
counted s = record s { count = min (s.count + 1) (2 ^ 64 - 1) }

-- one word: the first fault counts
abbrev pub step : Context → State → WordValue → Result State (Fault Name)
step c s w = do
  command ← command_of w
  v ← version_rule s.article.version s.article.count command
  next ← row v c command s
  Ok (record next { article = record (counted next.article) { version = v } })
