-- The logs of small runs.
use Rattle.std.specs.Prelude.{codes}
use Rattle.std.proofs.Common.{◌≡◌, ℕ, List, [], ◌∷◌, refl}
use Rattle.ot_logic.specs.Names.{Name}
use Rattle.ot_logic.specs.declared.command.Cmd.{Cmd}
use Rattle.ot_logic.specs.declared.command.Cmd.TheVariants.{Nil, Cons, TypeOp, OpType, Var, VarTerm, Const}
use Rattle.ot_logic.specs.declared.command.Cmd.TheVariants.{ConstTerm, Assume, Axiom, ProveHyp, DefineConst}
use Rattle.ot_trace.specs.Origins.{Origin, Named, Make, Define, Outcome, NoOrigins, MoreOrigins, Roots}
use Rattle.ot_log_format.specs.Tokens.{Token, Number, Word}
use Rattle.ot_log_format.specs.Tokens as token
use Rattle.ot_log_law.specs.Writing.{log, log_bytes}

abbrev name : List ℕ → Name
name text = text ∷ []

abbrev none : Cmd → Origin Name
none c = Make c NoOrigins

abbrev one : Cmd → Origin Name → Origin Name
one c o = Make c (MoreOrigins o NoOrigins)

abbrev two : Cmd → Origin Name → Origin Name → Origin Name
two c o p = Make c (MoreOrigins o (MoreOrigins p NoOrigins))

abbrev word : List ℕ → Token Name
word text = Word text

abbrev named : List ℕ → Token Name
named text = token.Named (name text)

abbrev boolean : Origin Name
boolean = two OpType (one TypeOp (Named (name (codes "bool")))) (none Nil)

abbrev p_term : Origin Name
p_term = one VarTerm (two Var (Named (name (codes "p"))) boolean)

-- ---- {p} |- p

abbrev assumed : Roots Name
assumed = record { theorem = one Assume p_term; list = two Cons p_term (none Nil); term = p_term }

first : (log [] (one Assume p_term ∷ [])).log.tokens
    ≡ word (codes "otlog") ∷ Number 1 ∷ word (codes "tyop") ∷ named (codes "bool") ∷ Number 0
    ∷ word (codes "free") ∷ named (codes "p") ∷ Number 0 ∷ word (codes "assume") ∷ Number 0 ∷ word (codes "result")
    ∷ Number 0
    ∷ []
first = refl

first-bytes : log_bytes [] (assumed ∷ [])
    ≡ codes "otlog\n1\ntyop\n\"bool\"\n0\nfree\n\"p\"\n0\nassume\n0\nresult\n0\n"
first-bytes = refl

-- ---- an assumption for a hypothesis: the lemma is the top theorem, and the lower one

abbrev axiom_p : Origin Name
axiom_p = two Axiom (none Nil) p_term

top-lemma : log_bytes [] (record assumed { theorem = two ProveHyp (one Assume p_term) axiom_p } ∷ [])
    ≡ codes
    "otlog\n1\ntyop\n\"bool\"\n0\nfree\n\"p\"\n0\nassume\n0\nassumption\n0\n0\ndeductAntisym\n1\n0\neqMp\n2\n1\nresult\n3\n"
top-lemma = refl

lower-lemma : log_bytes [] (record assumed { theorem = two ProveHyp axiom_p (one Assume p_term) } ∷ [])
    ≡ codes
    "otlog\n1\ntyop\n\"bool\"\n0\nfree\n\"p\"\n0\nassumption\n0\n0\nassume\n0\ndeductAntisym\n0\n1\neqMp\n2\n0\nresult\n3\n"
lower-lemma = refl

-- ---- a constant c for a constant k

abbrev k_term : Origin Name
k_term = two ConstTerm (one Const (Named (name (codes "k")))) boolean

abbrev c_is_k : Origin Name
c_is_k = Define DefineConst (MoreOrigins (Named (name (codes "c"))) (MoreOrigins k_term NoOrigins))

defined : log_bytes (c_is_k ∷ []) (record assumed { theorem = Outcome 1 c_is_k } ∷ [])
    ≡ codes "otlog\n1\ntyop\n\"bool\"\n0\ncon\n\"k\"\n0\nconstant\n\"c\"\n0\nresult\n0\n"
defined = refl
