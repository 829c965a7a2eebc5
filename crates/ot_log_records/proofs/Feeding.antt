-- A record whose operands are those that its form asks for is read back from its tokens.
use Rattle.std.specs.Prelude.{slice_get, not}
use Rattle.std.specs.List.{list_any, position_or_len}
use Rattle.std.specs.Option.{option_and_then}
use Rattle.std.proofs.Common.{◌≡◌, ℕ, suc, ◌+◌, Bool, true, false, ◌||◌, cond, List, [], ◌∷◌}
use Rattle.std.proofs.Common.{map, Option, Some, None, Result, Ok, refl, sym, ap, ◌∙◌, arith}
use Rattle.ot_logic.specs.Names.{Name}
use Rattle.ot_logic.specs.Naming.{names}
use Rattle.ot_logic.specs.Trees.{Ty, Tm, Sequent}
use Rattle.ot_logic.specs.Hol.{same_ty, same_tm}
use Rattle.ot_logic.specs.Answers.{◌>>=◌, some_or}
use Rattle.ot_laws.proofs.Tests.{tells_names, same_ty-is, same_tm-is}
use Rattle.ot_log_format.specs.declared.word.RecordWord.{RecordWord}
use Rattle.ot_log_format.specs.declared.word.RecordWord.TheVariants as words
use Rattle.ot_log_format.specs.Tokens.{LogFault, BadReference, UnknownRecord, Token, Word, Tokens, spelling, record_of}
use Rattle.ot_log_format.specs.State.{LogState, Change}
use Rattle.ot_log_format.specs.Records.{RecordForm, Makes, AskName, AskCount, AskType, AskTerm, AskSequent, form}
use Rattle.ot_log_format.specs.Check.{Outcome, Between, at_line, settled, go_on, check}
use Rattle.ot_log_records.specs.Entries.{Operand, Count, AName, AType, ATerm, ASequent}
use Rattle.ot_log_records.specs.Logged.{token_among}
use Rattle.ot_log_records.proofs.Reading.{lined, line_after, Reads}

-- ---- what a form makes of operands

abbrev pub feed : LogState Name → List Operand → RecordForm names → Option (Change names)
feed st [] (Makes c) = Some c
feed st (AName n ∷ os) (AskName next) = feed st os (next n)
feed st (Count k ∷ os) (AskCount next) = feed st os (next k)
feed st (AType t ∷ os) (AskType next) = feed st os (next t)
feed st (ATerm t ∷ os) (AskTerm next) = feed st os (next t)
feed st (ASequent i ∷ os) (AskSequent next) = option_and_then (λ q. feed st os (next q)) (slice_get st.sequents i)
feed st _ _ = None

-- the types and terms among the operands are among these
abbrev pub AreIn : List (Ty Name) → List (Tm Name) → List Operand → Type 0
AreIn types terms [] = Unit {0}
AreIn types terms (Count k ∷ os) = AreIn types terms os
AreIn types terms (AName n ∷ os) = AreIn types terms os
AreIn types terms (AType t ∷ os) = (list_any (same_ty names t) types ≡ true) × AreIn types terms os
AreIn types terms (ATerm t ∷ os) = (list_any (same_tm names t) terms ≡ true) × AreIn types terms os
AreIn types terms (ASequent i ∷ os) = AreIn types terms os

abbrev pub AreThere : LogState Name → List Operand → Type 0
AreThere st = AreIn st.types st.terms

-- ---- what is there is found at its place

one-more : (k : ℕ) → 1 + k ≡ suc k
one-more k = omega arith

type-found : (t : Ty Name) (ts : List (Ty Name)) → list_any (same_ty names t) ts ≡ true
    → slice_get ts (position_or_len (same_ty names t) ts) ≡ Some t
type-found t [] h = cc
type-found t (u ∷ ts) h = by (same_ty names t u) refl h (type-found t ts)
  where
    by : (b : Bool) → same_ty names t u ≡ b → (b || list_any (same_ty names t) ts) ≡ true
        → (list_any (same_ty names t) ts ≡ true → slice_get ts (position_or_len (same_ty names t) ts) ≡ Some t)
        → slice_get (u ∷ ts) (cond (not b) (1 + position_or_len (same_ty names t) ts) 0) ≡ Some t
    by true e k rest = ap Some (sym ((same_ty-is names tells_names t u).0 e))
    by false e k rest = ap (slice_get (u ∷ ts)) (one-more (position_or_len (same_ty names t) ts)) ∙ rest k

term-found : (t : Tm Name) (ts : List (Tm Name)) → list_any (same_tm names t) ts ≡ true
    → slice_get ts (position_or_len (same_tm names t) ts) ≡ Some t
term-found t [] h = cc
term-found t (u ∷ ts) h = by (same_tm names t u) refl h (term-found t ts)
  where
    by : (b : Bool) → same_tm names t u ≡ b → (b || list_any (same_tm names t) ts) ≡ true
        → (list_any (same_tm names t) ts ≡ true → slice_get ts (position_or_len (same_tm names t) ts) ≡ Some t)
        → slice_get (u ∷ ts) (cond (not b) (1 + position_or_len (same_tm names t) ts) 0) ≡ Some t
    by true e k rest = ap Some (sym ((same_tm-is names tells_names t u).0 e))
    by false e k rest = ap (slice_get (u ∷ ts)) (one-more (position_or_len (same_tm names t) ts)) ∙ rest k

-- ---- the tokens of a record that began at a line

abbrev pub tokens_for : LogState Name → List Operand → List (Token Name)
tokens_for st = map (token_among st.types st.terms)

-- what is left to read, and its result
abbrev Rest : LogState Name → List Operand → ℕ → ℕ → Tokens Name → Result (RecordForm names) (ℕ × LogFault)
    → Outcome Name
Rest st os first line rest r =
    go_on names (r >>= λ g. settled names first st g)
    (λ p. check names line p (lined names line (tokens_for st os) rest))

abbrev or : {X : Type 0} → X → Option X → X
or x None = x
or x (Some y) = y

pub feed-reads : (st : LogState Name) (os : List Operand) (f : RecordForm names)
    (c : Change names) (first line : ℕ) (rest : Tokens Name)
    → AreThere st os → feed st os f ≡ Some c
    → go_on names (settled names first st f) (λ p. check names line p (lined names line (tokens_for st os) rest))
    ≡ go_on names (settled names first st (Makes c))
    (λ p. check names (line_after names line (tokens_for st os)) p rest)
feed-reads st [] (Makes d) c first line rest h e =
    ap (λ z. go_on names (settled names first st (Makes z)) (λ p. check names line p rest)) (ap (or d) e)
feed-reads st (AName n ∷ os) (AskName next) c first line rest h e =
    feed-reads st os (next n) c first (suc line) rest h e
feed-reads st (Count k ∷ os) (AskCount next) c first line rest h e =
    feed-reads st os (next k) c first (suc line) rest h e
feed-reads st (AType t ∷ os) (AskType next) c first line rest h e =
    ap (λ o. Rest st os first (suc line) rest
    (at_line names (suc line) (some_or BadReference o >>= λ ty. Ok (next ty))))
    (type-found t st.types h.0)
    ∙ feed-reads st os (next t) c first (suc line) rest h.1 e
feed-reads st (ATerm t ∷ os) (AskTerm next) c first line rest h e =
    ap (λ o. Rest st os first (suc line) rest
    (at_line names (suc line) (some_or BadReference o >>= λ u. Ok (next u))))
    (term-found t st.terms h.0)
    ∙ feed-reads st os (next t) c first (suc line) rest h.1 e
feed-reads st (ASequent i ∷ os) (AskSequent next) c first line rest h e =
    by (slice_get st.sequents i) refl e (λ q k. feed-reads st os (next q) c first (suc line) rest h k)
  where
    whole : Outcome Name
    whole =
        go_on names (settled names first st (Makes c))
        (λ p. check names (line_after names (suc line) (tokens_for st os)) p rest)

    by : (o : Option (Sequent Name)) → slice_get st.sequents i ≡ o → option_and_then (λ q. feed st os (next q)) o
        ≡ Some c
        → ((q : Sequent Name) → feed st os (next q) ≡ Some c → Rest st os first (suc line) rest (Ok (next q)) ≡ whole)
        → Rest st os first (suc line) rest (at_line names (suc line)
        (some_or BadReference (slice_get st.sequents i) >>= λ q. Ok (next q))) ≡ whole
    by None d k more = cc
    by (Some q) d k more =
        ap (λ o. Rest st os first (suc line) rest
        (at_line names (suc line) (some_or BadReference o >>= λ z. Ok (next z)))) d
        ∙ more q k
feed-reads st _ _ c first line rest h e = cc

-- a whole record: its word, and what it names
pub record-reads : (st now : LogState Name) (w : RecordWord) (os : List Operand) (c : Change names) → AreThere st os
    → feed st os (form names w) ≡ Some c → c st ≡ Ok now
    → record_of (spelling w) ≡ Some w → Reads names st (Word (spelling w) ∷ tokens_for st os) now
record-reads st now w os c h e k s = λ line rest.
    ap (λ o. go_on names
    (at_line names (suc line) (some_or UnknownRecord o) >>= λ v. settled names (suc line) st (form names v))
    (λ p. check names (suc line) p (lined names (suc line) (tokens_for st os) rest)))
    s
    ∙ feed-reads st os (form names w) c (suc line) (suc line) rest h e
    ∙ ap (λ r. go_on names (at_line names (suc line) r >>= λ z. Ok (Between z))
    (λ p. check names (line_after names (suc line) (tokens_for st os)) p rest))
    k

-- each record begins with its word
pub spelled-word : (w : RecordWord) → record_of (spelling w) ≡ Some w
spelled-word words.TyVar = refl
spelled-word words.TyOp = refl
spelled-word words.Free = refl
spelled-word words.Con = refl
spelled-word words.Bound = refl
spelled-word words.App = refl
spelled-word words.Lam = refl
spelled-word words.Refl = refl
spelled-word words.Assume = refl
spelled-word words.EqMp = refl
spelled-word words.AbsThm = refl
spelled-word words.AppThm = refl
spelled-word words.DeductAntisym = refl
spelled-word words.BetaConv = refl
spelled-word words.Subst = refl
spelled-word words.Assumption = refl
spelled-word words.Constant = refl
spelled-word words.Constants = refl
spelled-word words.TypeOperator = refl
spelled-word words.Result = refl
