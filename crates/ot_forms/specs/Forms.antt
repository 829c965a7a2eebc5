-- The forms of readable text: types, terms as they are written, and lines.
use Rattle.std.specs.Prelude.{◌≤◌, ℕ, suc, cond, IsTrue, List, [], ◌++◌, map, max, codes}
use Rattle.std.specs.List.{AllByRecursion}
use Rattle.ot_logic.specs.Names.{Name, IsName}
use Rattle.ot_logic.specs.Naming.{names}
use Rattle.ot_logic.specs.Trees.{Ty, Tys, TyVar, TyOp, NoTys, MoreTys, Tm, Free}
use Rattle.ot_logic.specs.Trees.{Con, Bound, App, Abs, Symbol, ConSymbol, OpSymbol}
use Rattle.ot_text.specs.Texts as printed
use Rattle.ot_text.specs.Texts.{is_function}
use Rattle.ot_forms.specs.Words.{is_part, is_operator, variable_word, word}

-- ---- types: 'V, W, (T -> T) and (W T1 .. Tk)

abbrev mutual
  -- the text of a type
  pub type_text : List (Symbol Name) → Ty Name → List ℕ
  type_text hidden (TyVar n) = codes "'" ++ variable_word n
  type_text hidden (TyOp n NoTys) = word hidden (OpSymbol n)
  type_text hidden (TyOp n (MoreTys a ts)) = cond (is_function names (TyOp n (MoreTys a ts)))
      (codes "(" ++ type_text hidden a ++ codes " ->" ++ types_text hidden ts ++ codes ")")
      (codes "(" ++ word hidden (OpSymbol n) ++ types_text hidden (MoreTys a ts) ++ codes ")")

  -- a space before each
  pub types_text : List (Symbol Name) → Tys Name → List ℕ
  types_text hidden NoTys = []
  types_text hidden (MoreTys t ts) = codes " " ++ type_text hidden t ++ types_text hidden ts

abbrev mutual
  -- each name in it has a component
  pub HasNames : Ty Name → Type 0
  HasNames (TyVar n) = IsName n
  HasNames (TyOp n ts) = IsName n × HaveNames ts

  pub HaveNames : Tys Name → Type 0
  HaveNames NoTys = Unit {0}
  HaveNames (MoreTys t ts) = HasNames t × HaveNames ts

-- each name in a nameless term has a component
abbrev pub HaveTermNames : Tm Name → Type 0
HaveTermNames (Free v) = IsName v.name × HasNames v.ty
HaveTermNames (Con n t) = IsName n × HasNames t
HaveTermNames (Bound i) = Unit {0}
HaveTermNames (App f x) = HaveTermNames f × HaveTermNames x
HaveTermNames (Abs t b) = HasNames t × HaveTermNames b

abbrev mutual
  -- how many parentheses are open at once
  pub most_open_type : Ty Name → ℕ
  most_open_type (TyVar n) = 0
  most_open_type (TyOp n NoTys) = 0
  most_open_type (TyOp n (MoreTys a ts)) = suc (max (most_open_type a) (most_open_types ts))

  pub most_open_types : Tys Name → ℕ
  most_open_types NoTys = 0
  most_open_types (MoreTys t ts) = max (most_open_type t) (most_open_types ts)

-- ---- terms, as they are written

mutual
  pub data Written : Type 0 where
    -- X, a bound place
    Place : List ℕ → Written
    -- (V : T), a free variable
    FreeAs : Name → Ty Name → Written
    -- {W : T}, a constant
    ConAs : Name → Ty Name → Written
    -- (A = B)
    Equal : Written → Written → Written
    -- (A O B)
    Infix : List ℕ → Written → Written → Written
    -- (A B1 .. Bk): the head, the first argument, the further ones
    Applied : Written → Written → Writtens → Written
    -- (\X : T . A)
    Binding : List ℕ → Ty Name → Written → Written

  pub data Writtens : Type 0 where
    NoMore : Writtens
    More : Written → Writtens → Writtens

abbrev mutual
  -- the text of a written term
  pub term_text : List (Symbol Name) → Written → List ℕ
  term_text hidden (Place x) = x
  term_text hidden (FreeAs n t) = codes "(" ++ variable_word n ++ codes " : " ++ type_text hidden t ++ codes ")"
  term_text hidden (ConAs n t) =
      codes "{" ++ word hidden (ConSymbol n) ++ codes " : " ++ type_text hidden t ++ codes "}"
  term_text hidden (Equal a b) = codes "(" ++ term_text hidden a ++ codes " = " ++ term_text hidden b ++ codes ")"
  term_text hidden (Infix o a b) =
      codes "(" ++ term_text hidden a ++ codes " " ++ o ++ codes " " ++ term_text hidden b ++ codes ")"
  term_text hidden (Applied f a more) =
      codes "(" ++ term_text hidden f ++ codes " " ++ term_text hidden a ++ terms_text hidden more ++ codes ")"
  term_text hidden (Binding x t a) =
      codes "(\\" ++ x ++ codes " : " ++ type_text hidden t ++ codes " . " ++ term_text hidden a ++ codes ")"

  -- a space before each
  pub terms_text : List (Symbol Name) → Writtens → List ℕ
  terms_text hidden NoMore = []
  terms_text hidden (More a more) = codes " " ++ term_text hidden a ++ terms_text hidden more

abbrev mutual
  -- X is a part, O an operator word, and each name has a component
  pub IsWritten : Written → Type 0
  IsWritten (Place x) = IsTrue (is_part x)
  IsWritten (FreeAs n t) = IsName n × HasNames t
  IsWritten (ConAs n t) = IsName n × HasNames t
  IsWritten (Equal a b) = IsWritten a × IsWritten b
  IsWritten (Infix o a b) = IsTrue (is_operator o) × IsWritten a × IsWritten b
  IsWritten (Applied f a more) = IsWritten f × IsWritten a × AreWritten more
  IsWritten (Binding x t a) = IsTrue (is_part x) × HasNames t × IsWritten a

  pub AreWritten : Writtens → Type 0
  AreWritten NoMore = Unit {0}
  AreWritten (More a more) = IsWritten a × AreWritten more

abbrev mutual
  -- how many parentheses and braces are open at once
  pub most_open : Written → ℕ
  most_open (Place x) = 0
  most_open (FreeAs n t) = suc (most_open_type t)
  most_open (ConAs n t) = suc (most_open_type t)
  most_open (Equal a b) = suc (max (most_open a) (most_open b))
  most_open (Infix o a b) = suc (max (most_open a) (most_open b))
  most_open (Applied f a more) = suc (max (most_open f) (max (most_open a) (most_open_all more)))
  most_open (Binding x t a) = suc (max (most_open_type t) (most_open a))

  pub most_open_all : Writtens → ℕ
  most_open_all NoMore = 0
  most_open_all (More a more) = max (most_open a) (most_open_all more)

-- ---- lines

-- a sequent as it is written
pub record WrittenSequent : Type 0 where
  pub hyps : List Written
  pub concl : Written

-- the further hypotheses, a comma before each, and the turnstile
abbrev pub further_hyps : List (Symbol Name) → List Written → List ℕ
further_hyps hidden hs = printed.further_hyps (map (term_text hidden) hs)

-- the hypotheses and the turnstile
abbrev pub hyps_text : List (Symbol Name) → List Written → List ℕ
hyps_text hidden hs = printed.hyps_text (map (term_text hidden) hs)

-- the line of a written sequent
abbrev pub line_text : List (Symbol Name) → WrittenSequent → List ℕ
line_text hidden q = hyps_text hidden q.hyps ++ term_text hidden q.concl

-- a line of the forms with at most so many parentheses and braces open at once
pub record IsLine (limit : ℕ) (q : WrittenSequent) : Type 0 where
  pub hyps : AllByRecursion IsWritten q.hyps
  pub concl : IsWritten q.concl
  pub hyps_open : AllByRecursion (λ a. most_open a ≤ limit) q.hyps
  pub concl_open : most_open q.concl ≤ limit
