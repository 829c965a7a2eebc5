-- When a binder may stay as it is under a substitution, and what it may become.
use Rattle.std.specs.Prelude.{◌≡◌, ◌≢◌, ℕ, ◌<◌, List, [], map, length}
use Rattle.std.specs.List.{All}
use Rattle.ot_logic.specs.Lists.{IsMember}
use Rattle.ot_logic.specs.Trees.{Variable, Tm, Free}
use Rattle.ot_logic.specs.Hol.{inst_var, IsFree}
use Rattle.ot_logic.specs.NamedTerms.{image, nameless, IsFreeIn, IsApart}
use Rattle.ot_logic.specs.Naming.{numbers}
use Rattle.ot_term.specs.Term.{TermTable}
use Rattle.ot_term.specs.TermTable.{term_at, variable_of}
use Rattle.ot_term.specs.declared.term.VarKey.{VarKey}
use Rattle.ot_subst.specs.Substitution.{Substitution, type_part, variable_part}
use Rattle.ot_subst.specs.Renamed.{renaming_of}

-- the variable is free in one of the terms that are put in
abbrev pub IsPutIn : TermTable → Substitution → VarKey → Type 0
IsPutIn t s w = (p : Variable ℕ × Tm ℕ) × IsMember p (variable_part t s) × IsFree numbers (variable_of t.types w) p.1

-- it is free in a term of these pairs
abbrev pub IsFreeInSome : TermTable → List (VarKey × ℕ) → VarKey → Type 0
IsFreeInSome t ps w = (p : VarKey × ℕ) × IsMember p ps × IsFree numbers (variable_of t.types w)
    (nameless numbers (term_at t.terms p.1))

-- w is free in what a variable becomes by the substitution alone
abbrev pub IsFreeInImage : TermTable → Substitution → VarKey → Variable ℕ → Type 0
IsFreeInImage t s w x = IsFree numbers (variable_of t.types w)
    (image numbers [] (type_part t s) (variable_part t s) x)

-- x is another variable than the binder v, and w is free in what it becomes
abbrev pub IsCaught : TermTable → Substitution → VarKey → VarKey → VarKey → Type 0
IsCaught t s v w x = (x ≢ v) × IsFreeInImage t s w (variable_of t.types x)

-- some free variable of the body is such
abbrev pub Catches : TermTable → Substitution → VarKey → VarKey → ℕ → Type 0
Catches t s v w body = (x : Variable ℕ) × IsFreeIn numbers x (term_at t.terms body) × (x ≢ variable_of t.types v)
    × IsFreeInImage t s w x

-- free variables of the body, among them all in whose images w is free
pub record AreCandidates (t : TermTable) (s : Substitution) (w : VarKey) (body : ℕ) (xs : List VarKey) : Type 0 where
  pub inside : All (λ x. x.ty < length t.types) xs
  pub to : (x : Variable ℕ) → IsMember x (map (variable_of t.types) xs)
      → IsFree numbers x (nameless numbers (term_at t.terms body))
  pub back : (x : Variable ℕ) → IsFree numbers x (nameless numbers (term_at t.terms body)) → IsFreeInImage t s w x
      → IsMember x (map (variable_of t.types) xs)

-- the binder v may become w: then it captures no other variable of the body, also under the binders that were renamed
abbrev pub StaysApart : TermTable → Substitution → List (VarKey × VarKey) → VarKey → VarKey → ℕ → Type 0
StaysApart t s r v w body = (x : Variable ℕ) → IsFreeIn numbers x (term_at t.terms body) → x ≢ variable_of t.types v
    → ¬ (IsFree numbers (variable_of t.types w)
    (image numbers (renaming_of t.types r) (type_part t s) (variable_part t s) x))

-- the binder v may stay, but for its type: it becomes itself, and captures no other variable of the body
pub record MayStay (t : TermTable) (s : Substitution) (r : List (VarKey × VarKey)) (v : VarKey) (body : ℕ) : Type
    0 where
  pub itself : image numbers (renaming_of t.types r) (type_part t s) (variable_part t s) (variable_of t.types v)
      ≡ Free (inst_var numbers (type_part t s) (variable_of t.types v))
  pub apart : (x : Variable ℕ) → IsFreeIn numbers x (term_at t.terms body) → x ≢ variable_of t.types v
      → ¬ (IsFree numbers (inst_var numbers (type_part t s) (variable_of t.types v))
      (image numbers (renaming_of t.types r) (type_part t s) (variable_part t s) x))

-- it does not clash with the substitution
abbrev pub IsUnclashing : TermTable → Substitution → VarKey → ℕ → Type 0
IsUnclashing t s v body = IsApart numbers (type_part t s) (variable_part t s) (variable_of t.types v)
    (term_at t.terms body)
