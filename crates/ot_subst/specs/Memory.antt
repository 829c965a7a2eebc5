-- What a walk remembers: results by the numbers of terms, which hold while the substitution in force is the same.
use Rattle.std.specs.Prelude.{◌≡◌, ℕ, suc, ◌+◌, ◌<◌, ◌≤◌, ◌⊎◌, max, List, [], map, length}
use Rattle.ot_logic.specs.Lists.{IsMember, AreDistinct}
use Rattle.ot_logic.specs.Trees.{Named}
use Rattle.ot_logic.specs.NamedTerms.{nameless, parts, HasNoClash}
use Rattle.ot_logic.specs.Naming.{numbers}
use Rattle.ot_term.specs.Term.{TermTable}
use Rattle.ot_term.specs.TermTable.{term_at}
use Rattle.ot_term.specs.declared.term.VarKey.{VarKey}
use Rattle.ot_term.specs.declared.term.TermNode.{TermNode}
use Rattle.ot_term.specs.declared.term.TermNode.TheVariants.{Var, Const, App, Abs}
use Rattle.ot_subst.specs.Substitution.{Substitution, type_part, variable_part}
use Rattle.ot_subst.specs.Walk.{becomes, HasForm}

abbrev pub keys : List (ℕ × ℕ) → List ℕ
keys = map (λ e. e.0)

-- the second number is that of what the first becomes
pub record IsEntry (t : TermTable) (s : Substitution) (r : List (VarKey × VarKey)) (e : ℕ × ℕ) : Type 0 where
  pub within : e.0 < length t.terms
  pub form : HasForm t e.1 (becomes t s r (nameless numbers (term_at t.terms e.0)))

-- each term is remembered once
pub record IsMemory (t : TermTable) (s : Substitution) (r : List (VarKey × VarKey)) (es : List (ℕ × ℕ)) : Type 0 where
  pub right : (e : ℕ × ℕ) → IsMember e es → IsEntry t s r e
  pub distinct : AreDistinct (keys es)

-- the number n is below k, and that of a part of x
pub record IsPartBelow (t : TermTable) (x : Named ℕ) (k n : ℕ) : Type 0 where
  pub below : n < k
  pub part : IsMember (term_at t.terms n) (parts numbers x)

-- one more than the greatest number in a node
abbrev pub above : TermNode → ℕ
above (Var v) = 0
above (Const n ty) = 0
above (App f x) = suc (max f x)
above (Abs v b) = suc b

-- a walk of the tree x, whose parts have numbers below k, found that it becomes q: what was remembered before and
-- after, and the steps before and after
pub record IsWalked (t u : TermTable) (s : Substitution) (r : List (VarKey × VarKey)) (old new : List (ℕ × ℕ))
    (from to : ℕ) (x : Named ℕ) (k q : ℕ) : Type 0 where
  pub form : HasForm u q (becomes t s r (nameless numbers x))
  pub memory : IsMemory u s r new
  pub known : (e : ℕ × ℕ) → IsMember e new → IsMember e old ⊎ IsPartBelow t x k e.0
  -- no step without a result that is remembered, where no binder clashes
  pub counted : r ≡ [] → HasNoClash numbers (type_part t s) (variable_part t s) x
      → to + length old ≤ from + length new

-- the steps that a walk of the tree x took are no more than the terms that it remembers newly, or was at work on
pub record CountsParts (t : TermTable) (old : List (ℕ × ℕ)) (from to : ℕ) (x : Named ℕ) (k : ℕ) : Type 0 where
  pub terms : List ℕ
  pub distinct : AreDistinct terms
  pub known : (n : ℕ) → IsMember n terms → IsMember n (keys old) ⊎ IsPartBelow t x k n
  pub most : to + length old ≤ from + length terms

-- they are so where no binder clashes
abbrev pub IsCounted : TermTable → Substitution → List (VarKey × VarKey) → List (ℕ × ℕ) → ℕ → ℕ → Named ℕ → ℕ → Type 0
IsCounted t s r old from to x k = r ≡ [] → HasNoClash numbers (type_part t s) (variable_part t s) x
    → CountsParts t old from to x k
