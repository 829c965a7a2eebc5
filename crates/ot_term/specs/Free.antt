-- The free variables of a term.
use Rattle.std.specs.Prelude.{◌≡◌, ◌↔◌, ℕ, ◌<◌, List, length, map}
use Rattle.std.specs.List.{All}
use Rattle.ot_logic.specs.Lists.{IsMember, AreDistinct}
use Rattle.ot_logic.specs.Trees.{Ty, Variable, Named}
use Rattle.ot_logic.specs.Hol.{IsFree}
use Rattle.ot_logic.specs.NamedTerms.{nameless}
use Rattle.ot_logic.specs.Naming.{numbers}
use Rattle.ot_type.specs.TypeTable.{type_at}
use Rattle.ot_lists.specs.declared.list.Key.{Key}
use Rattle.ot_term.specs.TermTable.{variable_of}
use Rattle.ot_term.specs.declared.term.VarKey.{VarKey}

-- the keys stand for exactly the free variables of the term, each once
pub record AreFree (tys : List (Ty ℕ)) (t : Named ℕ) (vs : List VarKey) : Type 0 where
  pub within : All (λ v. v.ty < length tys) vs
  pub free : (w : Variable ℕ) → IsMember w (map (variable_of tys) vs) ↔ IsFree numbers w (nameless numbers t)
  pub once : AreDistinct vs

-- the variable of a name at a type, by their numbers
abbrev pub key_at : ℕ → ℕ → VarKey
key_at n t = record { name = n; ty = t }

-- the variable of a class, as one of a term
abbrev pub var_key : Key → VarKey
var_key v = key_at v.name v.ty

-- the numbers of the types at which variables of the name are free in the term, each once
pub record AreTypesOf (tys : List (Ty ℕ)) (n : ℕ) (t : Named ℕ) (ks : List ℕ) : Type 0 where
  pub within : All (λ k. k < length tys) ks
  pub to : (k : ℕ) → IsMember k ks → IsFree numbers (variable_of tys (key_at n k)) (nameless numbers t)
  pub back : (w : Variable ℕ) → w.name ≡ n → IsFree numbers w (nameless numbers t) → (k : ℕ) × IsMember k ks
      × (type_at tys k ≡ w.ty)
  pub once : AreDistinct ks
