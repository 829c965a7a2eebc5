-- Tables that grow: trees stay at their numbers.
use Rattle.std.proofs.Common.{◌≡◌, ℕ, ◌<◌, ◌≤◌, length, arith}
use Rattle.ot_logic.specs.Trees.{TyVar, NConst, NAbs}
use Rattle.ot_logic.proofs.TableLemmas.{Extends-refl, Extends-trans, get_or-Extends}
use Rattle.ot_type.specs.TypeTable.{type_at}
use Rattle.ot_term.specs.Term.{TermTable}
use Rattle.ot_term.specs.TermTable.{term_at, variable_of, Grows, IsGrownTo}
use Rattle.ot_term.specs.declared.term.VarKey.{VarKey}

pub Grows-refl : (t : TermTable) → Grows t t
Grows-refl t = record { types = Extends-refl t.types; terms = Extends-refl t.terms; classes = Extends-refl t.classes }

pub Grows-trans : {s t u : TermTable} → Grows s t → Grows t u → Grows s u
Grows-trans g h = record {
  types = Extends-trans g.types h.types;
  terms = Extends-trans g.terms h.terms;
  classes = Extends-trans g.classes h.classes;
}

pub grown_within : (j k : ℕ) (t u : TermTable) → IsGrownTo j t u → j ≤ k → IsGrownTo k t u
grown_within j k t u g h = record {
  grows = g.grows;
  names = record { types = omega (arith, g.names.types, h); terms = omega (arith, g.names.terms, h) };
  table = g.table;
}

-- a table that grows twice, by names below a bound
pub grown_further : (i j k : ℕ) (s t u : TermTable) → IsGrownTo i s t → i ≤ k → IsGrownTo j t u → j ≤ k
    → IsGrownTo k s u
grown_further i j k s t u g p h q = record {
  grows = Grows-trans g.grows h.grows;
  names = record {
    types = omega (arith, g.names.types, h.names.types, p, q);
    terms = omega (arith, g.names.types, g.names.terms, h.names.terms, p, q);
  };
  table = h.table;
}

module _ (t u : TermTable) (g : Grows t u) where
  pub type_at-Grows : (i : ℕ) → i < length t.types → type_at u.types i ≡ type_at t.types i
  type_at-Grows i h = get_or-Extends t.types u.types g.types i (TyVar 0) h

  pub term_at-Grows : (i : ℕ) → i < length t.terms → term_at u.terms i ≡ term_at t.terms i
  term_at-Grows i h = get_or-Extends t.terms u.terms g.terms i (NConst 0 (TyVar 0)) h

  pub variable_of-Grows : (v : VarKey) → v.ty < length t.types → variable_of u.types v ≡ variable_of t.types v
  variable_of-Grows v h = λ i. record { name = v.name; ty = type_at-Grows v.ty h i }

  pub abstraction-Grows : (v : VarKey) (b : ℕ) → v.ty < length t.types → b < length t.terms
      → NAbs (variable_of u.types v) (term_at u.terms b) ≡ NAbs (variable_of t.types v) (term_at t.terms b)
  abstraction-Grows v b h k = λ i. NAbs (variable_of-Grows v h i) (term_at-Grows b k i)
