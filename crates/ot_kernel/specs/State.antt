-- What contracts see of a kernel: real names, types, terms and sequents, each in the order of its numbers.
use Rattle.std.specs.Prelude.{◌≡◌, ℕ, false, List, [], ◌∷◌, map, slice_index_or, AllPairs, refl}
use Rattle.std.specs.List.{All}
use Rattle.std.specs.Coded.{Coded, code_by, coded×, coded_list, coded_ℕ}
use Rattle.ot_logic.specs.Names.{Name}
use Rattle.ot_logic.specs.Trees.{Ty, Tys, TyVar, NoTys, MoreTys, Variable}
use Rattle.ot_logic.specs.Trees.{Named, NConst, Tm, Bound, Sequent, Definition}
use Rattle.ot_logic.specs.Hol.{same_sequent, IsSequent, Accepted}
use Rattle.ot_logic.specs.NamedTerms.{nameless}
use Rattle.ot_logic.specs.Naming.{names, IsNameTable}
use Rattle.ot_logic.specs.Codes.{coded_name, coded_ty, coded_named, coded_sequent, coded_definition}
use Rattle.ot_logic.specs.Table.{Extends}
use Rattle.ot_laws.specs.Theorem.{IsTheorem}
use Rattle.ot_term.specs.declared.term.VarKey.{VarKey}

pub record State : Type 0 where
  pub names : List Name
  pub types : List (Ty Name)
  pub terms : List (Named Name)
  -- the alpha class of each term
  pub classes : List ℕ
  pub theorems : List (Sequent Name)
  pub assumptions : List (Sequent Name)
  pub definitions : List (Definition Name)

abbrev pub coded_state : Coded State
coded_state =
    code_by (List Name
    × (List (Ty Name)
    × (List (Named Name) × (List ℕ × (List (Sequent Name) × (List (Sequent Name) × List (Definition Name)))))))
    (coded× (coded_list coded_name)
    (coded× (coded_list (coded_ty coded_name))
    (coded× (coded_list (coded_named coded_name))
    (coded× (coded_list coded_ℕ)
    (coded× (coded_list (coded_sequent coded_name))
    (coded× (coded_list (coded_sequent coded_name)) (coded_list (coded_definition coded_name))))))))
    (λ s. (s.names, (s.types, (s.terms, (s.classes, (s.theorems, (s.assumptions, s.definitions)))))))
    (λ p. record {
      names = p.0;
      types = p.1.0;
      terms = p.1.1.0;
      classes = p.1.1.1.0;
      theorems = p.1.1.1.1.0;
      assumptions = p.1.1.1.1.1.0;
      definitions = p.1.1.1.1.1.1;
    })
    (λ _. refl)

-- ---- what a number stands for

abbrev pub name_at : State → ℕ → Name
name_at s i = slice_index_or s.names i []

abbrev pub type_at : State → ℕ → Ty Name
type_at s i = slice_index_or s.types i (TyVar [])

abbrev pub types_at : State → List ℕ → Tys Name
types_at s [] = NoTys
types_at s (i ∷ is) = MoreTys (type_at s i) (types_at s is)

abbrev pub variable_at : State → VarKey → Variable Name
variable_at s v = record { name = name_at s v.name; ty = type_at s v.ty }

abbrev pub named_at : List (Named Name) → ℕ → Named Name
named_at ts i = slice_index_or ts i (NConst [] (TyVar []))

-- the nameless form of a term
abbrev pub term_at : State → ℕ → Tm Name
term_at s i = nameless names (named_at s.terms i)

abbrev pub terms_at : State → List ℕ → List (Tm Name)
terms_at s = map (term_at s)

-- the sequent of hypotheses and a conclusion
abbrev pub sequent_at : State → List ℕ → ℕ → Sequent Name
sequent_at s hyps concl = record { hyps = terms_at s hyps; concl = term_at s concl }

abbrev pub theorem_at : State → ℕ → Sequent Name
theorem_at s i = slice_index_or s.theorems i (record { hyps = []; concl = Bound 0 })

-- ---- growth

-- each number stands for what it stood for
pub record Keeps (old new : State) : Type 0 where
  pub names : Extends old.names new.names
  pub types : Extends old.types new.types
  pub terms : Extends old.terms new.terms
  pub classes : Extends old.classes new.classes
  pub theorems : Extends old.theorems new.theorems
  pub assumptions : Extends old.assumptions new.assumptions
  pub definitions : Extends old.definitions new.definitions

-- the assumptions and the definitions are as before
pub record SameBasis (old new : State) : Type 0 where
  pub assumptions : new.assumptions ≡ old.assumptions
  pub definitions : new.definitions ≡ old.definitions

-- every theorem, assumption and definition is as before
pub record SameTheorems (old new : State) : Type 0 where
  pub theorems : new.theorems ≡ old.theorems
  pub basis : SameBasis old new

-- ---- soundness

-- no two of the sequents are one
abbrev pub AreApart : List (Sequent Name) → Type 0
AreApart qs = AllPairs (λ q r. same_sequent names q r ≡ false) qs

-- each theorem is derivable from the assumptions under the definitions, these are accepted, and no two assumptions
-- are one
pub record IsSoundState (s : State) : Type 0 where
  pub theorems : All (IsTheorem names s.assumptions s.definitions) s.theorems
  pub assumptions : All (IsSequent names) s.assumptions
  pub accepted : Accepted names s.assumptions s.definitions
  pub names : IsNameTable s.names
  pub apart : AreApart s.assumptions
