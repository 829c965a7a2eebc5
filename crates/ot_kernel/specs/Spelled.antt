-- The real state of a kernel's tables, and what the tables keep.
use Rattle.std.specs.Prelude.{◌≡◌, ℕ, ◌<◌, ◌≤◌, List, [], map, length, slice_index_or}
use Rattle.std.specs.List.{All}
use Rattle.ot_logic.specs.Names.{Name}
use Rattle.ot_logic.specs.Trees.{Named, Sequent, Bound}
use Rattle.ot_logic.specs.NamedTerms.{nameless}
use Rattle.ot_logic.specs.Renamed.{map_ty, map_named}
use Rattle.ot_logic.specs.Naming.{names, name_of, IsNameTable}
use Rattle.ot_logic.specs.Bounds.{names_in, names_in_terms}
use Rattle.ot_term.specs.Term.{TermTable}
use Rattle.ot_term.specs.TermTable.{IsTermTable}
use Rattle.ot_kernel.specs.declared.key.SequentKey.{SequentKey}
use Rattle.ot_kernel.specs.declared.theorem.Theorem.{Theorem}
use Rattle.ot_define.specs.Signature.{Symbols}
use Rattle.ot_kernel.specs.declared.definition.Definition as code
use Rattle.ot_kernel.specs.Places.{ArePlaces}
use Rattle.ot_kernel.specs.State.{State, named_at, IsSoundState}
use Rattle.ot_kernel.specs.Definitions.{definition_at, IsHeld, IsSignature}

-- the theorems that a kernel holds, the numbers of those that are assumptions, the definitions with their symbols,
-- and the places of the assumptions by their keys
pub record Held : Type 0 where
  pub theorems : List Theorem
  pub assumptions : List ℕ
  pub definitions : List code.Definition
  pub signature : Symbols
  pub places : List (SequentKey × ℕ)

-- the sequent of a theorem, over the real terms
abbrev pub sequent_of : List (Named Name) → Theorem → Sequent Name
sequent_of ts th =
    record {
      hyps = map (λ i. nameless names (named_at ts i)) th.hyps;
      concl = nameless names (named_at ts th.concl);
    }

-- the sequents of numbers of theorems
abbrev pub sequents_at : List (Sequent Name) → List ℕ → List (Sequent Name)
sequents_at qs is = map (λ i. slice_index_or qs i (record { hyps = []; concl = Bound 0 })) is

-- the state without its definitions: each number of a name becomes its name
abbrev pub undefined_state : List Name → TermTable → Held → State
undefined_state ns t held =
    let ts = map (map_named (name_of ns)) t.terms in
    let qs = map (sequent_of ts) held.theorems in
    record {
      names = ns;
      types = map (map_ty (name_of ns)) t.types;
      terms = ts;
      classes = t.classes;
      theorems = qs;
      assumptions = sequents_at qs held.assumptions;
      definitions = [];
    }

-- the state
abbrev pub state_of : List Name → TermTable → Held → State
state_of ns t held =
    record (undefined_state ns t held)
    { definitions = map (definition_at (undefined_state ns t held)) held.definitions }

-- the real state of a table over numbers
pub record IsSpelled (s : State) (t : TermTable) : Type 0 where
  pub types : s.types ≡ map (map_ty (name_of s.names)) t.types
  pub terms : s.terms ≡ map (map_named (name_of s.names)) t.terms
  pub bound : (names_in t.types ≤ length s.names) × (names_in_terms t.terms ≤ length s.names)
  pub table : IsTermTable t

-- a theorem's numbers are of the table
pub record IsInside (terms : ℕ) (th : Theorem) : Type 0 where
  pub hyps : All (λ i. i < terms) th.hyps
  pub concl : th.concl < terms

-- what holds of a kernel's tables at all times
pub record IsKernel (ns : List Name) (t : TermTable) (held : Held) : Type 0 where
  pub names : IsNameTable ns
  pub types : names_in t.types ≤ length ns
  pub terms : names_in_terms t.terms ≤ length ns
  pub table : IsTermTable t
  pub inside : All (IsInside (length t.terms)) held.theorems
  pub numbered : All (λ i. i < length held.theorems) held.assumptions
  pub accepted : All (IsHeld (state_of ns t held)) held.definitions
  pub signature : IsSignature ns (state_of ns t held).definitions held.signature
  pub placed : ArePlaces t.classes held.theorems held.assumptions held.places
  pub sound : IsSoundState (state_of ns t held)
