-- What the conditions of definitions are for: what passes them may be defined next.
use Rattle.std.specs.Prelude.{◌≡◌, ◌↔◌, List, map, Ok}
use Rattle.ot_logic.specs.Lists.{IsMember}
use Rattle.ot_logic.specs.Trees.{Alphabet, Variable, Tm, Sequent, Symbol, Definition, ConDef, ListDef, TyDef}
use Rattle.ot_logic.specs.Hol.{IsWellTyped, IsNext, defined, used}
use Rattle.ot_laws.specs.Theorem.{IsTheorem}
use Rattle.ot_laws.specs.Conditions.{checked_const, checked_list, checked_type}

module _ {N : Type 0} (alphabet : Alphabet N) where
  -- the lists have just the symbols that the definitions define, and those that occur in them
  pub record AreSymbolsOf (dl : List (Definition N)) (defs uses : List (Symbol N)) : Type 0 where
    pub defined : (s : Symbol N)
        → IsMember s defs ↔ ((e : Definition N) × IsMember e dl × IsMember s (defined alphabet e))
    pub used : (s : Symbol N) → IsMember s uses ↔ ((e : Definition N) × IsMember e dl × IsMember s (used alphabet e))

  -- a constant that passes its conditions may be defined after the definitions whose symbols it was checked against
  abbrev pub ConstantsAreNext : Type 0
  ConstantsAreNext = (al : List (Sequent N)) (dl : List (Definition N)) (defs uses : List (Symbol N)) (n : N)
      (t : Tm N) → AreSymbolsOf dl defs uses
      → IsWellTyped alphabet t → checked_const alphabet defs uses n t ≡ Ok tt → IsNext alphabet al dl (ConDef n t)

  -- so may a list of constants, from a theorem
  abbrev pub ListsAreNext : Type 0
  ListsAreNext = (al : List (Sequent N)) (dl : List (Definition N)) (defs uses : List (Symbol N))
      (ps : List (N × Variable N)) (q : Sequent N) → AreSymbolsOf dl defs uses
      → IsTheorem alphabet al dl q → checked_list alphabet defs uses (map (λ p. p.0) ps) (map (λ p. p.1) ps) q ≡ Ok tt
      → IsNext alphabet al dl (ListDef ps q)

  -- and a type, from a theorem
  abbrev pub TypesAreNext : Type 0
  TypesAreNext = (al : List (Sequent N)) (dl : List (Definition N)) (defs uses : List (Symbol N)) (n abs rep : N)
      (vars : List N) (q : Sequent N) → AreSymbolsOf dl defs uses
      → IsTheorem alphabet al dl q → checked_type alphabet defs uses n abs rep vars q ≡ Ok tt
      → IsNext alphabet al dl (TyDef n abs rep vars q)
