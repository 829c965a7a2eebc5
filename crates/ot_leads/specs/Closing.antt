-- The definitions of what was found are followed. Only contracts of private functions speak of it.
use Rattle.std.specs.Prelude.{◌≡◌, ◌↔◌, ◌⊎◌, ℕ, ◌<◌, List, length, slice_index}
use Rattle.ot_logic.specs.Lists.{IsMember}
use Rattle.ot_logic.specs.Table.{Extends}
use Rattle.ot_sets.specs.Table.{Has}
use Rattle.ot_sets.specs.Trees.{Tree}
use Rattle.ot_leads.specs.Columns.{HasPlace, IsColumn}
use Rattle.ot_leads.specs.declared.closing.Found.{Found}
use Rattle.ot_leads.specs.declared.column.Column.{Column}
use Rattle.ot_leads.specs.declared.finding.Leads as code

-- the sets of all steps stay
pub record Stays (old new : Column) : Type 0 where
  pub sets : Extends old.sets new.sets
  pub of_is : new.of.items ≡ old.of.items
  pub empty_is : new.empty ≡ old.empty

pub record BothStay (l m : code.Leads) : Type 0 where
  pub assumptions : Stays l.assumptions m.assumptions
  pub definitions : Stays l.definitions m.definitions

-- what was found is of the tables
pub record IsFoundIn (l : code.Leads) (f : Found) : Type 0 where
  pub assumptions : f.assumptions < length l.assumptions.sets
  pub definitions : f.definitions < length l.definitions.sets

abbrev pub FindsAssumption : code.Leads → Found → ℕ → Type 0
FindsAssumption l f p = Has l.assumptions.sets f.assumptions p

abbrev pub FindsDefinition : code.Leads → Found → ℕ → Type 0
FindsDefinition l f p = Has l.definitions.sets f.definitions p

-- found is now also what the step has; the definitions among it that are new are noted at the end of the places
pub record Takes (l m : code.Leads) (f g : Found) (step : ℕ) : Type 0 where
  pub inside : IsFoundIn m g
  pub assumptions : (p : ℕ) → FindsAssumption m g p ↔ (FindsAssumption l f p ⊎ HasPlace l.assumptions step p)
  pub definitions : (p : ℕ) → FindsDefinition m g p ↔ (FindsDefinition l f p ⊎ HasPlace l.definitions step p)
  pub places : Extends f.places.keys g.places.keys
  pub noted : (p : ℕ) → FindsDefinition m g p → FindsDefinition l f p ⊎ IsMember p g.places.keys
  pub only : (p : ℕ) → IsMember p g.places.keys → IsMember p f.places.keys ⊎ FindsDefinition m g p

-- to noted places came those of a set, all those among them that were not known
pub record HasNoted (ts : List Tree) (known id : ℕ) (before after : List ℕ) : Type 0 where
  pub places : Extends before after
  pub noted : (p : ℕ) → Has ts id p → Has ts known p ⊎ IsMember p after
  pub only : (p : ℕ) → IsMember p after → IsMember p before ⊎ Has ts id p

-- these numbers were put behind those that were there
pub record ArePut (before xs after : List ℕ) : Type 0 where
  pub kept : Extends before after
  pub all : (p : ℕ) → IsMember p after ↔ (IsMember p before ⊎ IsMember p xs)

pub record AreColumns (n : ℕ) (l : code.Leads) : Type 0 where
  pub assumptions : IsColumn n l.assumptions
  pub definitions : IsColumn n l.definitions

-- what steps lead to by their sets alone
pub data IsLed (l : code.Leads) (ds : List ℕ) (root : ℕ) : ℕ → Type 0 where
  Start : IsLed l ds root root
  Next : (i p : ℕ) → IsLed l ds root i → HasPlace l.definitions i p → IsLed l ds root (slice_index ds p)

-- exactly what the steps have is found to which the root leads
pub record Closes (l m : code.Leads) (ds : List ℕ) (root : ℕ) (f : Found) : Type 0 where
  pub inside : IsFoundIn m f
  pub assumptions : (p : ℕ) → FindsAssumption m f p ↔ ((i : ℕ) × IsLed l ds root i × HasPlace l.assumptions i p)
  pub definitions : (p : ℕ) → FindsDefinition m f p ↔ ((i : ℕ) × IsLed l ds root i × HasPlace l.definitions i p)
