-- What was found of a root is what it leads to; and what is known of the sets stays.
use Rattle.std.specs.Prelude.{◌↔◌, slice_get, Some}
use Rattle.std.specs.List.Sorted.{IsStrictlyIncreasing}
use Rattle.std.specs.List.{All}
use Rattle.std.proofs.Common.{◌≡◌, ℕ, ◌<◌, List, [], ◌∷◌, length, arith}
use Rattle.std.proofs.lemmas.Option.{slice_get_within}
use Rattle.ot_logic.specs.Lists.{IsMember}
use Rattle.ot_logic.proofs.Members.{All-from_members}
use Rattle.ot_sets.specs.Table.{Has}
use Rattle.ot_trace.specs.Origins.{Origin}
use Rattle.ot_trace.specs.Trace.{IsStepTable}
use Rattle.ot_leads.specs.Found.{AreUses}
use Rattle.ot_leads.specs.Columns.{HasPlace}
use Rattle.ot_leads.specs.Leads.{IsSpread, AreLeads}
use Rattle.ot_leads.specs.Closing.{Stays, BothStay, AreColumns, Closes}
use Rattle.ot_leads.specs.declared.closing.Found.{Found}
use Rattle.ot_leads.specs.declared.column.Column.{Column}
use Rattle.ot_leads.specs.declared.finding.Leads as code
use Rattle.ot_leads.specs.declared.finding.Uses.{Uses}
use Rattle.ot_leads.proofs.ClosingLaw.{given-found, made-found, led-from, found-given, found-made}
use Rattle.ot_leads.proofs.TakingLemmas.{column-stays, leads-later, leads-sooner}

-- ---- what is known of the sets
module _ (ts : List (Origin ℕ)) (roots gs ds : List ℕ) (l : code.Leads) (a : AreLeads ts roots gs ds l) where
  met-inside : (i : ℕ) → slice_get a.met i ≡ Some (Some i) → i < length ts
  met-inside i m = let n = a.parts.length_is in let h = slice_get_within a.met i (Some i) m in omega (arith, n, h)

  pub both-columns : AreColumns (length ts) l
  both-columns = record { assumptions = a.assumptions.column; definitions = a.definitions.column }

  pub root-inside : (i : ℕ) → IsMember i roots → i < length ts
  root-inside i m = met-inside i (a.parts.roots_met i m)

  pub definitions-inside : All (λ i. i < length ts) ds
  definitions-inside = All-from_members (λ i. i < length ts) ds (λ i m. met-inside i (a.parts.definitions_met i m))

  pub places-inside : (i p : ℕ) → i < length ts → HasPlace l.definitions i p → p < length ds
  places-inside i p h m = let o = a.definitions.only i p h m in let made = o.3 in made.0

  spread-stays : (IsAt : ℕ → ℕ → Type 0) (c d : Column) → Stays c d → IsSpread ts a.met IsAt c
      → IsSpread ts a.met IsAt d
  spread-stays IsAt c d s h = record {
    column = column-stays (length ts) c d s h.column;
    own = λ i p b at. leads-later (length ts) c d s h.column i p b (h.own i p b at);
    closed = λ i j p m part has. leads-later (length ts) c d s h.column i p (met-inside i m)
        (h.closed i j p m part (leads-sooner (length ts) c d s h.column j p part.0 has));
    only = λ i p b has. h.only i p b (leads-sooner (length ts) c d s h.column i p b has);
  }

  pub leads-stay : (m : code.Leads) → BothStay l m → AreLeads ts roots gs ds m
  leads-stay m s = record {
    met = a.met;
    parts = a.parts;
    given_inside = a.given_inside;
    assumptions = spread-stays _ l.assumptions m.assumptions s.assumptions a.assumptions;
    definitions = spread-stays _ l.definitions m.definitions s.definitions a.definitions;
  }

-- ---- what was found
pub uses-are : (ts : List (Origin ℕ)) → IsStepTable ts → (root : ℕ) (gs ds : List ℕ) (l m : code.Leads) (f : Found)
    (u : Uses) → AreLeads ts (root ∷ []) gs ds l → Closes l m ds root f
    → IsStrictlyIncreasing u.assumptions.items → IsStrictlyIncreasing u.definitions.items
    → ((p : ℕ) → IsMember p u.assumptions.items ↔ Has m.assumptions.sets f.assumptions p)
    → ((p : ℕ) → IsMember p u.definitions.items ↔ Has m.definitions.sets f.definitions p)
    → AreUses ts gs ds root u
uses-are ts table root gs ds l m f u a c given_rise made_rise given made = record {
  assumptions_rise = given_rise;
  assumptions = λ p. (
    λ h.
        let w = (c.assumptions p).0 ((given p).0 h) in
        let from = led-from ts table root gs ds l a w.0 w.1 in
        given-found ts table root gs ds l a w.0 p from.0 from.1 w.2,
    λ h. (given p).1 ((c.assumptions p).1 (found-given ts table root gs ds l a p h.0 h.1)),
  );
  definitions_rise = made_rise;
  definitions = λ p. (
    λ h.
        let w = (c.definitions p).0 ((made p).0 h) in
        let from = led-from ts table root gs ds l a w.0 w.1 in
        made-found ts table root gs ds l a w.0 p from.0 from.1 w.2,
    λ h. (made p).1 ((c.definitions p).1 (found-made ts table root gs ds l a p h.0 h.1 h.2)),
  );
}
