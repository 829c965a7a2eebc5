use Rattle.std.proofs.Common.{◌≡◌, ◌∙◌, length, slice_get, sym, ap, arith, refl, true≢false}
use Rattle.indexmap.specs.IndexMap.{index_map_len}
use Rattle.ot_near.specs.Table.{NearEntries, nodes_of}
use Rattle.ot_near.proofs.Placing.{length-nodes, node_at, no_node_at}
use Rattle.ot_near.proofs.table.NearMap.get_index.Goals as goal

pub returns-in-Some-clause-entry : goal.returns-in-Some-clause-entry
returns-in-Some-clause-entry g c =
    sym (node_at c.self.inside.entries.entries c.args.index c.in-Some.placed.now c.in-Some.value.now
    (sym c.in-Some.ensures.entry)) ∙ ap (λ (m : NearEntries _ _). slice_get m.entries c.args.index) c.self.view_is

pub returns-in-Some-clause-found : goal.returns-in-Some-clause-found
returns-in-Some-clause-found g c = (
  (λ e.
      let count : length (nodes_of c.self.inside.entries.entries) ≡ index_map_len c.args.self.now =
      ap index_map_len c.self.view_is in
      omega (arith, c.in-Some.ensures.found.0 e, length-nodes c.self.inside.entries.entries, count)),
  (λ h. refl),
)

pub returns-in-None-clause-entry : goal.returns-in-None-clause-entry
returns-in-None-clause-entry g c =
    sym (no_node_at c.self.inside.entries.entries c.args.index (sym c.in-None.ensures.entry))
    ∙ ap (λ (m : NearEntries _ _). slice_get m.entries c.args.index) c.self.view_is

pub returns-in-None-clause-found : goal.returns-in-None-clause-found
returns-in-None-clause-found g c = (
  (λ e. absurd (true≢false (sym e))),
  (λ h.
      let count : length (nodes_of c.self.inside.entries.entries) ≡ index_map_len c.args.self.now =
      ap index_map_len c.self.view_is in
      c.in-None.ensures.found.1 (omega (arith, h, length-nodes c.self.inside.entries.entries, count))),
)
