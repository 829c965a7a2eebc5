use Rattle.std.proofs.Common.{sym, subst}
use Rattle.ot_logic.specs.Interned.{IsSound}
use Rattle.ot_logic.specs.Table.{Extends}
use Rattle.ot_logic.proofs.InternedLemmas.{found, pushed, Pushed}
use Rattle.ot_logic.proofs.TableLemmas.{Extends-trans}
use Rattle.ot_log_nodes.specs.Items.{first_items}
use Rattle.ot_log_nodes.specs.Below.{AreBelow}
use Rattle.ot_log_nodes.specs.Table.{tree_of, Fits}
use Rattle.ot_log_nodes.proofs.NodeLemmas.{node_eq, laws, parts-below}
use Rattle.ot_log_nodes.proofs.table.Nodes.intern.Goals as goal

pub returns-in-Some-clause-ok : goal.returns-in-Some-clause-ok
returns-in-Some-clause-ok c =
    let sound = subst (IsSound tree_of AreBelow Fits c.self.inside.nodes.entries) c.self.view_is
    c.self.invariant.nodes in
    found tree_of AreBelow Fits node_eq laws _ c.args.self.now sound c.args.node c.in-Some.index
    (sym c.in-Some.ensures.index)

-- what the insert leaves
grown : (c : goal.In_ok-insert-in-None) → Pushed tree_of AreBelow Fits node_eq laws c.self.inside.nodes.entries
    c.args.self.now c.args.node c.insert.new.self.entries
grown c = pushed tree_of AreBelow Fits node_eq laws c.self.inside.nodes c.args.self.now c.self.view_is
    c.self.invariant.nodes c.args.node c.in_ok-beside-in-None.beside (parts-below _ _ c.requires)
    (c.requires, c.in_ok-beside-in-None.ensures)
    (sym c.in-None.ensures.index) c.insert.new.self.entries c.in_ok-insert-in-None.ensures.entries

pub invariant_of-self-in-None : goal.invariant_of-self-in-None
invariant_of-self-in-None c = record {
  nodes = (grown c).sound;
  first = Extends-trans (subst (Extends first_items) c.self.view_is c.self.invariant.first) (grown c).extends;
}

pub returns-in_ok-insert-in-None-clause-ok : goal.returns-in_ok-insert-in-None-clause-ok
returns-in_ok-insert-in-None-clause-ok c = rw c.len-index.ensures.len (grown c).last

pub returns-in_ok-insert-in-None-clause-extends : goal.returns-in_ok-insert-in-None-clause-extends
returns-in_ok-insert-in-None-clause-extends c = (grown c).extends
