use Rattle.std.proofs.Common.{◌≡◌, Some, slice_get, sym, subst, arith}
use Rattle.ot_logic.specs.Interned.{IsSound}
use Rattle.ot_logic.proofs.InternedLemmas.{found, pushed, Pushed}
use Rattle.ot_log_nodes.specs.Lists.{link_list, IsLinkBelow, HasRest}
use Rattle.ot_log_nodes.proofs.ListLemmas.{link_eq, laws, linked-at, list-below}
use Rattle.ot_log_nodes.proofs.table.lists.Lists.link.Goals as goal

pub returns-in-Some-clause-ok : goal.returns-in-Some-clause-ok
returns-in-Some-clause-ok c =
    let sound = subst (IsSound link_list IsLinkBelow HasRest c.self.inside.links.entries) c.self.view_is
    c.self.invariant in
    linked-at c.args.self.now c.in-Some.index _ _ _ (omega arith)
    (found link_list IsLinkBelow HasRest link_eq laws _ c.args.self.now sound c.args.link c.in-Some.index
    (sym c.in-Some.ensures.index))

-- what the insert leaves
grown : (c : goal.In_ok-insert-in-None) → Pushed link_list IsLinkBelow HasRest link_eq laws c.self.inside.links.entries
    c.args.self.now c.args.link c.insert.new.self.entries
grown c = pushed link_list IsLinkBelow HasRest link_eq laws c.self.inside.links c.args.self.now c.self.view_is
    c.self.invariant c.args.link c.args.places (list-below _ _ c.requires.rest) (c.requires.rest, c.requires.places)
    (sym c.in-None.ensures.index) c.insert.new.self.entries c.in_ok-insert-in-None.ensures.entries

pub invariant_of-self-in-None : goal.invariant_of-self-in-None
invariant_of-self-in-None c = (grown c).sound

pub returns-in_ok-insert-in-None-clause-ok : goal.returns-in_ok-insert-in-None-clause-ok
returns-in_ok-insert-in-None-clause-ok c =
    let last : slice_get _ c.len-count.result ≡ Some (link_list c.args.self.now c.args.link) =
    rw c.len-count.ensures.len (grown c).last in
    linked-at _ c.len-count.result _ _ _ (omega arith) last

pub returns-in_ok-insert-in-None-clause-extends : goal.returns-in_ok-insert-in-None-clause-extends
returns-in_ok-insert-in-None-clause-extends c = (grown c).extends
