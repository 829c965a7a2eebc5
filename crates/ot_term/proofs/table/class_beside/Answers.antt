use Rattle.std.proofs.Common.{sym}
use Rattle.std.proofs.lemmas.Option.{get_or_from_slice_get}
use Rattle.ot_term.specs.TermTable.{classes_of}
use Rattle.ot_term.proofs.Classing.{entry-class}
use Rattle.ot_term.proofs.table.class_beside.Goals as goal

pub returns : goal.returns
returns c =
    rw (← c.id.view_is)
    (sym (get_or_from_slice_get (classes_of c.args.nodes.now.entries) c.id.inside.0 _ 0
    (entry-class c.args.nodes.now.entries c.id.inside.0 _ _ (sym c.in-Some.ensures.entry))))
