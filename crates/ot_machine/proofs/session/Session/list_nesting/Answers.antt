use Rattle.std.proofs.Common.{◌≡◌, ◌<◌, ◌≤◌, length, subst, sym, ap, ◌∙◌}
use Rattle.ot_logic.specs.Hol.{depth_limit}
use Rattle.ot_machine.specs.Objects.{list, nesting}
use Rattle.ot_machine.specs.Meaning.{list_at, lists_of, IsListIn}
use Rattle.ot_machine.specs.declared.object.List.TheVariants.{Cell}
use Rattle.ot_machine.proofs.Cells.{nesting_at}
use Rattle.ot_machine.proofs.session.Session.list_nesting.Goals as goal

beside : (c : goal.After-index)
    → (c.index.result.now.nesting
    ≡ nesting (list (list_at (lists_of c.args.self.now c.args.machine.now) (Cell c.in-Cell.cell))))
    × (c.index.result.now.nesting ≤ depth_limit)
beside c =
    let cells = c.args.machine.now.cells.items in
    let inside : c.in-Cell.cell < length cells = subst (IsListIn (length cells)) c.in-Cell.is c.requires.inside in
    nesting_at c.args.self.now.kernel cells c.requires.of.cells c.in-Cell.cell c.index.result.now inside
    c.index.ensures

pub returns-in-Cell-clause-nesting : goal.returns-in-Cell-clause-nesting
returns-in-Cell-clause-nesting c = (beside c).0
    ∙ ap (λ l. nesting (list (list_at (lists_of c.args.self.now c.args.machine.now) l))) (sym c.in-Cell.is)

pub returns-in-Cell-clause-shallow : goal.returns-in-Cell-clause-shallow
returns-in-Cell-clause-shallow c = (beside c).1
