use Rattle.std.proofs.Common.{Some, sym, ap, ◌∙◌}
use Rattle.ot_logic.specs.NamedTerms.{place}
use Rattle.ot_logic.specs.Naming.{numbers}
use Rattle.ot_lists.specs.Variables.{variable_of, list_at}
use Rattle.ot_class.specs.Table.{shape_of}
use Rattle.ot_class.specs.declared.node.ShapeNode.TheVariants.{Unused}
use Rattle.ot_class.proofs.Making.{unused-number}
use Rattle.ot_class.proofs.table.Classes.abs.Goals as goal

pub returns-in_ok-shape-in-None-clause-ok : goal.returns-in_ok-shape-in-None-clause-ok
returns-in_ok-shape-in-None-clause-ok c =
    let t = c.args.self.now in
    unused-number t c.intern.new.self c.args.v c.args.body c.in_ok-shape-in-None.shape c.new.result c.requires
    (ap (λ n. place numbers (list_at t.lists n) (variable_of c.args.v)) (sym c.list.ensures)
    ∙ sym c.in_ok-place.ensures.place ∙ c.in-None.is)
    (c.in_ok-shape-in-None.ensures.ok
    ∙ ap (λ n. Some (shape_of t.maps t.shapes (Unused c.args.v.ty n))) c.shape.ensures)
    c.in_ok-shape-in-None.ensures.lists (c.new.ensures.shape) (c.new.ensures.list ∙ c.list-in-None.ensures)
