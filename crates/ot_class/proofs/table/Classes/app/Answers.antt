use Rattle.std.proofs.Common.{Some, map, sym, subst, ap, ◌∙◌, length}
use Rattle.ot_logic.specs.NamedTerms.{place}
use Rattle.ot_logic.specs.Naming.{numbers}
use Rattle.ot_shape.specs.Shape.{joined}
use Rattle.ot_lists.specs.Variables.{list_at}
use Rattle.ot_class.specs.Numbers.{shape_number}
use Rattle.ot_class.specs.Table.{shape_of, AreBelow}
use Rattle.ot_class.specs.declared.node.ShapeNode.TheVariants.{App}
use Rattle.ot_class.proofs.Making.{app-below, app-number}
use Rattle.ot_class.proofs.table.Classes.app.Goals as goal

pub intern-requires : goal.intern-requires
intern-requires c =
    let one = c.join.new.self in
    let m = c.in_ok-joined.joined.map in
    subst (λ n. AreBelow (length one.maps) (length one.shapes) (App n c.shape-right.result m))
    (sym c.shape-left.ensures)
    (subst (λ n. AreBelow (length one.maps) (length one.shapes) (App (shape_number c.args.f) n m))
    (sym c.shape-right.ensures)
    (app-below c.args.self.now one one c.args.f c.args.x m 0 0 0 c.requires.f c.requires.x
    c.in_ok-joined.ensures.shapes _ c.in_ok-joined.ensures.maps))

pub returns-clause-ok : goal.returns-clause-ok
returns-clause-ok c =
    let t = c.args.self.now in
    let one = c.join.new.self in
    let m = c.in_ok-joined.joined.map in
    app-number t one c.intern.new.self c.args.f c.args.x m c.in_ok-joined.joined.list c.in_ok-shape.shape c.new.result
    c.in_ok-joined.ensures.shapes
    (c.in_ok-joined.ensures.maps
    ∙ (λ i. Some (map (place numbers (list_at t.lists (c.list-left_list.ensures i)))
    (list_at t.lists (c.list-right_list.ensures i)))))
    (c.in_ok-joined.ensures.list
    ∙ (λ i. Some (joined numbers (list_at t.lists (c.list-left_list.ensures i))
    (list_at t.lists (c.list-right_list.ensures i)))))
    (c.in_ok-shape.ensures.ok
    ∙ (λ i. Some (shape_of one.maps one.shapes (App (c.shape-left.ensures i) (c.shape-right.ensures i) m))))
    c.in_ok-shape.ensures.grows c.new.ensures.shape c.new.ensures.list
