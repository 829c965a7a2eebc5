use Rattle.std.proofs.Common.{rules, [], ◌∷◌, map, sym, ap, subst, ◌∙◌}
use Rattle.std.specs.List.{All}
use Rattle.std.proofs.lemmas.List.{map-append}
use Rattle.std.proofs.lemmas.List.Elements.{All-push}
use Rattle.ot_machine.specs.Places.{as_each}
use Rattle.ot_machine.specs.Meaning.{list_at, lists_of, object_of}
use Rattle.ot_machine.specs.Answers.{IsFirstOf}
use Rattle.ot_machine.proofs.Elements.{next_cell, joined, read-more, read-other}
use Rattle.ot_machine.proofs.Refusals.{refused}
use Rattle.ot_machine.proofs.session.Session.each_of.Given as given
use Rattle.ot_machine.proofs.session.Session.each_of.Goals as goal
use Rattle.ot_machine.proofs.session.Session.each_of.Goals.{After-index-cell}

-- the cell that is read
next : (g : given.Over) (c : After-index-cell g) → IsFirstOf c.args.self.now.kernel c.args.machine.now.cells.items
    c.cells.rest c.index-cell.result.now.head c.index-cell.result.now.tail
next g c = next_cell c.args.self.now.kernel c.args.machine.now.cells.items c.requires.of.cells c.cells.rest
    c.in-Cell.place c.index-cell.result.now c.in-Cell.is c.cells.invariant.inside c.index-cell.ensures

pub returns-in_err-element-clause-found : goal.returns-in_err-element-clause-found
returns-in_err-element-clause-found g c =
    let e = g.E.Element in
    let k = c.args.self.now.kernel in
    let cs = lists_of c.args.self.now c.args.machine.now in
    let list_is = (next g (goal.at.returns-in_err-element-clause-found g c).After-index-cell).list_is in
    let there = c.in_err-element.ensures.found k cs in
    refused k _ _ c.in_err-element.field-0.0 _ (search rules) (
      there.0,
      λ f p. sym c.cells.invariant.so_far ∙ read-other e.as_one (map (e.value_at k) c.cells.elements.items)
          (object_of k cs c.index-cell.result.now.head) (list_at cs c.cells.rest) _ f (there.1 f p) list_is,
    )

pub cells-smaller : goal.cells-smaller
cells-smaller g c = (next g (goal.at.cells-smaller g c).After-index-cell).shorter

pub cells-preserved : goal.cells-preserved
cells-preserved g c =
    let e = g.E.Element in
    let k = c.args.self.now.kernel in
    let cs = lists_of c.args.self.now c.args.machine.now in
    let first = next g (goal.at.cells-preserved g c).After-index-cell in
    let element = c.in_ok-element.element in
    let items = ap (map (e.value_at k)) c.in_ok-push.ensures.items
    ∙ map-append (e.value_at k) c.cells.elements.items (element ∷ []) in
    record {
      inside = first.tail;
      numbers = subst (All (e.is_inside k)) (sym c.in_ok-push.ensures.items)
          (All-push (e.is_inside k) c.cells.elements.items element c.cells.invariant.numbers
          (c.in_ok-element.ensures.inside k _ first.head));
      so_far = ap (λ xs. joined e.as_one xs (as_each e.as_one (list_at cs c.index-cell.result.now.tail))) items
          ∙ sym (read-more e.as_one (map (e.value_at k) c.cells.elements.items) (e.value_at k element)
          (object_of k cs c.index-cell.result.now.head) (list_at cs c.cells.rest)
          (list_at cs c.index-cell.result.now.tail) (c.in_ok-element.ensures.found k cs) first.list_is)
          ∙ c.cells.invariant.so_far;
    }
