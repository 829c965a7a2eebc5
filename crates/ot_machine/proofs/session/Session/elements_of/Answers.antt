use Rattle.std.proofs.Common.{ℕ, ◌<◌, length, map, sym, ap, subst, ◌∙◌, arith}
use Rattle.std.specs.List.{All}
use Rattle.std.proofs.lemmas.List.Elements.{All-push}
use Rattle.ot_trace.specs.Trace.{origin_at}
use Rattle.ot_machine.specs.RenamedLists.{list_onto}
use Rattle.ot_machine.proofs.RenamedLists.{onto-push}
use Rattle.ot_machine.proofs.session.Session.elements_of.Goals as goal

pub elements-preserved : goal.elements-preserved
elements-preserved c =
    let at = origin_at c.args.self.now.trace in
    let found = c.elements.found.items in
    let head = c.in-Some.parts.0 in
    let tail = c.in-Some.parts.1 in
    let items = c.in_ok-push.ensures.items in
    let P = λ (i : ℕ). i < length c.args.self.now.trace in
    record {
      rest_inside = omega (arith, c.in-Some.ensures.tail, c.elements.invariant.rest_inside);
      inside = subst (All P) (sym items)
          (All-push P found head c.elements.invariant.inside
          (omega (arith, c.in-Some.ensures.head, c.elements.invariant.rest_inside)));
      so_far = ap (λ xs. list_onto (map at xs) (at tail)) items
          ∙ onto-push at found head (at tail)
          ∙ ap (list_onto (map at found)) (sym c.in-Some.ensures.some)
          ∙ c.elements.invariant.so_far;
    }
