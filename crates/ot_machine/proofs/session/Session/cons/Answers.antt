use Rattle.std.proofs.Common.{◌≡◌, ◌≤◌, ◌∙◌, ap, sym, length, arith}
use Rattle.std.specs.Prelude.{Ok}
use Rattle.ot_logic.specs.Hol.{depth_limit}
use Rattle.ot_machine.specs.Objects.{list, nesting}
use Rattle.ot_machine.specs.Meaning.{list_at, cell_of, lists_of, object_of}
use Rattle.ot_machine.specs.declared.object.Cell.{Cell}
use Rattle.ot_machine.specs.declared.object.List.TheVariants as lists
use Rattle.ot_machine.proofs.Cells.{made-list, of-same_cells, article-grown, of-grown, list-grown, with_cells}
use Rattle.ot_machine.proofs.session.Session.cons.Goals as goal

new_cell : goal.In_ok-push → Cell
new_cell c = record { head = c.args.head; tail = c.args.tail; nesting = c.max-nesting.result }

pub returns-in_err-push-clause-of : goal.returns-in_err-push-clause-of
returns-in_err-push-clause-of c =
    of-same_cells c.args.self.now c.args.machine.now c.push.new.self c.in_err-push.ensures.items c.requires.of

-- the nesting of the new list is within the limit
fits : (c : goal.In_ok-push)
    → (c.max-nesting.result
    ≡ nesting (list (cell_of c.args.self.now.kernel (lists_of c.args.self.now c.args.machine.now) (new_cell c))))
    × (c.max-nesting.result ≤ depth_limit)
unfolding new_cell
fits c = (
  omega (arith, c.max-nesting.ensures, c.list_nesting.ensures.nesting, c.nesting.ensures.nesting),
  omega
      (arith, c.if-nesting-gt-DEPTH_LIMIT.false),
)

pub returns-clause-made : goal.returns-clause-made
unfolding new_cell
returns-clause-made c =
    let k = c.args.self.now.kernel in
    let m = c.args.machine.now in
    let f = fits c in
    let place : c.len-place.result ≡ length m.cells.items = omega (arith, c.len-place.ensures, m.cells.ok.0) in
    made-list (object_of k (lists_of c.args.self.now m) c.args.head)
    (list_at (lists_of c.args.self.now m) c.args.tail) c.max-nesting.result f.0 f.1
    ∙ ap (λ os. Ok (list os))
    (sym (ap (λ i. list_at (lists_of c.args.self.now (with_cells m c.push.new.self)) (lists.Cell i)) place
    ∙ list-grown c.args.self.now m c.push.new.self (new_cell c) c.requires.of c.in_ok-push.ensures.items))

pub returns-clause-kept : goal.returns-clause-kept
returns-clause-kept c = article-grown c.args.self.now c.args.machine.now c.push.new.self _ c.requires.of
    c.in_ok-push.ensures.items

pub returns-clause-of : goal.returns-clause-of
unfolding new_cell
returns-clause-of c = of-grown c.args.self.now c.args.machine.now c.push.new.self _ c.requires.of
    c.in_ok-push.ensures.items c.requires.head c.requires.tail (fits c).0 (fits c).1
