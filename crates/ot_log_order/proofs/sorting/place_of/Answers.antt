use Rattle.std.proofs.Common.{◌+◌, ◌-◌, ◌/◌, ◌<◌, ◌≤◌, length, arith, sym, ◌∙◌}
use Rattle.ot_log_order.proofs.Placing.{read-at, before-greater, before-equal, at-high, place-some, place-none}
use Rattle.ot_log_order.proofs.sorting.place_of.Goals as goal

pub returns-in-Equal : goal.returns-in-Equal
returns-in-Equal c =
    let ts = c.args.nodes.now in
    let is = c.args.sorted.now in
    let middle = c.places.low + (c.places.high - c.places.low) / 2 in
    let inside : middle < length is = omega (arith, c.places-test.true, c.places.invariant.within) in
    let found = read-at is middle c.index-sorted-middle.result inside c.index-sorted-middle.is in
    let equal = sym c.in_ok-compare.ensures ∙ c.in-Equal.is in
    let before = before-equal ts is c.args.term middle c.index-sorted-middle.result c.requires.ascending inside found
    equal in
    place-none ts is c.args.term middle c.index-sorted-middle.result inside found before equal

pub places-preserved : goal.places-preserved
places-preserved c =
    let is = c.args.sorted.now in
    let middle = c.places.low + (c.places.high - c.places.low) / 2 in
    let inside : middle < length is = omega (arith, c.places-test.true, c.places.invariant.within) in
    let found = read-at is middle c.index-sorted-middle.result inside c.index-sorted-middle.is in
    record {
      in_range = omega (arith, c.places-test.true);
      within = c.places.invariant.within;
      before =
          before-greater c.args.nodes.now is c.args.term middle c.index-sorted-middle.result c.requires.ascending
          inside found
          (sym c.in_ok-compare.ensures ∙ c.in-Greater.is);
      behind = c.places.invariant.behind;
    }

pub returns : goal.returns
returns c =
    let ts = c.args.nodes.now in
    let is = c.args.sorted.now in
    let low = c.places.low in
    let known = c.places.invariant in
    let inside : low ≤ length is = omega (arith, known.in_range, known.within) in
    let behind = at-high ts is c.args.term low c.places.high known.in_range c.places-test.false known.behind in
    (inside, place-some ts is c.args.term low inside known.before behind)
