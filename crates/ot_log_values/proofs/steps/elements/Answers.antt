use Rattle.std.proofs.Common.{ℕ, ◌<◌, sym, ap, subst, ◌∙◌, arith}
use Rattle.std.specs.List.{All}
use Rattle.std.proofs.lemmas.List.Elements.{All-push}
use Rattle.ot_trace.specs.Origins.{Make}
use Rattle.ot_log_values.specs.Steps.{origins_of}
use Rattle.ot_log_values.proofs.Listing.{leaves-cons, leaves-nil}
use Rattle.ot_log_values.proofs.Stepping.{two-below}
use Rattle.ot_machine.specs.Places.{as_list}
use Rattle.ot_machine.specs.Meaning.{origin_of}
use Rattle.ot_log_values.proofs.Taking.{list-kind, list-word, is-make, has-value, word-is, step-long, cons-takes}
use Rattle.ot_logic.specs.declared.command.Cmd.TheVariants as words
use Rattle.ot_logic.specs.declared.kind.Kind.TheVariants as kinds
use Rattle.ot_log_values.proofs.steps.elements.Goals as goal

pub returns-in-Nil-clause-made : goal.returns-in-Nil-clause-made
returns-in-Nil-clause-made c =
    let s = c.args.session.now in
    let os = origins_of s c.making-word.result.1.now in
    leaves-nil s c.args.list c.cells.found.items c.cells.rest os
    (c.making-word.ensures.made ∙ ap (λ w. Make w os) c.in-Nil.is) c.cells.invariant.leaves

pub cells-preserved : goal.cells-preserved
cells-preserved c =
    let s = c.args.session.now in
    let found = c.cells.found.items in
    let head = c.two-head.result.0 in
    let tail = c.two-head.result.1 in
    let below = two-below (λ i. i < c.cells.rest) c.making-word.result.1.now
    head tail c.making-word.ensures.below c.two-head.ensures in
    let P = λ (i : ℕ). i < c.args.list in
    let is = c.making-word.ensures.made
    ∙ (λ i. Make (c.in-Cons.is i) (origins_of s (c.two-head.ensures i))) in
    record {
      inside = omega (arith, below.1, c.cells.invariant.inside);
      near = omega (arith, below.1, c.cells.invariant.near);
      below = subst (All P) (sym c.in_ok-push-in-Cons.ensures.items)
          (All-push P found head c.cells.invariant.below (omega (arith, below.0, c.cells.invariant.near)));
      leaves = leaves-cons s c.args.list found c.push.new.self.items c.cells.rest head tail is
          c.in_ok-push-in-Cons.ensures.items c.cells.invariant.leaves;
      listed = cons-takes (origin_of s c.cells.rest) (origin_of s head)
          (has-value as_list (origin_of s c.cells.rest) c.cells.invariant.listed) (origin_of s tail) is;
    }

pub making-word-requires-clause-make : goal.making-word-requires-clause-make
making-word-requires-clause-make c =
    is-make as_list (origin_of c.args.session.now c.cells.rest) c.cells.invariant.listed kinds.List list-kind tt

pub two-head-requires : goal.two-head-requires
two-head-requires c =
    let s = c.args.session.now in
    let is = c.making-word.result.1.now in
    step-long s (origin_of s c.cells.rest) words.Cons is
    (c.making-word.ensures.made ∙ ap (λ w. Make w (origins_of s is)) c.in-Cons.is)
    (has-value as_list (origin_of s c.cells.rest) c.cells.invariant.listed)

pub unreachable-requires : goal.unreachable-requires
unreachable-requires c =
    let s = c.args.session.now in
    list-word c.making-word.result.0
    (word-is as_list (origin_of s c.cells.rest) c.cells.invariant.listed kinds.List list-kind c.making-word.result.0
    (origins_of s c.making-word.result.1.now) c.making-word.ensures.made) c.in_default.not-Nil c.in_default.not-Cons
