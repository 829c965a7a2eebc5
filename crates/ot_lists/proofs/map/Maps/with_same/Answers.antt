use Rattle.std.proofs.Common.{◌≡◌, ◌+◌, sym, ◌∙◌, arith}
use Rattle.ot_lists.specs.declared.map.MapNode.TheVariants.{Same}
use Rattle.ot_lists.proofs.MapLemmas.{same-starts, same-longer}
use Rattle.ot_lists.proofs.map.Maps.with_same.Goals as goal

pub returns-then-not-goes_on-clause-longest : goal.returns-then-not-goes_on-clause-longest
returns-then-not-goes_on-clause-longest c = (
  c.requires.some,
  same-starts c.args.self.now c.args.front c.args.start c.node.result.now c.node.ensures.is c.node.ensures.longest
      (λ l k b e next.
      let p : Same c.in-Same.longer c.in-Same.first c.in-Same.before ≡ Same l k b = sym c.in-Same.is ∙ e in
      let first : c.in-Same.first ≡ k = cc in
      let before : c.in-Same.before ≡ b = cc in
      let s : c.in-Same.first + c.in-Same.before ≡ c.args.start = omega (arith, first, before, next) in
      c.if-not-goes_on.true s),
)

pub returns-clause-is : goal.returns-clause-is
returns-clause-is c =
    same-longer c.args.self.now c.args.front c.node.result.now c.node.ensures.is
    c.in-Same.longer c.in-Same.before c.args.count c.in_ok-count.count c.in_ok-count.ensures c.in-Same.first
    c.args.start c.in-Same.is c.if-not-goes_on.false
