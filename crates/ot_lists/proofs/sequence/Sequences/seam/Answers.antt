use Rattle.std.proofs.Common.{arith}
use Rattle.ot_lists.proofs.Seams.{IsCut, cut-of, cut-none, cut-length, seam-none, seam-right}
use Rattle.ot_lists.proofs.Seams.{seam-differ, seam-behind, seam-before}
use Rattle.ot_lists.proofs.sequence.Sequences.seam.Goals as goal
use Rattle.ot_lists.proofs.sequence.Sequences.seam.Goals.{In-Cut}

pub seam-init : goal.seam-init
seam-init c = seam-none c.args.self.now c.args.frames.now.items c.args.before c.args.behind c.requires.none
    c.requires.before c.requires.behind

one : (c : In-Cut) → IsCut c.args.self.now c.seam.left c.in-Cut.first c.in-Cut.x c.in-Cut.inner
one c = cut-of c.args.self.now c.seam.left c.node.result.now c.in-Cut.first c.in-Cut.x c.in-Cut.inner
    c.node.ensures.is c.node.ensures.below c.node.ensures.top c.in-Cut.is

pub returns-in_default-clause-whole : goal.returns-in_default-clause-whole
returns-in_default-clause-whole c =
    (seam-right c.args.self.now c.len-count.ensures.table c.seam.frames.items c.seam.left c.seam.right _ c.seam.invariant
    c.requires.distinct
    (cut-none c.args.self.now.lists _ c.node.result.now c.node.ensures.is c.in_default.not-Cut)).0

pub returns-in_default-clause-tops : goal.returns-in_default-clause-tops
returns-in_default-clause-tops c =
    (seam-right c.args.self.now c.len-count.ensures.table c.seam.frames.items c.seam.left c.seam.right _ c.seam.invariant
    c.requires.distinct
    (cut-none c.args.self.now.lists _ c.node.result.now c.node.ensures.is c.in_default.not-Cut)).1

pub seam-preserved-then-is_higher : goal.seam-preserved-then-is_higher
seam-preserved-then-is_higher c =
    seam-behind c.args.self.now c.len-count.ensures.table c.seam.frames.items c.seam.left c.seam.right _ c.seam.invariant
    c.requires.distinct c.in-Cut.first c.in-Cut.x c.in-Cut.inner c.in-Cut-node.centre c.in-Cut-node.y c.in-Cut-node.last
    (one ((goal.at.seam-preserved-then-is_higher c).In-Cut))
    (cut-of c.args.self.now c.seam.right c.node-in-seam.result.now c.in-Cut-node.centre c.in-Cut-node.y c.in-Cut-node.last
    c.node-in-seam.ensures.is c.node-in-seam.ensures.below c.node-in-seam.ensures.top c.in-Cut-node.is)
    (c.is_higher.ensures.higher c.if-is_higher.true) _ c.in_ok-push.ensures.items

pub seam-preserved : goal.seam-preserved
seam-preserved c =
    let l = one ((goal.at.seam-preserved c).In-Cut) in
    let r = cut-of c.args.self.now c.seam.right c.node-in-seam.result.now c.in-Cut-node.centre c.in-Cut-node.y
    c.in-Cut-node.last c.node-in-seam.ensures.is c.node-in-seam.ensures.below c.node-in-seam.ensures.top c.in-Cut-node.is in
    seam-before c.args.self.now c.len-count.ensures.table c.seam.frames.items c.seam.left c.seam.right _ c.seam.invariant
    c.requires.distinct c.in-Cut.first c.in-Cut.x c.in-Cut.inner c.in-Cut-node.centre c.in-Cut-node.y c.in-Cut-node.last
    l r
    (c.is_higher.ensures.lower c.if-is_higher.false
    (seam-differ c.args.self.now c.len-count.ensures.table c.seam.frames.items c.seam.left c.seam.right _
    c.seam.invariant c.requires.distinct c.in-Cut.first c.in-Cut.x c.in-Cut.inner c.in-Cut-node.centre c.in-Cut-node.y
    c.in-Cut-node.last l r)) _ c.in_ok-push-2.ensures.items

pub seam-smaller : goal.seam-smaller
seam-smaller c =
    let n = cut-length c.args.self.now c.seam.right c.in-Cut-node.centre c.in-Cut-node.y c.in-Cut-node.last
    (cut-of c.args.self.now c.seam.right c.node-in-seam.result.now c.in-Cut-node.centre c.in-Cut-node.y
    c.in-Cut-node.last c.node-in-seam.ensures.is c.node-in-seam.ensures.below c.node-in-seam.ensures.top c.in-Cut-node.is)
    in
    omega (arith, n)
