use Rattle.std.proofs.Common.{length, ◌<◌, sym, subst, arith, true≢false, inl, inr, ◌∙◌}
use Rattle.ot_logic.specs.Lists.{IsMember}
use Rattle.ot_term.specs.declared.term.VarKey.{VarKey}
use Rattle.ot_term.proofs.Growing.{grown_further}
use Rattle.ot_subst.specs.Clash.{IsCaught}
use Rattle.ot_subst.proofs.Growing.{IsSubstOf-Grows}
use Rattle.ot_subst.proofs.Catching.{caught-before, caught-later, member-more}
use Rattle.ot_subst.proofs.clash.any_is_caught.Goals as goal
use Rattle.ot_logic.proofs.Members.{IsMember-get_or, All-at_member}

pub returns-then-branch-clause-ok : goal.returns-then-branch-clause-ok
returns-then-branch-clause-ok g c =
    let x = c.x-item.result in
    let t = g.N.Nodes.table c.args.terms.now in
    let m = subst (λ (z : VarKey). IsMember z c.args.xs.now) (sym c.x-item.is)
    (IsMember-get_or c.args.xs.now c.loop-x.x-index x c.loop-x-test.true) in
    let inside = All-at_member (λ (z : VarKey). z.ty < length t.types) c.args.xs.now x c.requires.variables m in (
      x,
      m,
      caught-before t (g.N.Nodes.table c.loop-x.terms) c.loop-x.invariant.grown.grows c.args.work.now.subst.now
          c.requires.subst c.args.v.now c.args.w.now x c.requires.new inside
          (c.in_ok-is_caught.ensures.ok.0 c.if-branch.true),
    )

pub is_caught-requires-clause-subst : goal.is_caught-requires-clause-subst
is_caught-requires-clause-subst g c =
    IsSubstOf-Grows (g.N.Nodes.table c.args.terms.now) (g.N.Nodes.table c.loop-x.terms)
    c.loop-x.invariant.grown.grows c.args.work.now.subst.now c.requires.subst

pub loop-x-preserved : goal.loop-x-preserved
loop-x-preserved g c = record {
  grown = grown_further 0 0 0 _ _ _ c.loop-x.invariant.grown (omega arith) c.in_ok-is_caught.ensures.grown
      (omega arith);
  missed = λ x m. elim (member-more x c.x-item.result c.args.xs.now c.loop-x.x-index c.loop-x-test.true c.x-item.is m) [
    | inl a ↦ c.loop-x.invariant.missed x a
    | inr e ↦
        subst (λ (z : VarKey).
        ¬ (IsCaught (g.N.Nodes.table c.args.terms.now) c.args.work.now.subst.now c.args.v.now c.args.w.now z)) e
        missed_now
  ];
}
  where
    missed_now : ¬
        (IsCaught (g.N.Nodes.table c.args.terms.now) c.args.work.now.subst.now c.args.v.now c.args.w.now
        c.x-item.result)
    missed_now h =
        let x = c.x-item.result in
        let t = g.N.Nodes.table c.args.terms.now in
        let m = subst (λ (z : VarKey). IsMember z c.args.xs.now) (sym c.x-item.is)
        (IsMember-get_or c.args.xs.now c.loop-x.x-index x c.loop-x-test.true) in
        let inside = All-at_member (λ (z : VarKey). z.ty < length t.types) c.args.xs.now x c.requires.variables m in
        let hit =
        c.in_ok-is_caught.ensures.ok.1
        (caught-later t (g.N.Nodes.table c.loop-x.terms) c.loop-x.invariant.grown.grows c.args.work.now.subst.now
        c.requires.subst c.args.v.now c.args.w.now x c.requires.new inside h) in
        true≢false (sym hit ∙ c.if-branch.false)
