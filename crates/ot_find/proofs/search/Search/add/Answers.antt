use Rattle.std.proofs.Common.{map, ◌++◌, refl, sym, ◌∙◌, subst, append-nil, arith}
use Rattle.std.proofs.lemmas.List.{take_all}
use Rattle.ot_logic.specs.PlainTrees.{term_of_tree}
use Rattle.ot_kernel.specs.State.{theorem_at}
use Rattle.ot_find.specs.Matches.{matches_in}
use Rattle.ot_find.specs.Texts.{HasFound}
use Rattle.ot_find.proofs.Pieces.{in-more}
use Rattle.ot_find.proofs.search.Search.add.Goals as goal

pub loop-th-init : goal.loop-th-init
loop-th-init c = ((λ fs h. subst (HasFound c.args.self.now) (sym (append-nil fs)) h), refl)

pub loop-th-preserved : goal.loop-th-preserved
loop-th-preserved c = (
  (λ fs h. subst (HasFound c.add_theorem.new.self)
      (in-more (term_of_tree c.args.pattern.now) c.args.source.now (theorem_at c.args.kernel.now)
      c.args.theorems.now c.loop-th.th-index c.th-item.result c.th-item.result fs c.loop-th-test.true c.th-item.is)
      (c.add_theorem.ensures.found _ (c.loop-th.invariant.0 fs h))),
  c.add_theorem.ensures.max ∙ c.loop-th.invariant.1,
)

pub returns-clause-found : goal.returns-clause-found
returns-clause-found c = λ fs h.
    subst (λ ths. HasFound c.loop-th.self (fs
    ++ matches_in (term_of_tree c.args.pattern.now) c.args.source.now (map (theorem_at c.args.kernel.now) ths)))
    (take_all c.loop-th.th-index c.args.theorems.now (omega arith)) (c.loop-th.invariant.0 fs h)
