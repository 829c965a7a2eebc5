use Rattle.std.proofs.Common.{◌∙◌, sym, ap, subst}
use Rattle.ot_machine.proofs.Kept.{grows-on}
use Rattle.ot_link.specs.Adding.{added, IsNew}
use Rattle.ot_link.proofs.OneMore.{read-next, next-new}
use Rattle.ot_link.proofs.renaming.interpretation_of.Goals as goal

pub add_statement-requires-clause-new : goal.add_statement-requires-clause-new
add_statement-requires-clause-new c = subst (IsNew _) (sym c.each.invariant.names)
    (next-new c.args.statements.now c.each.statement-index _ c.each-test.true c.requires.right.renamings)

pub returns-in_err-add_statement-clause-grown : goal.returns-in_err-add_statement-clause-grown
returns-in_err-add_statement-clause-grown c = grows-on c.each.invariant.grown c.in_err-add_statement.ensures.grown

pub each-preserved : goal.each-preserved
each-preserved c = record {
  names = c.in_ok-add_statement.ensures.added ∙ ap (added _) c.each.invariant.names
      ∙ sym (read-next c.args.statements.now c.each.statement-index _ c.each-test.true);
  within = c.in_ok-add_statement.ensures.within;
  grown = grows-on c.each.invariant.grown c.in_ok-add_statement.ensures.grown;
  session = c.in_ok-add_statement.ensures.session;
  run = c.in_ok-add_statement.ensures.run ∙ c.each.invariant.run;
}
