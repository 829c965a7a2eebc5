use Rattle.std.proofs.Common.{◌∙◌}
use Rattle.ot_logic.specs.declared.command.Cmd.TheVariants as words
use Rattle.ot_trace.specs.Origins.{Named, make_two}
use Rattle.ot_machine.proofs.Kept.{origin-kept}
use Rattle.ot_machine.proofs.session.Session.binder_step.Goals as goal

pub returns-clause-made : goal.returns-clause-made
returns-clause-made c =
    let s = c.args.self.now in
    let grown = c.in_ok-name.ensures.kept.grown in
    let ty = origin-kept s c.numeral.new.self c.requires.run grown c.args.ty c.requires.ty in
    c.in_ok-variable_step.ensures.made ∙ (λ i. make_two words.Var (Named (c.in_ok-name.ensures.made i)) (ty i))
