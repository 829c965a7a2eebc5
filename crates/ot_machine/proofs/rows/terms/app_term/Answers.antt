use Rattle.std.proofs.Common.{rules, refl}
use Rattle.ot_logic.specs.declared.command.Cmd.TheVariants as words
use Rattle.ot_machine.proofs.Kept.{leaves}
use Rattle.ot_machine.proofs.RuleRows.{turned}
use Rattle.ot_machine.proofs.rows.terms.app_term.Goals as goal
use Rattle.ot_logic.proofs.Results.{bind-to}

pub make_two-requires-clause-of : goal.make_two-requires-clause-of
make_two-requires-clause-of c = (leaves _ _ _ c.requires c.app.ensures.keeps c.app.ensures.same.basis).machine.of

pub returns-in_err-term : goal.returns-in_err-term
returns-in_err-term c =
    let kept = leaves c.args.session.now c.app.new.self c.args.machine.now c.requires c.app.ensures.keeps
    c.app.ensures.same.basis in
    search rules

pub returns-in_err-make_two : goal.returns-in_err-make_two
returns-in_err-make_two c =
    let kept = leaves c.args.session.now c.app.new.self c.args.machine.now c.requires c.app.ensures.keeps
    c.app.ensures.same.basis in
    search rules

pub returns : goal.returns
returns c =
    turned _ _ _ _ _ words.AppTerm _ (leaves _ _ _ c.requires c.app.ensures.keeps c.app.ensures.same.basis)
    (bind-to _ _ _ _ c.in_ok-argument.ensures.found
    (bind-to _ _ _ _ c.in_ok-function.ensures.found (bind-to _ _ _ _ c.in_ok-term.ensures.made.1 refl)))
    c.in_ok-make_two.ensures
