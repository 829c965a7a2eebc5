use Rattle.std.proofs.Common.{rules, sym, ap}
use Rattle.ot_logic.specs.declared.command.Cmd.TheVariants as words
use Rattle.std.specs.Prelude.{Ok}
use Rattle.ot_machine.specs.Objects.{term}
use Rattle.ot_machine.proofs.Kept.{leaves}
use Rattle.ot_machine.proofs.RuleRows.{turned}
use Rattle.ot_machine.proofs.rows.terms.var_term.Goals as goal
use Rattle.ot_logic.proofs.Results.{bind-to}

pub make_one-requires-clause-of : goal.make_one-requires-clause-of
make_one-requires-clause-of c = (leaves _ _ _ c.requires c.var.ensures.keeps c.var.ensures.same.basis).machine.of

pub returns-in_err-term : goal.returns-in_err-term
returns-in_err-term c =
    let kept = leaves c.args.session.now c.var.new.self c.args.machine.now c.requires c.var.ensures.keeps
    c.var.ensures.same.basis in
    search rules

pub returns-in_err-make_one : goal.returns-in_err-make_one
returns-in_err-make_one c =
    let kept = leaves c.args.session.now c.var.new.self c.args.machine.now c.requires c.var.ensures.keeps
    c.var.ensures.same.basis in
    search rules

pub returns : goal.returns
returns c =
    turned _ _ _ _ _ words.VarTerm _ (leaves _ _ _ c.requires c.var.ensures.keeps c.var.ensures.same.basis)
    (bind-to _ _ _ _ c.in_ok-variable.ensures.found (ap (λ t. Ok (term t)) (sym c.in_ok-term.ensures.ok)))
    c.in_ok-make_one.ensures
