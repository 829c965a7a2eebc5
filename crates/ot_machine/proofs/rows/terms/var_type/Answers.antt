use Rattle.std.proofs.Common.{rules, sym, ap}
use Rattle.ot_logic.specs.declared.command.Cmd.TheVariants as words
use Rattle.std.specs.Prelude.{Ok, []}
use Rattle.std.proofs.lemmas.Option.{get_or_from_slice_get}
use Rattle.ot_logic.specs.Trees.{TyVar}
use Rattle.ot_machine.specs.Objects.{a_type}
use Rattle.ot_machine.proofs.Kept.{leaves}
use Rattle.ot_machine.proofs.RuleRows.{turned}
use Rattle.ot_machine.proofs.rows.terms.var_type.Goals as goal
use Rattle.ot_logic.proofs.Results.{bind-to}

pub make_one-requires-clause-of : goal.make_one-requires-clause-of
make_one-requires-clause-of c =
    (leaves _ _ _ c.requires c.type_var.ensures.keeps c.type_var.ensures.same.basis).machine.of

pub returns-in_err-ty : goal.returns-in_err-ty
returns-in_err-ty c =
    let kept = leaves c.args.session.now c.type_var.new.self c.args.machine.now c.requires c.type_var.ensures.keeps
    c.type_var.ensures.same.basis in
    search rules

pub returns-in_err-make_one : goal.returns-in_err-make_one
returns-in_err-make_one c =
    let kept = leaves c.args.session.now c.type_var.new.self c.args.machine.now c.requires c.type_var.ensures.keeps
    c.type_var.ensures.same.basis in
    search rules

pub returns : goal.returns
returns c =
    turned _ _ _ _ _ words.VarType _ (leaves _ _ _ c.requires c.type_var.ensures.keeps c.type_var.ensures.same.basis)
    (bind-to _ _ _ _ c.in_ok-name.ensures.found
    (ap (λ t. Ok (a_type t))
    (sym (get_or_from_slice_get c.type_var.new.self.types c.in_ok-ty.ty _ (TyVar []) c.in_ok-ty.ensures.ok))))
    c.in_ok-make_one.ensures
