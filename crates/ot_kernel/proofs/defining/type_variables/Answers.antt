use Rattle.std.proofs.Common.{◌≤◌, ◌++◌, map, length, sym, ap, ◌∙◌, arith}
use Rattle.std.proofs.lemmas.List.{append-nil, drop_all}
use Rattle.ot_logic.specs.Trees.{TyVar}
use Rattle.ot_type.specs.TypeTable.{type_at}
use Rattle.ot_term.proofs.Growing.{grown_further}
use Rattle.ot_kernel.specs.Proved.{bound_of_names}
use Rattle.ot_kernel.proofs.NewTypes.{name-below, variable_added, all_variables}
use Rattle.ot_kernel.proofs.defining.type_variables.Goals as goal

pub returns-in_err-push-clause-grown : goal.returns-in_err-push-clause-grown
returns-in_err-push-clause-grown c =
    let less = name-below c.args.vars.now c.loop-name.name-index c.name-item.result c.loop-name-test.true
    c.name-item.is in
    grown_further _ _ (bound_of_names c.args.vars.now) c.args.terms.now c.loop-name.terms c.type_var.new.self
    c.loop-name.invariant.grown (omega arith) c.type_var.ensures.grown (omega (arith, less))

pub loop-name-preserved : goal.loop-name-preserved
loop-name-preserved c =
    variable_added c.args.terms.now c.loop-name.terms c.type_var.new.self c.args.vars.now c.loop-name.name-index
    c.loop-name.types.items c.push.new.self.items c.name-item.result c.in_ok-type_var.field-0
    c.loop-name.invariant c.loop-name-test.true c.name-item.is
    c.type_var.ensures.grown c.in_ok-type_var.ensures.ok
    c.in_ok-push.ensures.items

pub returns-clause-types : goal.returns-clause-types
returns-clause-types c =
    let ts = c.loop-name.terms.types in
    let vars = c.args.vars.now in
    let ended : length vars ≤ c.loop-name.name-index = omega arith in
    let made = c.loop-name.invariant.made in
    all_variables ts vars c.loop-name.types.items (sym (append-nil (map (type_at ts) c.loop-name.types.items))
    ∙ ap (λ xs. map (type_at ts) c.loop-name.types.items ++ map TyVar xs)
    (sym (drop_all c.loop-name.name-index vars ended)) ∙ made)
