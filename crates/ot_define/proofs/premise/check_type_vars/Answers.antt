use Rattle.std.specs.List.{list_all, list_any}
use Rattle.std.proofs.Common.{ℕ, List, nat_eq, subst, refl, ◌∙◌}
use Rattle.ot_logic.specs.Faults.{TypeVarEscapes}
use Rattle.ot_logic.specs.Hol.{vars_ty}
use Rattle.ot_logic.specs.Lists.{IsSameSet}
use Rattle.ot_logic.specs.Trees.{Ty}
use Rattle.ot_logic.specs.Naming.{numbers}
use Rattle.ot_type.specs.TypeTable.{type_at}
use Rattle.ot_term.specs.TermTable.{term_at}
use Rattle.ot_laws.specs.Conditions.{keeps_type_vars}
use Rattle.ot_define.specs.Answers.{tm_at}
use Rattle.ot_define.specs.declared.fault.DefineFault.TheVariants as code
use Rattle.ot_define.proofs.Refusing.{checks-unless}
use Rattle.ot_define.proofs.Keys.{type-kept}
use Rattle.ot_define.proofs.premise.check_type_vars.Goals as goal

pub returns : goal.returns
returns c =
    let own =
    subst (λ (tys : List (Ty ℕ)). IsSameSet c.in_ok-own.own.items
    (vars_ty numbers (type_at tys c.type_of.result))) c.types.ensures.types c.in_ok-own.ensures.names in
    checks-unless c.pass_if.result c.in_ok-kept.kept (keeps_type_vars numbers (tm_at c.args.terms.now.terms c.args.t))
    code.TypeVarEscapes TypeVarEscapes refl
    (c.in_ok-kept.ensures
    ∙ (λ i. list_all (λ (n : ℕ). list_any (nat_eq n) (c.as_slice-2.ensures.value i)) (c.as_slice.ensures.value i))
    ∙ type-kept c.args.terms.now.types (term_at c.args.terms.now.terms c.args.t) c.type_of.result
    c.in_ok-all.all.items c.in_ok-own.own.items c.type_of.ensures.typed c.in_ok-all.ensures.names own)
    c.pass_if.ensures
