use Rattle.std.specs.List.{list_all, list_any}
use Rattle.std.proofs.Common.{◌&&◌, ℕ, nat_eq, refl, ap, ◌∙◌}
use Rattle.std.proofs.lemmas.Bool.Decides.{Decides-eqb}
use Rattle.ot_logic.specs.Faults.{BadTypeVars}
use Rattle.ot_logic.specs.Hol.{vars_tm}
use Rattle.ot_logic.specs.Naming.{numbers}
use Rattle.ot_laws.proofs.Sets.{same_set-self}
use Rattle.ot_laws.specs.Conditions.{are_distinct, are_names_of}
use Rattle.ot_define.specs.Answers.{tm_at}
use Rattle.ot_define.specs.declared.fault.DefineFault.TheVariants as code
use Rattle.ot_laws.proofs.Membership.{part-same_set}
use Rattle.ot_define.proofs.Refusing.{checks-unless}
use Rattle.ot_define.proofs.types.check_listed.Goals as goal

pub returns : goal.returns
returns c =
    let vars = c.args.vars.now in
    let all = vars_tm numbers (tm_at c.args.terms.now.terms c.args.t) in
    let listed =
    c.in_ok-listed.ensures
    ∙ ap (list_all (λ (n : ℕ). list_any (nat_eq n) vars)) c.as_slice.ensures.value
    ∙ part-same_set nat_eq Decides-eqb c.in_ok-occurring.occurring.items all vars vars c.in_ok-occurring.ensures.names
    (same_set-self vars) in
    checks-unless c.pass_if.result (c.in_ok-distinct.distinct && c.in_ok-listed.listed)
    (are_distinct nat_eq vars && are_names_of numbers all vars) code.BadTypeVars BadTypeVars refl
    (λ i. c.in_ok-distinct.ensures i && listed i) c.pass_if.ensures
