use Rattle.std.specs.Prelude.{◌==◌}
use Rattle.std.proofs.Common.{◌&&◌, length, map, nat_eq, refl}
use Rattle.ot_logic.specs.Faults.{BadDefinitionList}
use Rattle.ot_logic.specs.Hol.{same_var}
use Rattle.ot_logic.specs.Naming.{numbers}
use Rattle.ot_term.specs.TermTable.{variable_of}
use Rattle.ot_laws.specs.Conditions.{are_distinct}
use Rattle.ot_define.specs.declared.fault.DefineFault.TheVariants as code
use Rattle.ot_define.proofs.Refusing.{checks-unless}
use Rattle.ot_define.proofs.lists.check_pairs.Goals as goal

pub returns : goal.returns
returns c =
    checks-unless c.pass_if.result c.in_ok-paired.paired
    (are_distinct nat_eq c.args.names.now && are_distinct (same_var numbers)
    (map (variable_of c.args.terms.now.types) c.args.vars.now)
    && (length c.args.hyps.now == length c.args.vars.now))
    code.BadDefinitionList BadDefinitionList refl c.in_ok-paired.ensures c.pass_if.ensures
