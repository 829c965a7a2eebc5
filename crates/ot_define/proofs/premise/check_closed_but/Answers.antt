use Rattle.std.specs.List.{list_all, list_any}
use Rattle.std.proofs.Common.{map, refl, ap, ◌∙◌}
use Rattle.ot_logic.specs.Faults.{NotClosed}
use Rattle.ot_logic.specs.Naming.{numbers}
use Rattle.ot_term.specs.declared.term.VarKey.{VarKey}
use Rattle.ot_term.specs.TermTable.{variable_of}
use Rattle.ot_term.proofs.Distinct.{key_eq, key-is}
use Rattle.ot_laws.specs.Conditions.{is_closed_but}
use Rattle.ot_define.specs.Answers.{tm_at}
use Rattle.ot_define.specs.declared.fault.DefineFault.TheVariants as code
use Rattle.ot_define.proofs.Refusing.{checks-unless}
use Rattle.ot_define.proofs.Keys.{closed-keys}
use Rattle.ot_define.proofs.premise.check_closed_but.Goals as goal

pub are_among-requires : goal.are_among-requires
are_among-requires c = key-is

pub returns : goal.returns
returns c =
    let tys = c.args.terms.now.types in
    let t = tm_at c.args.terms.now.terms c.args.t in
    checks-unless c.pass_if.result c.in_ok-closed.closed
    (is_closed_but numbers (map (variable_of tys) c.args.vars.now) t) code.NotClosed NotClosed refl
    (c.in_ok-closed.ensures ∙ ap (list_all (λ (v : VarKey). list_any (key_eq v) c.args.vars.now))
    c.as_slice.ensures.value ∙ closed-keys tys c.types-types.ensures.table.types.injective c.in_ok-free.free.items
    c.args.vars.now t c.in_ok-free.ensures.within c.requires.vars c.in_ok-free.ensures.free)
    c.pass_if.ensures
