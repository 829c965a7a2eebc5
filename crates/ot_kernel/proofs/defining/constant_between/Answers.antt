use Rattle.ot_logic.specs.Hol.{fun_ty}
use Rattle.ot_logic.specs.Naming.{numbers}
use Rattle.ot_type.specs.TypeTable.{type_at}
use Rattle.ot_kernel.proofs.NewTypes.{constant_made}
use Rattle.ot_kernel.proofs.defining.constant_between.Goals as goal

pub returns-clause-makes : goal.returns-clause-makes
returns-clause-makes c =
    let ts = c.args.terms.now.types in
    constant_made c.type_fun.new.self c.constant.new.self c.in_ok-constant.field-0 c.args.name c.in_ok-ty.ty
    (fun_ty numbers (type_at ts c.args.from) (type_at ts c.args.to)) c.in_ok-ty.ensures.ok
    c.constant.ensures.grown.table c.in_ok-constant.ensures.ok
