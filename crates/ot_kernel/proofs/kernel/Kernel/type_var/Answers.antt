use Rattle.std.proofs.Common.{◌+◌, arith}
use Rattle.ot_kernel.proofs.Growth.{Grown, terms_grown}
use Rattle.ot_kernel.proofs.Later.{held_of}
use Rattle.ot_kernel.proofs.Numbers.{type_var-ok}
use Rattle.ot_kernel.proofs.kernel.Kernel.type_var.Goals as goal

grown : (c : goal.After-type_var) → Grown c.args.self.now c.self.inside.names c.type_var.new.self
    (held_of c.self.inside)
grown c = terms_grown (c.args.name + 1) _ _ _ (held_of c.self.inside) _ c.self.view_is c.self.invariant
    c.type_var.ensures.grown (omega (arith, c.requires))

pub invariant_of-self : goal.invariant_of-self
invariant_of-self c = (grown c).kernel

pub returns-clause-keeps : goal.returns-clause-keeps
returns-clause-keeps c = (grown c).keeps

pub returns-clause-same : goal.returns-clause-same
returns-clause-same c = (grown c).same

pub returns-clause-ok : goal.returns-clause-ok
returns-clause-ok c = type_var-ok _ _ _ _ c.self.view_is c.self.invariant c.type_var.new.self _ _ c.requires
    c.type_var.ensures.ok
