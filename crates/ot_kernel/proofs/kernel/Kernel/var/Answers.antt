use Rattle.std.proofs.Common.{◌+◌, arith}
use Rattle.ot_kernel.proofs.Growth.{Grown, terms_grown}
use Rattle.ot_kernel.proofs.Later.{held_of}
use Rattle.ot_kernel.proofs.Numbers.{var-ok, within-ok}
use Rattle.ot_kernel.proofs.kernel.Kernel.var.Goals as goal

grown : (c : goal.After-var) → Grown c.args.self.now c.self.inside.names c.var.new.self
    (held_of c.self.inside)
grown c = terms_grown (c.args.v.name + 1) _ _ _ (held_of c.self.inside) _ c.self.view_is c.self.invariant
    c.var.ensures.grown (omega (arith, c.requires.name))

pub invariant_of-self : goal.invariant_of-self
invariant_of-self c = (grown c).kernel

pub returns-clause-keeps : goal.returns-clause-keeps
returns-clause-keeps c = (grown c).keeps

pub returns-clause-same : goal.returns-clause-same
returns-clause-same c = (grown c).same

pub returns-clause-within : goal.returns-clause-within
returns-clause-within c = within-ok _ _ _ _ c.self.view_is c.self.invariant c.var.new.self _ _ c.var.ensures.ok

pub returns-clause-ok : goal.returns-clause-ok
returns-clause-ok c = var-ok _ _ _ _ c.self.view_is c.self.invariant c.var.new.self _ _ c.requires.name c.requires.ty
    c.var.ensures.ok
