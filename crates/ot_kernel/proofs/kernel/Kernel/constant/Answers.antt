use Rattle.std.proofs.Common.{◌+◌, arith}
use Rattle.ot_kernel.proofs.Growth.{Grown, terms_grown}
use Rattle.ot_kernel.proofs.Later.{held_of}
use Rattle.ot_kernel.proofs.Numbers.{constant-ok, within-ok}
use Rattle.ot_kernel.proofs.kernel.Kernel.constant.Goals as goal

grown : (c : goal.After-constant) → Grown c.args.self.now c.self.inside.names c.constant.new.self
    (held_of c.self.inside)
grown c = terms_grown (c.args.name + 1) _ _ _ (held_of c.self.inside) _ c.self.view_is c.self.invariant
    c.constant.ensures.grown (omega (arith, c.requires.name))

pub invariant_of-self : goal.invariant_of-self
invariant_of-self c = (grown c).kernel

pub returns-clause-keeps : goal.returns-clause-keeps
returns-clause-keeps c = (grown c).keeps

pub returns-clause-same : goal.returns-clause-same
returns-clause-same c = (grown c).same

pub returns-clause-within : goal.returns-clause-within
returns-clause-within c =
    within-ok _ _ _ _ c.self.view_is c.self.invariant c.constant.new.self _ _ c.constant.ensures.ok

pub returns-clause-ok : goal.returns-clause-ok
returns-clause-ok c = constant-ok _ _ _ _ c.self.view_is c.self.invariant c.constant.new.self _ _ _ c.requires.name
    c.requires.ty c.constant.ensures.ok
