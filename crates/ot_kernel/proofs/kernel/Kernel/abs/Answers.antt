use Rattle.std.proofs.Common.{◌+◌, arith, max}
use Rattle.ot_kernel.proofs.Growth.{Grown, terms_grown}
use Rattle.ot_kernel.proofs.Later.{held_of}
use Rattle.ot_kernel.proofs.Numbers.{makes_abs, abs-named}
use Rattle.ot_kernel.proofs.kernel.Kernel.abs.Goals as goal

grown : (c : goal.After-abs) → Grown c.args.self.now c.self.inside.names c.abs.new.self
    (held_of c.self.inside)
grown c = terms_grown (max (c.args.v.name + 1) 1) _ _ _ (held_of c.self.inside) _ c.self.view_is c.self.invariant
    c.abs.ensures.grown (omega (arith, c.requires.name))

pub invariant_of-self : goal.invariant_of-self
invariant_of-self c = (grown c).kernel

pub returns-clause-keeps : goal.returns-clause-keeps
returns-clause-keeps c = (grown c).keeps

pub returns-clause-same : goal.returns-clause-same
returns-clause-same c = (grown c).same

pub returns-clause-made : goal.returns-clause-made
returns-clause-made c =
    makes_abs _ _ _ _ c.self.view_is c.self.invariant c.abs.new.self _ _ _ c.requires.name c.requires.ty
    c.requires.body c.abs.ensures.ok c.abs.ensures.nesting c.abs.ensures.grown.table

pub returns-clause-named : goal.returns-clause-named
returns-clause-named c = abs-named _ _ _ _ c.self.view_is c.self.invariant c.abs.new.self _ _ _ c.requires.name
    c.requires.ty c.requires.body c.abs.ensures.ok
