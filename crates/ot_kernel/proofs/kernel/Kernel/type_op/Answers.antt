use Rattle.std.proofs.Common.{◌+◌, arith}
use Rattle.ot_kernel.proofs.Growth.{Grown, terms_grown}
use Rattle.ot_kernel.proofs.Later.{held_of}
use Rattle.ot_kernel.proofs.Numbers.{makes_op}
use Rattle.ot_kernel.proofs.kernel.Kernel.type_op.Goals as goal

grown : (c : goal.After-type_op) → Grown c.args.self.now c.self.inside.names c.type_op.new.self
    (held_of c.self.inside)
grown c = terms_grown (c.args.name + 1) _ _ _ (held_of c.self.inside) _ c.self.view_is c.self.invariant
    c.type_op.ensures.grown (omega (arith, c.requires.name))

pub invariant_of-self : goal.invariant_of-self
invariant_of-self c = (grown c).kernel

pub returns-clause-keeps : goal.returns-clause-keeps
returns-clause-keeps c = (grown c).keeps

pub returns-clause-same : goal.returns-clause-same
returns-clause-same c = (grown c).same

pub returns-clause-made : goal.returns-clause-made
returns-clause-made c = makes_op _ _ _ _ c.self.view_is c.self.invariant c.type_op.new.self _ _ _ c.requires.name
    c.requires.args c.type_op.ensures.ok c.type_op.ensures.nesting c.type_op.ensures.grown.table
