use Rattle.ot_kernel.proofs.Growth.{Grown, bool_grown}
use Rattle.ot_kernel.proofs.Later.{held_of}
use Rattle.ot_kernel.proofs.Numbers.{boolean-ok, boolean-within}
use Rattle.ot_kernel.proofs.kernel.Kernel.boolean.Goals as goal

grown : (c : goal.After-type_bool) → Grown c.args.self.now c.self.inside.names c.type_bool.new.self
    (held_of c.self.inside)
grown c = bool_grown _ _ _ (held_of c.self.inside) _ c.self.view_is c.self.invariant c.type_bool.ensures.grown

pub invariant_of-self : goal.invariant_of-self
invariant_of-self c = (grown c).kernel

pub returns-clause-within : goal.returns-clause-within
returns-clause-within c = boolean-within _ _ (held_of c.self.inside) _ c.self.view_is c.self.invariant
    c.type_bool.new.self _ c.type_bool.ensures.ok

pub returns-clause-ok : goal.returns-clause-ok
returns-clause-ok c = boolean-ok _ _ (held_of c.self.inside) _ c.self.view_is c.self.invariant c.type_bool.new.self _
    c.type_bool.ensures.ok

pub returns-clause-keeps : goal.returns-clause-keeps
returns-clause-keeps c = (grown c).keeps

pub returns-clause-same : goal.returns-clause-same
returns-clause-same c = (grown c).same
