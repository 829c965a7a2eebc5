use Rattle.std.proofs.Common.{arith}
use Rattle.ot_kernel.proofs.Growth.{Grown, terms_grown}
use Rattle.ot_kernel.proofs.Later.{held_of}
use Rattle.ot_kernel.proofs.Numbers.{makes_app, app-named}
use Rattle.ot_kernel.proofs.kernel.Kernel.app.Goals as goal

grown : (c : goal.After-app) → Grown c.args.self.now c.self.inside.names c.app.new.self
    (held_of c.self.inside)
grown c = terms_grown 0 _ _ _ (held_of c.self.inside) _ c.self.view_is c.self.invariant c.app.ensures.grown
    (omega (arith))

pub invariant_of-self : goal.invariant_of-self
invariant_of-self c = (grown c).kernel

pub returns-clause-keeps : goal.returns-clause-keeps
returns-clause-keeps c = (grown c).keeps

pub returns-clause-same : goal.returns-clause-same
returns-clause-same c = (grown c).same

pub returns-clause-made : goal.returns-clause-made
returns-clause-made c =
    makes_app _ _ _ _ c.self.view_is c.self.invariant c.app.new.self _ _ _ c.requires.f c.requires.x c.app.ensures.ok
    c.app.ensures.not_function c.app.ensures.argument_type c.app.ensures.nesting c.app.ensures.grown.table

pub returns-clause-named : goal.returns-clause-named
returns-clause-named c = app-named _ _ _ _ c.self.view_is c.self.invariant c.app.new.self _ _ _ c.requires.f
    c.requires.x c.app.ensures.ok
