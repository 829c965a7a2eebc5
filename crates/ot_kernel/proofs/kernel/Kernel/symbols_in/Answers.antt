use Rattle.ot_kernel.proofs.Later.{unchanged}
use Rattle.ot_kernel.proofs.Occurring.{symbols-found, symbols-below}
use Rattle.ot_kernel.proofs.kernel.Kernel.symbols_in.Goals as goal

pub returns-clause-symbols : goal.returns-clause-symbols
returns-clause-symbols c = symbols-found (unchanged _ _ _ _ c.self.view_is c.self.invariant) c.args.ids.now c.requires
    (λ v. v.items) c.symbols_of.result c.symbols_of.ensures

pub returns-clause-below : goal.returns-clause-below
returns-clause-below c = symbols-below (unchanged _ _ _ _ c.self.view_is c.self.invariant) c.args.ids.now c.requires
    (λ v. v.items) c.symbols_of.result c.symbols_of.ensures
