use Rattle.ot_kernel.proofs.Growth.{Grown, names_grown}
use Rattle.ot_kernel.proofs.kernel.Kernel.intern.Goals as goal

grown : (c : goal.After-intern) → Grown c.args.self.now c.intern.new.self c.self.inside.terms
    (record {
      theorems = c.self.inside.theorems.items;
      assumptions = c.self.inside.assumptions.items;
      definitions = c.self.inside.definitions.items;
      signature = c.self.inside.signature;
      places =
          c.self.inside.places;
    })
grown c = names_grown _ _ _ _ _ c.self.view_is c.self.invariant c.intern.ensures.extends c.intern.ensures.table

pub invariant_of-self : goal.invariant_of-self
invariant_of-self c = (grown c).kernel

pub returns-clause-keeps : goal.returns-clause-keeps
returns-clause-keeps c = (grown c).keeps

pub returns-clause-same : goal.returns-clause-same
returns-clause-same c = (grown c).same
