use Rattle.std.specs.Prelude.{◌+◌}
use Rattle.ot_term.proofs.TypesGrow.{TypesGrown, types_grown}
use Rattle.ot_term.proofs.table.Terms.type_var.Goals as goal

grown : (c : goal.After-var) → TypesGrown c.self.inside.types c.self.inside.classes c.self.inside.nodes.entries
    c.args.self.now c.var.new.self
grown c = types_grown _ _ _ _ _ c.self.view_is c.self.invariant c.var.ensures.extends c.var.ensures.table

pub invariant_of-self : goal.invariant_of-self
invariant_of-self c = (grown c).sound

pub returns-clause-terms : goal.returns-clause-terms
returns-clause-terms c = (grown c).terms

pub returns-clause-grown : goal.returns-clause-grown
returns-clause-grown c = (grown c).grown (c.args.name + 1) c.var.ensures.names
