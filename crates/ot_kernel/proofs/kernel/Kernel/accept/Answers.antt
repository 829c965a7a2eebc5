use Rattle.std.proofs.Common.{map}
use Rattle.ot_term.specs.Symbols.{symbol_of}
use Rattle.ot_kernel.proofs.Accepting.{Defined, defined_now}
use Rattle.ot_kernel.proofs.Later.{held_of}
use Rattle.ot_kernel.proofs.kernel.Kernel.accept.Goals as goal
use Rattle.ot_kernel.proofs.kernel.Kernel.accept.Goals.{In_default}

added : (c : In_default) → Defined c.args.self.now c.self.inside.names c.self.inside.terms
    (record {
      theorems = c.add_to.new.theorems.items;
      assumptions = c.self.inside.assumptions.items;
      definitions = c.push.new.self.items;
      signature = c.add_to.new.signature;
      places = c.self.inside.places;
    })
    c.args.theorems.items c.args.definition
added c =
    defined_now _ _ (held_of c.self.inside) _ c.args.theorems.items _ c.args.definition _
    (map symbol_of c.args.defined.now) (map symbol_of c.args.used.now) _ c.self.view_is c.self.invariant
    c.in_default.ensures.theorems c.in_ok-push.ensures.items c.in_default.ensures.symbols c.requires

pub invariant_of-self-in_default : goal.invariant_of-self-in_default
invariant_of-self-in_default c = (added c).kernel

pub returns-clause-ok : goal.returns-clause-ok
returns-clause-ok c = (added c).state
