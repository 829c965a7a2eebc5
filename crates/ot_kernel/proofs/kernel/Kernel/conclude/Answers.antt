use Rattle.std.proofs.Common.{ap, length, arith}
use Rattle.std.proofs.lemmas.List.{length-map}
use Rattle.ot_kernel.specs.State.{State}
use Rattle.ot_kernel.specs.Spelled.{sequent_of, state_of}
use Rattle.ot_kernel.proofs.Theorems.{Pushed, pushed}
use Rattle.ot_kernel.proofs.kernel.Kernel.conclude.Goals as goal

grown : (c : goal.In_ok-push) → Pushed c.args.self.now c.self.inside.names c.self.inside.terms
    (record {
      theorems = c.push.new.self.items;
      assumptions = c.self.inside.assumptions.items;
      definitions = c.self.inside.definitions.items;
      signature = c.self.inside.signature;
      places =
          c.self.inside.places;
    }) c.args.th
grown c = pushed _ _ _ _ _ _ c.self.view_is c.self.invariant c.in_ok-push.ensures.items c.requires.inside
    c.requires.follows

pub invariant_of-self-2 : goal.invariant_of-self-2
invariant_of-self-2 c = (grown c).kernel

pub returns-clause-ok : goal.returns-clause-ok
returns-clause-ok c =
    let e = ap (λ (s : State). length s.theorems) c.self.view_is in
    let d = length-map
    c.self.inside.theorems.items (sequent_of (state_of c.self.inside.names c.self.inside.terms
    (record {
      theorems = c.self.inside.theorems.items;
      assumptions = c.self.inside.assumptions.items;
      definitions = c.self.inside.definitions.items;
      signature = c.self.inside.signature;
      places =
          c.self.inside.places;
    })).terms) in
    ((grown c).state, omega (arith, e, d, c.len.ensures, c.self.inside.theorems.ok.0))
