use Rattle.std.proofs.Common.{rules, List, ℕ, sym, subst}
use Rattle.ot_kernel.specs.Places.{ArePlaces}
use Rattle.ot_kernel.proofs.Placing.{no_places}
use Rattle.ot_kernel.proofs.kernel.Kernel.new.Goals as goal

pub invariant_of-result : goal.invariant_of-result
invariant_of-result c =
    let none = no_places c.new-2.result.classes c.new-3.result.items c.new-5.result c.new-5.ensures.empty in
    record {
      names = search rules;
      types = search rules;
      terms = search rules;
      table = search rules;
      inside = search rules;
      numbered = search rules;
      accepted = search rules;
      signature = search rules;
      placed = subst (λ (is : List ℕ). ArePlaces c.new-2.result.classes c.new-3.result.items is c.new-5.result)
          (sym c.new-4.ensures.items) none;
      sound = record {
        theorems = search (rules, c.new-3.ensures.items, c.new-4.ensures.items, c.new-6.ensures.items);
        assumptions = search (rules, c.new-4.ensures.items);
        accepted = search (rules, c.new-4.ensures.items, c.new-6.ensures.items);
        names = search rules;
        apart = search (rules, c.new-4.ensures.items);
      };
    }
