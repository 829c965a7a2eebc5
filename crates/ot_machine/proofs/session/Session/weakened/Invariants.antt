use Rattle.std.proofs.Common.{◌≡◌, ◌<◌, drop, length, map}
use Rattle.ot_kernel.specs.State.{term_at}
use Rattle.ot_machine.specs.Rows.{theorem_entry}
use Rattle.ot_machine.specs.Discharge.{weakened}
use Rattle.ot_machine.specs.Assumptions.{term_entries}
use Rattle.ot_machine.specs.Contexts.{given_of}
use Rattle.ot_machine.specs.Meaning.{origin_of}
use Rattle.ot_machine.specs.Stays.{Stays}
use Rattle.ot_machine.proofs.session.Session.weakened.Given as goal

abbrev pub invariant-loop-hyp : goal.invariant-loop-hyp
invariant-loop-hyp l =
    let k = l.fn.self.kernel in
    record {
      stays : Stays l.fn.self l.self;
      theorem : l.weaker.th < length l.self.kernel.theorems;
      step : l.weaker.step < length l.self.trace;
      rest : l.rest < length l.self.trace;
      so_far : weakened (term_entries (map (term_at k) (drop l.hyp-index l.hyps)) (origin_of l.self l.rest))
          (theorem_entry (given_of l.self l.weaker))
          ≡ weakened (term_entries (map (term_at k) l.hyps) (origin_of l.fn.self l.fn.list_step))
          (theorem_entry (given_of l.fn.self l.fn.given));
    }
