use Rattle.ot_text.specs.Pages.{printed}
use Rattle.ot_text.proofs.Putting.{Leaves}
use Rattle.ot_uses.specs.Ready.{theorem_steps, IsReady}
use Rattle.ot_uses.proofs.Exports.{rest_text}
use Rattle.ot_uses.proofs.text.put_each.Given as goal

abbrev pub invariant-loop-i : goal.invariant-loop-i
invariant-loop-i l = record {
  put : Leaves (rest_text l.session l.exports l.i) (rest_text l.session l.exports 0) (printed l.initial.page)
      (printed l.page);
  ready : IsReady l.session (theorem_steps l.exports) l.leads;
}
