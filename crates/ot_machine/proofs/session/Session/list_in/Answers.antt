use Rattle.std.proofs.Common.{ap}
use Rattle.ot_machine.specs.Parts.{or_bad, bad_list}
use Rattle.ot_machine.proofs.Elements.{list-other}
use Rattle.ot_machine.proofs.Refusals.{refuses-named}
use Rattle.ot_machine.proofs.session.Session.list_in.Goals as goal

pub returns-in_default : goal.returns-in_default
returns-in_default c =
    let k = c.args.self.now.kernel in
    record {
      read = λ cs. refuses-named k c.bad.result (bad_list c.args.form) _ c.bad.ensures.named (c.bad.ensures.symbol k)
          (ap (or_bad (bad_list c.args.form))
          (list-other k cs c.args.object c.in_default.not-List));
      inside = λ n h. tt;
    }
