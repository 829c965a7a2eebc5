use Rattle.std.proofs.lemmas.Option.{slice_get_within}
use Rattle.std.proofs.lemmas.Int.{to_z-of_z}
use Rattle.std.proofs.Common.{ap, ◌∙◌}
use Rattle.ot_trace.specs.Origins.{Number}
use Rattle.ot_machine.proofs.Traced.{traces-added, origin-added}
use Rattle.ot_machine.proofs.session.Session.number_step.Goals as goal

pub returns : goal.returns
returns c =
    let s = c.args.self.now in
    record {
      made = origin-added s (Number _) c.add.new.self c.in_ok-add.field-0 c.in_ok-add.ensures.ok
          ∙ ap Number (to_z-of_z _ _ c.ranges.number);
      inside = slice_get_within _ _ _ c.in_ok-add.ensures.ok;
      kept = traces-added s (Number _) c.add.new.self c.requires.run tt c.in_ok-add.ensures.grown;
    }
