use Rattle.std.proofs.lemmas.Option.{slice_get_within}
use Rattle.std.specs.Prelude.{pos}
use Rattle.ot_trace.specs.Origins.{Number, Outcome}
use Rattle.ot_trace.specs.Trace.{origin_at}
use Rattle.ot_machine.proofs.Traced.{traces-added, origin-added}
use Rattle.ot_machine.proofs.session.Session.outcome_step.Goals as goal

pub returns : goal.returns
returns c =
    let s = c.args.self.now in
    let o = Outcome c.args.place (origin_at s.trace c.args.definition) in
    record {
      made = origin-added s o c.add.new.self c.in_ok-add.field-0 c.in_ok-add.ensures.ok;
      inside = slice_get_within _ _ _ c.in_ok-add.ensures.ok;
      kept = traces-added s o c.add.new.self c.requires.run
          (c.requires.run.named c.args.definition (Number (pos 0)) c.requires.inside) c.in_ok-add.ensures.grown;
    }
