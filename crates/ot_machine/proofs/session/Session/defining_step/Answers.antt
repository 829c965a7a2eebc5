use Rattle.std.proofs.lemmas.Option.{slice_get_within}
use Rattle.ot_machine.proofs.Traced.{traces-defined, origin-defined}
use Rattle.ot_machine.proofs.session.Session.defining_step.Goals as goal

pub returns : goal.returns
returns c =
    let s = c.args.self.now in
    record {
      made = origin-defined s c.args.word c.args.operands.now c.define.new.self c.in_ok-define.field-0
          c.in_ok-define.ensures.ok;
      inside = slice_get_within _ _ _ c.in_ok-define.ensures.ok;
      kept = traces-defined s c.args.word c.args.operands.now c.define.new.self c.requires.run c.requires.inside
          c.in_ok-define.ensures.grown;
    }
