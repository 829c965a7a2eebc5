use Rattle.std.proofs.Common.{rules, ap, sym}
use Rattle.ot_kernel.specs.State.{name_at}
use Rattle.ot_trace.specs.Origins.{Named, Make, MoreOrigins, NoOrigins}
use Rattle.ot_machine.proofs.Traced.{traces-on, traced-of, article-made, not-replaced}
use Rattle.ot_machine.proofs.session.Session.make_symbol.Goals as goal

pub returns-in_err-operand : goal.returns-in_err-operand
returns-in_err-operand c = not-replaced _ c.in_err-operand.field-0.0 (search rules) _ _ _ _ _ _ c.requires.of
    c.in_err-operand.ensures.kept

pub returns-in_err-step : goal.returns-in_err-step
returns-in_err-step c = not-replaced _ c.in_err-step.field-0.0 (search rules) _ _ _ _ _ _ c.requires.of
    (traces-on _ _ _ c.in_ok-operand.ensures.kept c.in_err-step.ensures.kept)

pub replace-requires-clause-of : goal.replace-requires-clause-of
replace-requires-clause-of c = traced-of c.args.self.now c.made_of.new.self c.args.machine.now c.requires.of
    (traces-on _ _ _ c.in_ok-operand.ensures.kept c.in_ok-step.ensures.kept)

pub returns : goal.returns
returns c =
    let s = c.args.self.now in
    let origin = Make c.args.word (MoreOrigins (Named (name_at s.kernel c.args.name)) NoOrigins) in
    record {
      ok = article-made s c.made_of.new.self c.args.machine.now c.replace.new.machine 1 c.args.object
          c.in_ok-step.step _ origin c.requires.of
          (traces-on s c.name_step.new.self c.made_of.new.self c.in_ok-operand.ensures.kept
          c.in_ok-step.ensures.kept)
          c.in_ok-step.ensures.made
          (ap (λ o. Make c.args.word (MoreOrigins o NoOrigins)) (sym c.in_ok-operand.ensures.made))
          c.replace.ensures.changed;
      err = tt;
      kernel = search rules;
      run = search rules;
      trace = search rules;
      of = c.replace.ensures.of;
    }
