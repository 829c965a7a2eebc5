use Rattle.std.proofs.Common.{rules, ◌≤◌, ap, sym, ◌∙◌, arith, length}
use Rattle.std.proofs.lemmas.List.{length-map}
use Rattle.ot_trace.specs.Origins.{Make, MoreOrigins, NoOrigins}
use Rattle.ot_machine.specs.Meaning.{lists_of, entry_of, article_of}
use Rattle.ot_machine.specs.Places.{top, origins_of}
use Rattle.ot_machine.proofs.Traced.{traces-on, traced-of, article-made, not-replaced, one-origin}
use Rattle.ot_machine.proofs.session.Session.make_one.Goals as goal

pub returns-in_err-operand : goal.returns-in_err-operand
returns-in_err-operand c = not-replaced _ c.in_err-operand.field-0.0 (search rules) _ _ _ _ _ _ c.requires.of
    c.in_err-operand.ensures.kept

pub returns-in_err-step : goal.returns-in_err-step
returns-in_err-step c = not-replaced _ c.in_err-step.field-0.0 (search rules) _ _ _ _ _ _ c.requires.of
    (traces-on _ _ _ c.in_ok-operand.ensures.kept c.in_err-step.ensures.kept)

pub replace-requires-clause-of : goal.replace-requires-clause-of
replace-requires-clause-of c = traced-of c.args.self.now c.made_of.new.self c.args.machine.now c.requires.of
    (traces-on _ _ _ c.in_ok-operand.ensures.kept c.in_ok-step.ensures.kept)

pub returns : goal.returns
returns c =
    let s = c.args.self.now in
    let m = c.args.machine.now in
    let stack = (article_of s m).stack in
    let le : 1 ≤ length stack =
    omega (arith, c.requires.there, m.stack.ok.0, length-map m.stack.items (entry_of s (lists_of s m))) in
    record {
      ok = article-made s c.made_of.new.self m c.replace.new.machine 1 c.args.object c.in_ok-step.step _
          (Make c.args.word (origins_of (top 1 stack)))
          c.requires.of (traces-on s c.operand_at.new.self c.made_of.new.self c.in_ok-operand.ensures.kept
          c.in_ok-step.ensures.kept)
          c.in_ok-step.ensures.made
          (ap (Make c.args.word)
          (one-origin stack le ∙ ap (λ z. MoreOrigins z NoOrigins) (sym c.in_ok-operand.ensures.made)))
          c.replace.ensures.changed;
      err = tt;
      kernel = search rules;
      run = search rules;
      trace = search rules;
      of = c.replace.ensures.of;
    }
