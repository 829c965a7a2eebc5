use Rattle.std.proofs.Common.{rules, ◌≤◌, ap, sym, ◌∙◌, arith, length}
use Rattle.std.proofs.lemmas.List.{length-map}
use Rattle.ot_trace.specs.Origins.{Make, MoreOrigins, NoOrigins}
use Rattle.ot_machine.specs.Meaning.{lists_of, entry_of, article_of}
use Rattle.ot_machine.specs.Places.{top, origins_of}
use Rattle.ot_machine.specs.Rows.{origin_at}
use Rattle.ot_machine.proofs.Traced.{traces-on, traced-article, traced-of, traced-origin}
use Rattle.ot_machine.proofs.Traced.{article-made, not-replaced, two-origins}
use Rattle.ot_machine.proofs.session.Session.make_two.Goals as goal

pub operand_at-requires-2-clause-of : goal.operand_at-requires-2-clause-of
operand_at-requires-2-clause-of c = traced-of c.args.self.now c.operand_at.new.self c.args.machine.now
    c.requires.of c.in_ok-upper.ensures.kept

pub returns-in_err-upper : goal.returns-in_err-upper
returns-in_err-upper c = not-replaced _ c.in_err-upper.field-0.0 (search rules) _ _ _ _ _ _ c.requires.of
    c.in_err-upper.ensures.kept

pub returns-in_err-lower : goal.returns-in_err-lower
returns-in_err-lower c = not-replaced _ c.in_err-lower.field-0.0 (search rules) _ _ _ _ _ _ c.requires.of
    (traces-on _ _ _ c.in_ok-upper.ensures.kept c.in_err-lower.ensures.kept)

pub returns-in_err-step : goal.returns-in_err-step
returns-in_err-step c = not-replaced _ c.in_err-step.field-0.0 (search rules) _ _ _ _ _ _ c.requires.of
    (traces-on _ _ _ (traces-on _ _ _ c.in_ok-upper.ensures.kept c.in_ok-lower.ensures.kept)
    c.in_err-step.ensures.kept)

pub replace-requires-clause-of : goal.replace-requires-clause-of
replace-requires-clause-of c = traced-of c.args.self.now c.made_of.new.self c.args.machine.now c.requires.of
    (traces-on _ _ _ (traces-on _ _ _ c.in_ok-upper.ensures.kept c.in_ok-lower.ensures.kept)
    c.in_ok-step.ensures.kept)

pub returns : goal.returns
returns c =
    let s = c.args.self.now in
    let m = c.args.machine.now in
    let stack = (article_of s m).stack in
    let le : 2 ≤ length stack =
    omega (arith, c.requires.there, m.stack.ok.0, length-map m.stack.items (entry_of s (lists_of s m))) in
    let one = c.in_ok-upper.ensures.kept in
    let two = c.in_ok-lower.ensures.kept in
    let upper = traced-origin c.operand_at.new.self c.operand_at-2.new.self one.is_run two c.in_ok-upper.upper
    c.in_ok-upper.ensures.inside ∙ c.in_ok-upper.ensures.made in
    let lower = c.in_ok-lower.ensures.made
    ∙ ap (λ a. origin_at 1 a.stack) (traced-article s c.operand_at.new.self m c.requires.of one) in
    record {
      ok = article-made s c.made_of.new.self m c.replace.new.machine 2 c.args.object c.in_ok-step.step _
          (Make c.args.word (origins_of (top 2 stack)))
          c.requires.of (traces-on s c.operand_at-2.new.self c.made_of.new.self
          (traces-on s c.operand_at.new.self c.operand_at-2.new.self one two) c.in_ok-step.ensures.kept)
          c.in_ok-step.ensures.made
          (ap (Make c.args.word)
          (two-origins stack le ∙ (λ i. MoreOrigins (sym lower i) (MoreOrigins (sym upper i) NoOrigins))))
          c.replace.ensures.changed;
      err = tt;
      kernel = search rules;
      run = search rules;
      trace = search rules;
      of = c.replace.ensures.of;
    }
