use Rattle.std.specs.Prelude.{Ok}
use Rattle.std.proofs.Common.{rules, sym, ◌∙◌}
use Rattle.ot_logic.specs.RanOut.{ran_out}
use Rattle.ot_machine.specs.declared.object.List.TheVariants as lists
use Rattle.ot_machine.specs.declared.object.Object.TheVariants as objects
use Rattle.ot_machine.specs.declared.fault.Fault.TheVariants as code
use Rattle.ot_machine.proofs.Kept.{traces-grow}
use Rattle.ot_machine.proofs.Traced.{traced-article, traced-of, article-pushed}
use Rattle.ot_machine.proofs.Turning.{refused-turn}
use Rattle.ot_machine.proofs.rows.stack.nil.Goals as goal

pub push-requires-clause-of : goal.push-requires-clause-of
push-requires-clause-of c =
    traced-of c.args.session.now c.made_of.new.self c.args.machine.now c.requires c.in_ok-step.ensures.kept

pub returns-in_err-step : goal.returns-in_err-step
returns-in_err-step c =
    let s = c.args.session.now in
    let m = c.args.machine.now in
    let t = c.made_of.new.self in
    let kept = c.in_err-step.ensures.kept in
    refused-turn _ (code.Memory ran_out) _ s m t m (search rules)
    (λ i. record { article = traced-article s t m c.requires kept i; run = kept.run i }) (tt, λ f e. cc)
    (traces-grow s t kept) (traced-of s t m c.requires kept)

pub returns-in_err-push : goal.returns-in_err-push
returns-in_err-push c =
    let s = c.args.session.now in
    let m = c.args.machine.now in
    let t = c.made_of.new.self in
    let kept = c.in_ok-step.ensures.kept in
    refused-turn _ (code.Memory ran_out) _ s m t c.push.new.machine (search rules)
    (λ i. record { article = (c.in_err-push.ensures.err ∙ traced-article s t m c.requires kept) i; run = kept.run i })
    (tt, λ f e. cc) (traces-grow s t kept) c.in_err-push.ensures.of

pub returns : goal.returns
returns c =
    let kept = c.in_ok-step.ensures.kept in
    let article = article-pushed c.args.session.now c.made_of.new.self c.args.machine.now
    c.push.new.machine (objects.List lists.Nil) c.in_ok-step.step _ c.requires kept c.in_ok-step.ensures.made
    c.in_ok-push.ensures.ok in
    record {
      moves = λ i. Ok (record { article = sym article i; run = sym kept.run i });
      grown = traces-grow _ _ kept;
      of = c.in_ok-push.ensures.of;
    }
