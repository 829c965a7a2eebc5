use Rattle.std.proofs.Common.{[], ◌∷◌, ◌++◌, ap, refl, ◌∙◌}
use Rattle.ot_log_nodes.specs.Items.{term_at}
use Rattle.ot_log_rules.proofs.Cases.{assume-refused, assume-made}
use Rattle.ot_log_rules.proofs.rules.assume.Goals as goal

pub returns-then-not-passes-clause-gives : goal.returns-then-not-passes-clause-gives
returns-then-not-passes-clause-gives c = assume-refused (term_at c.args.nodes.now c.args.p) c.in_ok-passes.passes
    c.in_ok-passes.ensures.ok c.if-not-passes.true

pub returns-clause-gives : goal.returns-clause-gives
returns-clause-gives c =
    assume-made c.args.nodes.now c.is_proposition.new.nodes c.in_ok-passes.ensures.extends c.args.p
    c.in_ok-passes.passes (record { hyps = c.push.new.self; concl = c.args.p }) c.requires.p
    c.in_ok-passes.ensures.ok c.if-not-passes.false
    (c.in_ok-push.ensures.items ∙ ap (λ l. l ++ c.args.p ∷ []) c.new-hyps.ensures.items) refl
