use Rattle.std.specs.List.{All, list_all}
use Rattle.std.proofs.Common.{Ok, ◌&&◌, subst, sym, ap, ◌∙◌}
use Rattle.ot_logic.specs.Naming.{names}
use Rattle.ot_logic.specs.Hol.{once_each}
use Rattle.ot_logic.proofs.TableLemmas.{Extends-trans}
use Rattle.ot_log_format.specs.Steps.{is_proposition}
use Rattle.ot_log_nodes.specs.Items.{HasTerm, term_at}
use Rattle.ot_log_nodes.proofs.ItemLemmas.{term-stays, still-term}
use Rattle.ot_log_rules.specs.Statements.{terms_at}
use Rattle.ot_log_rules.proofs.Cases.{refused, passed}
use Rattle.ot_log_rules.proofs.Numbers.{once-numbers, has-once}
use Rattle.ot_log_rules.proofs.Staying.{terms-stay, still-terms}
use Rattle.ot_log_rules.proofs.kept.assumption.Goals as goal

pub returns-then-not-all_pass-clause-gives : goal.returns-then-not-all_pass-clause-gives
returns-then-not-all_pass-clause-gives c =
    let ts = c.args.nodes.now in
    let p = term_at ts c.args.concl in
    let hyps = terms_at ts c.args.hyps.now in
    let first = sym c.in_ok-passes.ensures.ok ∙ c.if-not-passes.false in
    let rest =
    sym (c.in_ok-all_pass.ensures.ok
    ∙ ap (list_all (is_proposition names))
    (terms-stay ts c.is_proposition.new.nodes c.in_ok-passes.ensures.extends c.args.hyps.now c.requires.hyps))
    ∙ c.if-not-all_pass.true in
    refused (is_proposition names p && list_all (is_proposition names) hyps)
    (λ _. Ok (record { hyps = once_each names hyps; concl = p })) (λ i. first i && rest i)

pub returns-clause-gives : goal.returns-clause-gives
returns-clause-gives c =
    let ts = c.args.nodes.now in
    let us = c.are_propositions.new.nodes in
    let e = Extends-trans c.in_ok-passes.ensures.extends c.in_ok-all_pass.ensures.extends in
    let p = term_at ts c.args.concl in
    let ids = c.args.hyps.now in
    let hyps = terms_at ts ids in
    let first = sym c.in_ok-passes.ensures.ok ∙ c.if-not-passes.false in
    let rest =
    sym (c.in_ok-all_pass.ensures.ok
    ∙ ap (list_all (is_proposition names))
    (terms-stay ts c.is_proposition.new.nodes c.in_ok-passes.ensures.extends ids c.requires.hyps))
    ∙ c.if-not-all_pass.false in
    let has = still-terms ts us e ids c.requires.hyps in
    let all = ap (terms_at us) c.in_ok-hyps.ensures ∙ once-numbers us c.primitives.ensures.once ids has
    ∙ ap (once_each names) (terms-stay ts us e ids c.requires.hyps) in
    let concl = term-stays ts us e c.args.concl c.requires.concl in (
      record {
        hyps = subst (All (HasTerm us)) (sym c.in_ok-hyps.ensures) (has-once (HasTerm us) ids has);
        concl = still-term ts us e c.args.concl c.requires.concl;
      },
      passed (is_proposition names p && list_all (is_proposition names) hyps)
          (λ _. Ok (record { hyps = once_each names hyps; concl = p })) (λ i. first i && rest i)
          ∙ (λ i. Ok (record { hyps = sym all i; concl = sym concl i })),
    )
