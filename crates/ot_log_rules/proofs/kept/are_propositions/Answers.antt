use Rattle.std.specs.List.{list_all}
use Rattle.std.specs.Prelude.{◌&&◌}
use Rattle.std.proofs.Common.{◌+◌, drop, sym, ap, ◌∙◌, subst}
use Rattle.ot_logic.specs.Naming.{names}
use Rattle.ot_logic.proofs.TableLemmas.{Extends-trans}
use Rattle.ot_log_format.specs.Steps.{is_proposition}
use Rattle.ot_log_nodes.specs.Items.{HasTerm}
use Rattle.ot_log_nodes.proofs.ItemLemmas.{still-term, term-stays}
use Rattle.ot_log_rules.specs.Statements.{terms_at}
use Rattle.ot_log_rules.proofs.Numbers.{all-next}
use Rattle.ot_log_rules.proofs.kept.are_propositions.Goals as goal

pub is_proposition-requires-clause-id : goal.is_proposition-requires-clause-id
is_proposition-requires-clause-id c =
    still-term c.args.nodes.now c.loop-id.nodes c.loop-id.invariant.extends c.id-item.result
    (subst (HasTerm c.args.nodes.now) (sym c.id-item.is)
    (c.requires.ids c.loop-id.id-index c.id-item.result c.loop-id-test.true))

pub returns-then-not-passes-clause-ok : goal.returns-then-not-passes-clause-ok
returns-then-not-passes-clause-ok c =
    let ts = c.args.nodes.now in
    let here = subst (HasTerm ts) (sym c.id-item.is)
    (c.requires.ids c.loop-id.id-index c.id-item.result c.loop-id-test.true) in
    let test = c.in_ok-passes.ensures.ok ∙ ap (is_proposition names)
    (term-stays ts c.loop-id.nodes c.loop-id.invariant.extends c.id-item.result here) in
    let rest = list_all (is_proposition names) (terms_at ts (drop (c.loop-id.id-index + 1) c.args.ids.now)) in
    sym (c.loop-id.invariant.all ∙ all-next (is_proposition names) ts c.args.ids.now c.loop-id.id-index
    c.id-item.result c.in_ok-passes.passes c.loop-id-test.true c.id-item.is test
    ∙ ap (λ b. b && rest) c.if-not-passes.true)

pub loop-id-preserved : goal.loop-id-preserved
loop-id-preserved c =
    let ts = c.args.nodes.now in
    let here = subst (HasTerm ts) (sym c.id-item.is)
    (c.requires.ids c.loop-id.id-index c.id-item.result c.loop-id-test.true) in
    let test = c.in_ok-passes.ensures.ok ∙ ap (is_proposition names)
    (term-stays ts c.loop-id.nodes c.loop-id.invariant.extends c.id-item.result here) in
    let rest = list_all (is_proposition names) (terms_at ts (drop (c.loop-id.id-index + 1) c.args.ids.now)) in
    record {
      extends = Extends-trans c.loop-id.invariant.extends c.in_ok-passes.ensures.extends;
      known = c.in_ok-passes.ensures.known;
      all = c.loop-id.invariant.all ∙ all-next (is_proposition names) ts c.args.ids.now c.loop-id.id-index
          c.id-item.result c.in_ok-passes.passes c.loop-id-test.true c.id-item.is test
          ∙ ap (λ b. b && rest) c.if-not-passes.false;
    }
