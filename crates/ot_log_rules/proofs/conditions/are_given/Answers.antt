use Rattle.std.specs.List.{list_all}
use Rattle.std.proofs.Common.{◌+◌, ◌&&◌, map, drop, sym, ap, subst, ◌∙◌, arith}
use Rattle.std.proofs.lemmas.List.{drop_all}
use Rattle.ot_logic.specs.Naming.{names}
use Rattle.ot_laws.specs.Conditions.{is_closed_but}
use Rattle.ot_log_nodes.specs.Items.{term_at}
use Rattle.ot_log_nodes.specs.Changing.{variable_at}
use Rattle.ot_log_rules.specs.Conditions.{IsGivenTerm, given_term, given_terms, may_be_given}
use Rattle.ot_log_rules.proofs.Numbers.{all-next_map}
use Rattle.ot_log_rules.proofs.conditions.are_given.Goals as goal

pub may_be_given-requires : goal.may_be_given-requires
may_be_given-requires c = subst (IsGivenTerm c.args.nodes.now) (sym c.item-item.is)
    (c.requires.given c.loop-item.item-index c.item-item.result c.loop-item-test.true)

pub returns-then-not-fits : goal.returns-then-not-fits
returns-then-not-fits c =
    let ts = c.args.nodes.now in
    let closed = is_closed_but names (map (variable_at ts) c.args.vars.now) (term_at ts c.args.concl) in
    let rest = list_all (may_be_given names) (given_terms ts (drop (c.loop-item.item-index + 1) c.args.given.now)) in
    sym (ap (λ b. b && closed)
    (c.loop-item.invariant ∙ all-next_map (may_be_given names) (given_term ts) c.args.given.now
    c.loop-item.item-index c.item-item.result c.in_ok-fits.fits c.loop-item-test.true c.item-item.is
    c.in_ok-fits.ensures ∙ ap (λ b. b && rest) c.if-not-fits.true))

pub loop-item-preserved : goal.loop-item-preserved
loop-item-preserved c =
    let ts = c.args.nodes.now in
    let rest = list_all (may_be_given names) (given_terms ts (drop (c.loop-item.item-index + 1) c.args.given.now)) in
    c.loop-item.invariant ∙ all-next_map (may_be_given names) (given_term ts) c.args.given.now c.loop-item.item-index
    c.item-item.result c.in_ok-fits.fits c.loop-item-test.true c.item-item.is c.in_ok-fits.ensures
    ∙ ap (λ b. b && rest) c.if-not-fits.false

pub returns : goal.returns
returns c =
    let ts = c.args.nodes.now in
    let closed = is_closed_but names (map (variable_at ts) c.args.vars.now) (term_at ts c.args.concl) in
    let all = c.loop-item.invariant ∙ ap (λ l. list_all (may_be_given names) (given_terms ts l))
    (drop_all c.loop-item.item-index c.args.given.now (omega arith)) in
    c.is_closed_but.ensures (term_at ts c.args.concl) c.in_ok-parts.ensures ∙ sym (ap (λ b. b && closed) all)
