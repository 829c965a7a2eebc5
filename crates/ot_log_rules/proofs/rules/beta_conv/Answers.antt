use Rattle.std.proofs.Common.{[], subst, ◌∙◌}
use Rattle.ot_logic.specs.Names.{Name}
use Rattle.ot_logic.specs.Naming.{names}
use Rattle.ot_logic.specs.Trees.{Tm}
use Rattle.ot_logic.specs.Hol.{equation, opened}
use Rattle.ot_logic.proofs.TableLemmas.{Extends-trans}
use Rattle.ot_log_nodes.specs.Items.{IsTerm, term_at}
use Rattle.ot_log_nodes.specs.Typing.{IsTyping}
use Rattle.ot_log_nodes.proofs.ItemLemmas.{has-term, term-is, type-stays, term-stays, still-type, still-term}
use Rattle.ot_log_nodes.proofs.TypingLemmas.{typings-grown}
use Rattle.ot_log_rules.proofs.Cases.{no-typing, beta-no_app, beta-no_abs, beta-ill_typed, beta-made}
use Rattle.ot_log_rules.proofs.rules.beta_conv.Goals as goal

pub returns-in_default-clause-gives : goal.returns-in_default-clause-gives
returns-in_default-clause-gives c = beta-no_app c.args.nodes.now c.args.t c.in_default.ensures

pub returns-in_default-as_abs-clause-gives : goal.returns-in_default-as_abs-clause-gives
returns-in_default-as_abs-clause-gives c = beta-no_abs c.args.nodes.now c.args.t c.in-Some.redex.0 c.in-Some.redex.1
    c.in-Some.ensures c.in_default-as_abs.ensures

pub returns-in_default-typing-clause-gives : goal.returns-in_default-typing-clause-gives
returns-in_default-typing-clause-gives c =
    let t = term_at c.args.nodes.now c.args.t in
    beta-ill_typed c.args.nodes.now c.args.t c.in-Some.redex.0 c.in-Some.redex.1 c.in-Some-as_abs.function.0
    c.in-Some-as_abs.function.1 c.in-Some.ensures c.in-Some-as_abs.ensures
    (no-typing c.typing_of.new.nodes [] t c.in_ok-typing.typing c.in_ok-typing.ensures.ok
    c.in_default-typing.not-Some)

pub opened-requires-clause-body : goal.opened-requires-clause-body
opened-requires-clause-body c = still-term c.args.nodes.now c.typing_of.new.nodes c.in_ok-typing.ensures.extends
    c.in-Some-as_abs.function.1 c.in-Some-as_abs.ensures.body

pub opened-requires-clause-argument : goal.opened-requires-clause-argument
opened-requires-clause-argument c = still-term c.args.nodes.now c.typing_of.new.nodes c.in_ok-typing.ensures.extends
    c.in-Some.redex.1 c.in-Some.ensures.x

pub equation-requires-clause-ty : goal.equation-requires-clause-ty
equation-requires-clause-ty c =
    let typing = subst (IsTyping c.typing_of.new.nodes [] (term_at c.args.nodes.now c.args.t)) c.in-Some-typing.is
    c.in_ok-typing.ensures.ok in
    still-type c.typing_of.new.nodes c.opened.new.nodes c.in_ok-result.ensures.extends c.in-Some-typing.typed.ty
    typing.number

pub equation-requires-clause-a : goal.equation-requires-clause-a
equation-requires-clause-a c = still-term c.args.nodes.now c.opened.new.nodes
    (Extends-trans c.in_ok-typing.ensures.extends c.in_ok-result.ensures.extends) c.args.t c.requires.t

pub equation-requires-clause-b : goal.equation-requires-clause-b
equation-requires-clause-b c = has-term c.opened.new.nodes c.in_ok-result.result _ c.in_ok-result.ensures.ok

pub returns-clause-gives : goal.returns-clause-gives
returns-clause-gives c =
    let ts = c.args.nodes.now in
    let us = c.typing_of.new.nodes in
    let vs = c.opened.new.nodes in
    let ws = c.equation.new.self in
    let e = c.in_ok-typing.ensures.extends in
    let f = c.in_ok-result.ensures.extends in
    let typing = subst (IsTyping us [] (term_at ts c.args.t)) c.in-Some-typing.is c.in_ok-typing.ensures.ok in
    let ty = type-stays us vs f c.in-Some-typing.typed.ty typing.number in
    let whole = term-stays ts vs (Extends-trans e f) c.args.t c.requires.t in
    let body = term-stays ts us e c.in-Some-as_abs.function.1 c.in-Some-as_abs.ensures.body in
    let argument = term-stays ts us e c.in-Some.redex.1 c.in-Some.ensures.x in
    let result = term-is vs c.in_ok-result.result _ c.in_ok-result.ensures.ok
    ∙ (λ i. opened names (body i) (argument i)) in
    let made = subst (λ (t : Tm Name). IsTerm ws c.in_ok-concl.concl t)
    (λ i. equation names (ty i) (whole i) (result i)) c.in_ok-concl.ensures.ok in
    beta-made ts c.args.t us c.in-Some.redex.0 c.in-Some.redex.1 c.in-Some-as_abs.function.0
    c.in-Some-as_abs.function.1 c.in-Some-typing.typed c.without_hyps.result c.in-Some.ensures
    c.in-Some-as_abs.ensures typing c.without_hyps.ensures.hyps ws c.in_ok-concl.concl
    c.without_hyps.ensures.concl made

pub returns-in_err-result-clause-known : goal.returns-in_err-result-clause-known
returns-in_err-result-clause-known c = typings-grown c.typing_of.new.nodes c.opened.new.nodes c.opened.ensures.extends
    c.typing_of.new.typings.known.entries c.typing_of.ensures.known

pub returns-in_err-concl-clause-known : goal.returns-in_err-concl-clause-known
returns-in_err-concl-clause-known c =
    typings-grown c.typing_of.new.nodes c.equation.new.self
    (Extends-trans c.opened.ensures.extends c.equation.ensures.extends) c.typing_of.new.typings.known.entries
    c.typing_of.ensures.known

pub without_hyps-requires : goal.without_hyps-requires
without_hyps-requires c = has-term c.equation.new.self c.in_ok-concl.concl _ c.in_ok-concl.ensures.ok

pub returns-clause-known : goal.returns-clause-known
returns-clause-known c =
    typings-grown c.typing_of.new.nodes c.equation.new.self
    (Extends-trans c.opened.ensures.extends c.equation.ensures.extends) c.typing_of.new.typings.known.entries
    c.typing_of.ensures.known
