use Rattle.std.proofs.Common.{[], subst}
use Rattle.ot_logic.specs.Names.{Name}
use Rattle.ot_logic.specs.Naming.{names}
use Rattle.ot_logic.specs.Trees.{Tm}
use Rattle.ot_logic.specs.Hol.{equation}
use Rattle.ot_log_nodes.specs.Items.{IsTerm, type_at, term_at}
use Rattle.ot_log_nodes.specs.Typing.{IsTyping}
use Rattle.ot_log_nodes.proofs.ItemLemmas.{has-term, term-stays}
use Rattle.ot_log_nodes.proofs.TypingLemmas.{typings-grown}
use Rattle.ot_log_rules.proofs.Cases.{no-typing, refl-refused, refl-made}
use Rattle.ot_log_rules.proofs.rules.refl.Goals as goal

pub returns-in_default-clause-gives : goal.returns-in_default-clause-gives
returns-in_default-clause-gives c =
    let t = term_at c.args.nodes.now c.args.t in
    refl-refused t
    (no-typing c.typing_of.new.nodes [] t c.in_ok-typing.typing c.in_ok-typing.ensures.ok c.in_default.not-Some)

pub equation-requires-clause-ty : goal.equation-requires-clause-ty
equation-requires-clause-ty c =
    (subst (IsTyping c.typing_of.new.nodes [] (term_at c.args.nodes.now c.args.t)) c.in-Some.is
    c.in_ok-typing.ensures.ok).number

pub returns-clause-gives : goal.returns-clause-gives
returns-clause-gives c =
    let ts = c.args.nodes.now in
    let us = c.typing_of.new.nodes in
    let vs = c.equation.new.self in
    let typing = subst (IsTyping us [] (term_at ts c.args.t)) c.in-Some.is c.in_ok-typing.ensures.ok in
    let stay = term-stays ts us c.in_ok-typing.ensures.extends c.args.t c.requires.t in
    let made =
    subst (λ (t : Tm Name). IsTerm vs c.in_ok-concl.concl (equation names (type_at us c.in-Some.typed.ty) t t))
    stay c.in_ok-concl.ensures.ok in
    refl-made us vs (term_at ts c.args.t) c.in-Some.typed c.without_hyps.result c.in_ok-concl.concl typing
    c.without_hyps.ensures.hyps c.without_hyps.ensures.concl made

pub returns-in_err-concl-clause-known : goal.returns-in_err-concl-clause-known
returns-in_err-concl-clause-known c = typings-grown c.typing_of.new.nodes c.equation.new.self
    c.equation.ensures.extends c.typing_of.new.typings.known.entries c.typing_of.ensures.known

pub without_hyps-requires : goal.without_hyps-requires
without_hyps-requires c = has-term c.equation.new.self c.in_ok-concl.concl _ c.in_ok-concl.ensures.ok

pub returns-clause-known : goal.returns-clause-known
returns-clause-known c = typings-grown c.typing_of.new.nodes c.equation.new.self c.equation.ensures.extends
    c.typing_of.new.typings.known.entries c.typing_of.ensures.known
