use Rattle.std.proofs.Common.{◌∙◌, true≢false, eq-eqb, eqb-true, sym, subst}
use Rattle.ot_log_nodes.specs.Typing.{IsTyped}
use Rattle.ot_log_nodes.proofs.TypingLemmas.{typing-application, typing-other, typing-no_function}
use Rattle.ot_log_nodes.proofs.table.Nodes.applied_at.Goals as goal

pub returns-then-eq : goal.returns-then-eq
returns-then-eq c = λ l t u left right.
    let ts = c.args.self.now in
    typing-application ts l t u c.args.f c.args.x left right c.in-Some.parts.0 c.in-Some.parts.1 c.typed.result
    c.in-Some.ensures (eqb-true c.in-Some.parts.0 c.args.x.ty (sym c.eq.ensures ∙ c.if-eq.true))
    (subst (λ b. IsTyped ts c.in-Some.parts.1 b c.typed.result) c.both.ensures c.typed.ensures)

pub returns-else-eq : goal.returns-else-eq
returns-else-eq c = λ l t u left right.
    typing-other c.args.self.now l t u c.args.f c.args.x left right c.primitives.ensures.once c.in-Some.parts.0
    c.in-Some.parts.1 c.in-Some.ensures
    (λ e. true≢false (sym (eq-eqb c.in-Some.parts.0 c.args.x.ty e) ∙ sym c.eq.ensures ∙ c.if-eq.false))

pub returns-in-None : goal.returns-in-None
returns-in-None c = λ l t u left right. typing-no_function c.args.self.now l t u c.args.f c.args.x left right
    c.in-None.ensures
