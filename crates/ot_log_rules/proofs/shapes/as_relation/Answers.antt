use Rattle.std.proofs.Common.{eqb-true, sym, ◌∙◌}
use Rattle.ot_log_rules.proofs.Shaped.{relation-made}
use Rattle.ot_log_rules.proofs.shapes.as_relation.Goals as goal

pub returns-then-is_boolean : goal.returns-then-is_boolean
returns-then-is_boolean c =
    relation-made c.args.nodes.now c.primitives.ensures.first c.primitives.ensures.once c.args.ty c.in_ok-first.first
    c.in_ok-first.predicate c.in_ok-second.second c.in_ok-second.truth c.in_ok-first.ensures
    c.in_ok-second.ensures
    (eqb-true c.in_ok-first.first c.in_ok-second.second (sym c.eq.ensures ∙ c.if-eq.true))
    (c.is_boolean.ensures.0 c.if-is_boolean.true)
