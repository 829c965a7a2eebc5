use Rattle.std.proofs.Common.{[], subst, sym, ◌∙◌}
use Rattle.ot_logic.specs.Naming.{names}
use Rattle.ot_logic.specs.Hol.{same_ty, bool_ty}
use Rattle.ot_laws.proofs.Tests.{tells_names, same_ty-is}
use Rattle.ot_log_nodes.specs.Items.{type_at, term_at}
use Rattle.ot_log_nodes.specs.Typing.{IsTyping}
use Rattle.ot_log_rules.proofs.Numbers.{one-answer}
use Rattle.ot_log_rules.proofs.PutIn.{has_type-same}
use Rattle.ot_log_rules.proofs.typing.is_proposition.Goals as goal

pub returns-in-Some-clause-ok : goal.returns-in-Some-clause-ok
returns-in-Some-clause-ok c =
    let us = c.typing_of.new.nodes in
    let t = term_at c.args.nodes.now c.args.id in
    let a = type_at us c.in-Some.typed.ty in
    let typing = subst (IsTyping us [] t) c.in-Some.is c.in_ok-typing.ensures.ok in
    one-answer c.is_boolean.result (same_ty names a (bool_ty names)) c.is_boolean.ensures
    (same_ty-is names tells_names a (bool_ty names)) ∙ sym (has_type-same t a (bool_ty names) typing.type)
