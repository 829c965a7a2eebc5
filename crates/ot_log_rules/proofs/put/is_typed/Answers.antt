use Rattle.std.proofs.Common.{[], subst, sym, ap, ◌∙◌}
use Rattle.ot_logic.specs.Naming.{names}
use Rattle.ot_logic.specs.Hol.{same_ty}
use Rattle.ot_log_nodes.specs.Items.{type_at, term_at}
use Rattle.ot_log_nodes.specs.Typing.{IsTyping}
use Rattle.ot_log_nodes.proofs.ItemLemmas.{type-stays, still-type}
use Rattle.ot_log_nodes.proofs.MapLemmas.{same-types}
use Rattle.ot_log_rules.proofs.PutIn.{has_type-same}
use Rattle.ot_log_rules.proofs.put.is_typed.Goals as goal

pub returns-in-Some-clause-ok : goal.returns-in-Some-clause-ok
returns-in-Some-clause-ok c =
    let ts = c.args.nodes.now in
    let us = c.typing_of.new.nodes in
    let e = c.in_ok-typing.ensures.extends in
    let t = term_at ts c.args.term in
    let a = type_at us c.in-Some.typed.ty in
    let ty = c.args.variable.ty in
    let typing = subst (IsTyping us [] t) c.in-Some.is c.in_ok-typing.ensures.ok in
    c.eq.ensures
    ∙ sym (same-types us c.primitives.ensures.once c.in-Some.typed.ty ty typing.number
    (still-type ts us e ty c.requires.variable.1))
    ∙ ap (same_ty names a) (type-stays ts us e ty c.requires.variable.1)
    ∙ sym (has_type-same t a (type_at ts ty) typing.type)
