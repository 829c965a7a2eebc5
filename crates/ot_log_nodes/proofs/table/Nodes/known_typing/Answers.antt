use Rattle.std.proofs.Common.{◌≡◌, sym, subst}
use Rattle.std.proofs.lemmas.Option.{same_Some}
use Rattle.ot_log_nodes.specs.Items.{term_at}
use Rattle.ot_log_nodes.specs.Lists.{types_of}
use Rattle.ot_log_nodes.specs.Typing.{binders_at, HasTyping}
use Rattle.ot_log_nodes.proofs.table.Nodes.known_typing.Goals as goal

pub returns-in-Some : goal.returns-in-Some
returns-in-Some c = λ x e.
    let ts = c.args.self.now in
    let l = binders_at ts (types_of c.args.known.now.lists c.args.binders) in
    let kept : c.in-Some.typed.now ≡ x = same_Some c.in-Some.typed.now x e in
    subst (HasTyping ts l (term_at ts c.args.id)) kept
    (c.requires.known (record { id = c.args.id; binders = c.args.binders }) c.in-Some.typed.now
    (sym c.in-Some.ensures.value)).typing
