use Rattle.std.proofs.Common.{is_some, sym, ap, ◌∙◌}
use Rattle.ot_subst.proofs.Pairs.{added-other}
use Rattle.ot_subst.proofs.subst.Subst.insert.Goals as goal

pub returns-in_ok-insert-clause-ok : goal.returns-in_ok-insert-clause-ok
returns-in_ok-insert-clause-ok c =
    added-other c.self.inside.types c.self.inside.first.items c.insert.new.self.entries c.self.inside.others
    c.args.self.now c.args.v c.args.t c.self.view_is
    (sym (c.is_some.ensures ∙ ap is_some c.get.ensures) ∙ c.if-is_some.false) c.in_ok-insert.ensures.entries
