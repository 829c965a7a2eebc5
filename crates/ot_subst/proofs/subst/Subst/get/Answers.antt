use Rattle.std.proofs.Common.{sym, ap, ◌∙◌}
use Rattle.std.specs.Map.{lookup}
use Rattle.ot_subst.specs.Substitution.{Substitution, same_key, term_for}
use Rattle.ot_subst.proofs.Pairs.{lookup-first, lookup-others}
use Rattle.ot_subst.proofs.subst.Subst.get.Goals as goal

pub returns-in-Some : goal.returns-in-Some
returns-in-Some c =
    sym (lookup-first (same_key c.args.v.now) c.self.inside.first.items c.self.inside.others.entries c.in-Some.t
    (sym (c.in-Some.ensures ∙ ap (lookup (same_key c.args.v.now)) c.as_slice.ensures)))
    ∙ ap (λ (s : Substitution). term_for s c.args.v.now) c.self.view_is

pub returns-in-None : goal.returns-in-None
returns-in-None c =
    c.copied.ensures ∙ c.get.ensures.value
    ∙ sym (lookup-others (same_key c.args.v.now) c.self.inside.first.items c.self.inside.others.entries
    (sym (c.in-None.ensures ∙ ap (lookup (same_key c.args.v.now)) c.as_slice.ensures)))
    ∙ ap (λ (s : Substitution). term_for s c.args.v.now) c.self.view_is
