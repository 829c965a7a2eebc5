use Rattle.std.proofs.Common.{ap, ◌∙◌}
use Rattle.std.specs.List.{list_any}
use Rattle.ot_logic.specs.NamedTerms.{nameless}
use Rattle.ot_logic.specs.Naming.{numbers}
use Rattle.ot_term.specs.TermTable.{term_at}
use Rattle.ot_subst.specs.Substitution.{same_key}
use Rattle.ot_subst.proofs.Catching.{free_tells}
use Rattle.ot_subst.proofs.clash.is_free.Goals as goal

pub returns : goal.returns
returns g c =
    free_tells (g.N.Nodes.table c.args.terms.now) c.requires.table c.args.w.now c.requires.variable
    (nameless numbers (term_at (g.N.Nodes.table c.args.terms.now).terms c.args.id)) c.in_ok-xs.xs.items
    c.in_ok-xs.ensures.within c.in_ok-xs.ensures.free c.contains.result
    (c.contains.ensures.value ∙ ap (list_any (λ y. same_key y c.args.w.now)) c.deref.ensures.value)
