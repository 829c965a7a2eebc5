use Rattle.std.proofs.Common.{◌∙◌, ap, map}
use Rattle.ot_laws.proofs.Named.{nameless_in-nil}
use Rattle.ot_laws.proofs.Tests.{tells_names}
use Rattle.ot_logic.specs.NamedTerms.{nameless_in}
use Rattle.ot_logic.specs.Naming.{names}
use Rattle.ot_kernel.specs.State.{variable_at, named_at}
use Rattle.ot_view.specs.Binders.{binders_at}
use Rattle.ot_match.specs.Steps.{any_bound}
use Rattle.ot_match.proofs.Holding.{meets_by}
use Rattle.ot_match.proofs.terms.meets_binder.Goals as goal

pub returns-in-Outermost : goal.returns-in-Outermost
returns-in-Outermost c =
    let k = c.args.kernel.now in
    let t = named_at k.terms c.args.id in
    ap (λ b. nameless_in names (binders_at k b) t) c.in-Outermost.is ∙ nameless_in-nil names tells_names t

pub returns-in_ok-vars-in-Inside : goal.returns-in_ok-vars-in-Inside
returns-in_ok-vars-in-Inside c =
    let k = c.args.kernel.now in
    let e = binders_at k c.args.binders.now in
    meets_by e (named_at k.terms c.args.id) (map (variable_at k) c.in_ok-vars-in-Inside.vars.items)
    c.in_ok-vars-in-Inside.ensures.free c.is_any_bound.result
    (c.is_any_bound.ensures ∙ ap (λ vs. any_bound e (map (variable_at k) vs)) c.deref.ensures.value)
