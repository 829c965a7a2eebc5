use Rattle.std.proofs.Common.{◌≡◌, suc, ◌-◌, ap, sym, ◌∙◌, arith}
use Rattle.ot_logic.specs.NamedTerms.{at_place}
use Rattle.ot_logic.specs.Naming.{names}
use Rattle.ot_kernel.specs.State.{variable_at}
use Rattle.ot_forms.specs.Printing.{binder_name}
use Rattle.ot_text.proofs.Putting.{same-text}
use Rattle.ot_pretty.specs.Spines.{text_at}
use Rattle.ot_pretty.proofs.terms.put_leaf.Goals as goal

pub returns-in-Some : goal.returns-in-Some
returns-in-Some c =
    let leaf = at_place names (variable_at c.args.kernel.now c.args.v.now) in
    let minus : c.args.depth - 1 - c.in-Some.number ≡ c.args.depth - suc c.in-Some.number = omega arith in
    same-text (ap binder_name minus ∙ ap (λ o. text_at c.args.notation.now c.args.depth (leaf o))
    (sym c.in-Some.is ∙ c.place.ensures.place)) c.put_binder.ensures

pub returns-in-None : goal.returns-in-None
returns-in-None c =
    let leaf = at_place names (variable_at c.args.kernel.now c.args.v.now) in
    same-text (ap (λ o. text_at c.args.notation.now c.args.depth (leaf o)) (sym c.in-None.is ∙ c.place.ensures.place))
    c.put_free.ensures
