use Rattle.std.specs.Prelude.{◌&&◌}
use Rattle.std.proofs.Common.{ap, sym, ◌∙◌, nat_eq}
use Rattle.ot_view.proofs.Spelled.{same_keys}
use Rattle.ot_view.proofs.same_variable.Goals as goal

pub returns-then-eq : goal.returns-then-eq
returns-then-eq c =
    c.eq-then-eq.ensures
    ∙ ap (λ b. b && nat_eq c.args.v.now.ty c.args.w.now.ty) (sym c.if-eq.true ∙ c.eq.ensures)
    ∙ same_keys c.args.kernel.now c.terms-terms.result.now c.terms-terms.ensures c.sound.ensures.names c.args.v.now
    c.args.w.now c.requires.left c.requires.right

pub returns-else-eq : goal.returns-else-eq
returns-else-eq c =
    c.if-eq.false
    ∙ ap (λ b. b && nat_eq c.args.v.now.ty c.args.w.now.ty) (sym c.if-eq.false ∙ c.eq.ensures)
    ∙ same_keys c.args.kernel.now c.terms-terms.result.now c.terms-terms.ensures c.sound.ensures.names c.args.v.now
    c.args.w.now c.requires.left c.requires.right
