use Rattle.std.proofs.Common.{eqb-true, eq-eqb, sym, ◌∙◌}
use Rattle.ot_alpha.proofs.alpha_eq.Goals as goal

pub returns : goal.returns
returns c =
    let alike = c.class.ensures.table.alike c.args.a c.args.b c.class.result c.class-2.result c.class.ensures.class
    c.class-2.ensures.class in (
      λ t. alike.0 (eqb-true c.class.result c.class-2.result (sym c.eq.ensures ∙ t)),
      λ e. c.eq.ensures
          ∙ eq-eqb c.class.result c.class-2.result (alike.1 e),
    )
