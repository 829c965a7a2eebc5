use Rattle.std.proofs.Common.{◌∙◌, sym, arith}
use Rattle.ot_text.proofs.TypePieces.{arrow-two, arrow-none, eq-false}
use Rattle.ot_text.proofs.types.is_arrow.Goals as goal

pub returns-then-count-eq2-clause-function : goal.returns-then-count-eq2-clause-function
returns-then-count-eq2-clause-function c = λ ts h. c.is_text.ensures ∙ arrow-two c.args.name.now ts (omega (arith, h))

pub returns-else-count-eq2-clause-function : goal.returns-else-count-eq2-clause-function
returns-else-count-eq2-clause-function c =
    λ ts h. eq-false _ _ c.if-count-eq2.false
    ∙ arrow-none c.args.name.now ts (λ e. c.if-count-eq2.false (sym h ∙ e))
