use Rattle.std.proofs.Common.{ap, arith}
use Rattle.ot_forms.specs.Words.{dotted}
use Rattle.ot_text.proofs.Putting.{then, same-text, leaves-more, leaves-all, nothing}
use Rattle.ot_pretty.proofs.DottedWords.{dotted-rest, dotted-end}
use Rattle.ot_pretty.proofs.words.put_dotted.Goals as goal

pub loop-component-init : goal.loop-component-init
loop-component-init c = λ u h. same-text (ap dotted c.components-components.ensures.value) h

pub loop-component-preserved : goal.loop-component-preserved
loop-component-preserved c =
    leaves-more c.loop-component.invariant
    (dotted-rest c.loop-component.is_first c.components-components.result.now c.loop-component.component-index
    c.component-item.result _ c.loop-component-test.true c.component-item.is c.as_slice.ensures.value)
    (then c.separate.ensures c.put.ensures)

pub returns : goal.returns
returns c =
    leaves-all c.loop-component.invariant (dotted-end c.loop-component.is_first c.components-components.result.now
    c.loop-component.component-index (omega arith)) (nothing _)
