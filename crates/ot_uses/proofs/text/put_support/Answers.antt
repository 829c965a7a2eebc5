use Rattle.std.proofs.Common.{◌∙◌, ap, map}
use Rattle.std.specs.Prelude.{codes}
use Rattle.ot_kernel.specs.Definitions.{definition_at}
use Rattle.ot_text.specs.Sections.{definition_text}
use Rattle.ot_text.specs.Texts.{ascending, sequent_text}
use Rattle.ot_text.proofs.Gathering.{texts-through}
use Rattle.ot_text.proofs.Putting.{then, same-text}
use Rattle.ot_uses.specs.Placing.{picked}
use Rattle.ot_uses.specs.Texts.{counted_text}
use Rattle.ot_uses.proofs.Picking.{picked-map}
use Rattle.ot_uses.proofs.text.put_support.Goals as goal

pub returns : goal.returns
returns c =
    let k = c.args.kernel.now in
    let assumptions =
    ap (λ ps. counted_text (codes "assumptions") (ascending (map sequent_text (picked k.assumptions ps))))
    c.deref.ensures.value in
    let definitions = texts-through definition_text (definition_at k)
    (picked c.definitions.result.now c.deref-2.result.now) (picked k.definitions c.args.used.now.definitions.items)
    (picked-map (definition_at k) c.definitions.result.now c.deref-2.result.now
    ∙ (λ z. picked (c.definitions.ensures.definitions z) (c.deref-2.ensures.value z)))
    in
    then (then
    (then (then (then (then c.put.ensures c.put_number.ensures) c.put-2.ensures) c.put-3.ensures) c.put-4.ensures)
    (same-text assumptions c.put_assumptions.ensures))
    (same-text (ap (counted_text (codes "definitions")) definitions) c.put_items.ensures)
