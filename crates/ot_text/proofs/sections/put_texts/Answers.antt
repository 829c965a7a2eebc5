use Rattle.std.specs.Map.Iter.{deref}
use Rattle.std.proofs.Common.{map, refl, ap, sym, ◌∙◌}
use Rattle.std.proofs.lemmas.List.{length-map}
use Rattle.std.proofs.lemmas.Map.Iter.{rest_more, rest_all}
use Rattle.ot_text.specs.Sections.{items_text}
use Rattle.ot_text.proofs.Putting.{then, same-text, leaves-more, leaves-all, nothing}
use Rattle.ot_text.proofs.SectionPieces.{items-first, section-pieces}
use Rattle.ot_text.proofs.sections.put_texts.Goals as goal

pub loop-text-preserved : goal.loop-text-preserved
loop-text-preserved c =
    leaves-more c.loop-text.invariant
    (ap (λ ts. items_text (map (λ t. t.items) ts))
    (rest_more deref _ _ _ c.in-Some.text c.in-Some.is c.next.ensures.steps)
    ∙ items-first _ _ _ c.as_slice.ensures.value)
    (then (then c.put.ensures c.put-in-loop-text.ensures) c.put-in-loop-text-2.ensures)

pub returns : goal.returns
returns c =
    same-text
    (section-pieces _ _ _ _ refl (c.len.ensures.len ∙ sym (length-map c.args.texts.now.keys (λ t. t.items))))
    (then c.put_title.ensures
    (leaves-all c.loop-text.invariant
    (ap (λ ts. items_text (map (λ t. t.items) ts)) (rest_all deref _ _ _ c.in-None.is c.next.ensures.steps))
    (nothing _)))
