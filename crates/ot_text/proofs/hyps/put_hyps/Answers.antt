use Rattle.std.specs.Map.Iter.{deref}
use Rattle.std.proofs.Common.{map, ap, ◌∙◌}
use Rattle.std.proofs.lemmas.Map.Iter.{rest_more, rest_all}
use Rattle.ot_text.specs.Separated.{hyps_from}
use Rattle.ot_text.proofs.Putting.{then, leaves-more, leaves-all}
use Rattle.ot_text.proofs.Separating.{hyps-first}
use Rattle.ot_text.proofs.hyps.put_hyps.Goals as goal

pub loop-text-preserved : goal.loop-text-preserved
loop-text-preserved c =
    leaves-more c.loop-text.invariant
    (ap (λ ts. hyps_from c.loop-text.is_first (map (λ t. t.items) ts))
    (rest_more deref _ _ _ c.in-Some.text c.in-Some.is c.next.ensures.steps)
    ∙ hyps-first c.loop-text.is_first _ _ _ c.as_slice.ensures.value)
    (then c.separate.ensures c.put.ensures)

pub returns : goal.returns
returns c =
    leaves-all c.loop-text.invariant
    (ap (λ ts. hyps_from c.loop-text.is_first (map (λ t. t.items) ts))
    (rest_all deref _ _ _ c.in-None.is c.next.ensures.steps))
    c.put_turnstile.ensures
