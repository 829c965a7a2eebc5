use Rattle.std.proofs.Common.{◌∙◌, ap, nat_eq, ◌&&◌}
use Rattle.std.specs.Prelude.{not}
use Rattle.std.specs.List.{list_any}
use Rattle.ot_log_page.proofs.Deriving.{concluded}
use Rattle.ot_log_page.proofs.derive.is_lower_lemma.Goals as goal

pub returns : goal.returns
returns c =
    let ts = c.args.nodes.now in
    let one = c.primitives.ensures.once in
    let lower = c.args.lower.now in
    let top = c.args.top.now in
    let first = c.contains.ensures.value ∙ ap (list_any (λ u. nat_eq u top.concl)) c.deref.ensures.value
    ∙ concluded ts one top lower c.requires.top c.requires.lower in
    let second = c.contains-2.ensures.value ∙ ap (list_any (λ u. nat_eq u lower.concl)) c.deref-2.ensures.value
    ∙ concluded ts one lower top c.requires.lower c.requires.top in
    λ i. not (first i) && second i
