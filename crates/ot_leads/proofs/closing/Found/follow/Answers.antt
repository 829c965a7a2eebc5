use Rattle.std.specs.Prelude.{slice_get, Some, OnOk}
use Rattle.std.proofs.Common.{◌≡◌, ◌<◌, length, slice_index, sym, ap, subst, ◌∙◌}
use Rattle.std.proofs.lemmas.List.{get_or_read}
use Rattle.std.proofs.lemmas.Option.{get_or_from_slice_get}
use Rattle.ot_leads.specs.Closing.{Takes}
use Rattle.ot_leads.proofs.closing.Found.follow.Goals as goal

pub returns-in-Some-clause-ok : goal.returns-in-Some-clause-ok
returns-in-Some-clause-ok c =
    let keys = c.args.self.now.places.keys in
    let ds = c.args.definitions.now in
    let at : slice_get keys c.args.next ≡ Some c.in-Some.place =
    sym c.get_index.ensures.key ∙ sym c.copied.ensures ∙ c.in-Some.is in
    let key : slice_index keys c.args.next ≡ c.in-Some.place =
    get_or_from_slice_get keys c.args.next c.in-Some.place 0 at in
    let inside : c.in-Some.place < length ds =
    subst (λ p. p < length ds) key (c.requires.places c.args.next 0 c.requires.next) in
    let step = get_or_read ds c.in-Some.place c.index-definitions-place.result inside c.index-definitions-place.is 0
    ∙ ap (slice_index ds) (sym key) in
    subst (λ s. OnOk c.take.result (Takes c.args.leads.now c.take.new.leads c.args.self.now c.take.new.self s)) step
    c.take.ensures.ok
