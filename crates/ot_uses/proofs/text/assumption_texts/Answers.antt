use Rattle.std.proofs.Common.{◌≡◌, ◌<◌, ◌∙◌, sym, subst, length, take, arith}
use Rattle.std.specs.Prelude.{IfOk}
use Rattle.std.specs.List.{All}
use Rattle.ot_kernel.specs.State.{theorem_at}
use Rattle.ot_text.specs.Gathered.{bytes_in, texts_of}
use Rattle.ot_text.specs.Texts.{ascending, sequent_text}
use Rattle.ot_uses.proofs.Picking.{picked-all, picked-texts}
use Rattle.ot_uses.proofs.text.assumption_texts.Goals as goal

pub gathered-requires : goal.gathered-requires
gathered-requires c =
    subst (λ l. All (λ i. i < length c.args.kernel.now.theorems) l)
    (sym (c.deref.ensures.value ∙ c.loop-place.invariant))
    (picked-all (λ i. i < length c.args.kernel.now.theorems) c.assumptions-assumptions.result.now
    (take c.loop-place.place-index c.args.places.now) c.assumptions-assumptions.ensures.numbered)

pub returns-clause-ok : goal.returns-clause-ok
returns-clause-ok c =
    let k = c.args.kernel.now in
    let texts = picked-texts sequent_text (theorem_at k) c.assumptions-assumptions.result.now
    k.assumptions c.args.places.now c.loop-place.place-index c.deref.result.now
    (c.deref.ensures.value ∙ c.loop-place.invariant) (omega arith) c.assumptions-assumptions.ensures.sequents in
    subst (λ ts. IfOk c.gathered.result (λ texts. texts_of texts ≡ ascending ts)) texts c.gathered.ensures.ok

pub returns-clause-too_large : goal.returns-clause-too_large
returns-clause-too_large c = λ p.
    let k = c.args.kernel.now in
    let texts = picked-texts sequent_text (theorem_at k) c.assumptions-assumptions.result.now
    k.assumptions c.args.places.now c.loop-place.place-index c.deref.result.now
    (c.deref.ensures.value ∙ c.loop-place.invariant) (omega arith) c.assumptions-assumptions.ensures.sequents in
    subst (λ ts. c.args.max < bytes_in (ascending ts)) texts (c.gathered.ensures.too_large p)
