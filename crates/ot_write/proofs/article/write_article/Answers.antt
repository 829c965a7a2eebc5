use Rattle.std.proofs.Common.{◌≡◌, ◌∙◌, ◌<◌, ap, sym, subst, length}
use Rattle.std.specs.List.{All, AllByRecursion, flat_map}
use Rattle.ot_trace.specs.Reach.{MarksReached}
use Rattle.ot_trace.specs.Uses.{AreCounts}
use Rattle.ot_write.specs.Bytes.{AreRootsInside, Writes}
use Rattle.ot_write.specs.Emitting.{counted_bytes, given, root_steps, marked_of}
use Rattle.ot_write.proofs.ByCounts.{counted-article, all-in, in-all, roots-in}
use Rattle.ot_write.proofs.Taking.{taken-in}
use Rattle.ot_write.proofs.Moving.{each-below}
use Rattle.ot_write.proofs.article.write_article.Goals as goal

pub reach-requires-clause-roots : goal.reach-requires-clause-roots
reach-requires-clause-roots c =
    subst (λ l. All (λ i. i < length c.args.trace.now) l) (sym (c.deref.ensures.value ∙ c.in_ok-roots.ensures))
    (in-all (length c.args.trace.now) _
    (roots-in (length c.args.trace.now) c.args.exports.now c.requires.exports))

pub uses-requires-clause-roots : goal.uses-requires-clause-roots
uses-requires-clause-roots c =
    subst (λ l. All (λ i. i < length c.args.trace.now) l) (sym (c.deref-2.ensures.value ∙ c.in_ok-roots.ensures))
    (in-all (length c.args.trace.now) _
    (roots-in (length c.args.trace.now) c.args.exports.now c.requires.exports))

pub uses-requires-clause-marks : goal.uses-requires-clause-marks
uses-requires-clause-marks c = ap length c.deref-3.ensures.value ∙ c.in_ok-marks.ensures.length_is

pub take_marked-requires-clause-marks : goal.take_marked-requires-clause-marks
take_marked-requires-clause-marks c = c.in_ok-marks.ensures.length_is ∙ sym c.count-count.ensures.count

pub take_marked-requires-clause-definitions : goal.take_marked-requires-clause-definitions
take_marked-requires-clause-definitions c =
    subst (λ n. All (λ i. i < n) c.args.definitions.now) (sym c.count-count.ensures.count) c.requires.definitions

pub write_counted-requires-clause-counted : goal.write_counted-requires-clause-counted
write_counted-requires-clause-counted c = ap length c.deref-4.ensures.value ∙ c.in_ok-counts.ensures.length_is

pub write_counted-requires-clause-definitions : goal.write_counted-requires-clause-definitions
write_counted-requires-clause-definitions c =
    subst (λ l. AllByRecursion (λ i. i < length c.args.trace.now) l)
    (sym (c.deref-5.ensures.value ∙ c.in_ok-needed.ensures))
    (taken-in (length c.args.trace.now) _ c.args.definitions.now
    (all-in (length c.args.trace.now) c.args.definitions.now c.requires.definitions))

pub write_counted-requires-clause-exports : goal.write_counted-requires-clause-exports
write_counted-requires-clause-exports c =
    each-below (AreRootsInside (length c.args.trace.now)) c.args.exports.now c.requires.exports

pub returns : goal.returns
returns c =
    let ns = c.args.names.now in
    let ts = c.args.trace.now in
    let ds = c.args.definitions.now in
    let es = c.args.exports.now in
    let m : MarksReached ts (flat_map root_steps es) ds c.in_ok-marks.marks.items =
    subst (λ l. MarksReached ts l ds c.in_ok-marks.marks.items) (c.deref.ensures.value ∙ c.in_ok-roots.ensures)
    c.in_ok-marks.ensures in
    let n : AreCounts ts (flat_map root_steps es) c.in_ok-marks.marks.items c.in_ok-counts.counts.items =
    subst (λ l. AreCounts ts (flat_map root_steps es) l c.in_ok-counts.counts.items) c.deref-3.ensures.value
    (subst (λ l. AreCounts ts l c.deref-3.result.now c.in_ok-counts.counts.items)
    (c.deref-2.ensures.value ∙ c.in_ok-roots.ensures) c.in_ok-counts.ensures) in
    let counts : c.deref-4.result.now ≡ c.in_ok-counts.counts.items = c.deref-4.ensures.value in
    let needed : c.deref-5.result.now ≡ marked_of c.in_ok-marks.marks.items ds = c.deref-5.ensures.value
    ∙ c.in_ok-needed.ensures in
    subst (λ x. Writes c.write_counted.result x c.args.max c.args.out.now.items c.write_counted.new.out.items)
    ((λ i. counted_bytes (given ns ts (counts i)) (needed i) es)
    ∙ counted-article ns ts c.count-count.ensures.table ds es (roots-in (length ts) es c.requires.exports)
    (all-in (length ts) ds c.requires.definitions) c.in_ok-marks.marks.items m c.in_ok-counts.counts.items n)
    c.write_counted.ensures
