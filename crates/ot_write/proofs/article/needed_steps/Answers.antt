use Rattle.std.proofs.Common.{◌≡◌, ◌∙◌, ◌<◌, ap, sym, subst, length, map}
use Rattle.std.specs.List.{All, flat_map}
use Rattle.std.proofs.lemmas.Result.{IfOk-weaker}
use Rattle.ot_trace.specs.Reach.{MarksReached}
use Rattle.ot_trace.specs.Trace.{origin_at}
use Rattle.ot_written.specs.Needed.{needed_definitions}
use Rattle.ot_logic.specs.Lists.{IsPart}
use Rattle.ot_write.specs.Emitting.{root_steps, same}
use Rattle.ot_write.proofs.ByCounts.{all-in, in-all, roots-in, roots-are}
use Rattle.ot_write.proofs.Marking.{taken-needed}
use Rattle.ot_written.specs.Written.{roots_of}
use Rattle.ot_write.specs.Bytes.{roots_at}
use Rattle.ot_write.proofs.Taking.{taken-part}
use Rattle.ot_write.proofs.article.needed_steps.Goals as goal

pub reach-requires-clause-roots : goal.reach-requires-clause-roots
reach-requires-clause-roots c =
    subst (λ l. All (λ i. i < length c.args.trace.now) l) (sym (c.deref.ensures.value ∙ c.in_ok-roots.ensures))
    (in-all (length c.args.trace.now) _
    (roots-in (length c.args.trace.now) c.args.exports.now c.requires.exports))

pub take_marked-requires-clause-marks : goal.take_marked-requires-clause-marks
take_marked-requires-clause-marks c = c.in_ok-marks.ensures.length_is ∙ sym c.count-count.ensures.count

pub take_marked-requires-clause-definitions : goal.take_marked-requires-clause-definitions
take_marked-requires-clause-definitions c =
    subst (λ n. All (λ i. i < n) c.args.definitions.now) (sym c.count-count.ensures.count) c.requires.definitions

pub returns-clause-some : goal.returns-clause-some
returns-clause-some c =
    IfOk-weaker c.take_marked.result _ (λ needed. IsPart needed.items c.args.definitions.now)
    (λ v e. subst (λ l. IsPart l c.args.definitions.now) (sym e)
    (taken-part c.in_ok-marks.marks.items c.args.definitions.now)) c.take_marked.ensures

pub returns-clause-needed : goal.returns-clause-needed
returns-clause-needed c =
    let ts = c.args.trace.now in
    let ds = c.args.definitions.now in
    let es = c.args.exports.now in
    let m : MarksReached ts (flat_map root_steps es) ds c.in_ok-marks.marks.items =
    subst (λ l. MarksReached ts l ds c.in_ok-marks.marks.items) (c.deref.ensures.value ∙ c.in_ok-roots.ensures)
    c.in_ok-marks.ensures in
    let all = taken-needed ts c.count-count.ensures.table (flat_map root_steps es) ds
    (roots-in (length ts) es c.requires.exports) (all-in (length ts) ds c.requires.definitions)
    c.in_ok-marks.marks.items m in
    IfOk-weaker c.take_marked.result _ (λ needed. map (origin_at ts) needed.items
    ≡ needed_definitions same (roots_of (map (roots_at ts) es)) (map (origin_at ts) ds))
    (λ v e. ap (map (origin_at ts)) e ∙ all ∙ ap (λ l. needed_definitions same l (map (origin_at ts) ds))
    (roots-are ts es)) c.take_marked.ensures
