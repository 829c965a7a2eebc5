use Rattle.std.proofs.Common.{◌≡◌, ◌∙◌, ◌<◌, ap, sym, subst, length, map}
use Rattle.std.specs.List.{All}
use Rattle.ot_logic.specs.Lists.{IsMember, IsPart}
use Rattle.ot_logic.specs.Naming.{IsNameTable}
use Rattle.ot_trace.specs.Trace.{IsStepTable, origin_at}
use Rattle.ot_written.specs.Needed.{needed_definitions}
use Rattle.ot_written.specs.Written.{roots_of}
use Rattle.ot_write.specs.Bytes.{AreRootsInside, roots_at}
use Rattle.ot_write.specs.Emitting.{same}
use Rattle.ot_machine.specs.Lawful.{run_basis}
use Rattle.ot_machine.specs.Meaning.{run_of, export_of, origin_of}
use Rattle.ot_machine.specs.Writable.{IsWritable}
use Rattle.ot_machine.specs.States.{Export}
use Rattle.ot_log_law.specs.Writing.{nothing_written, write_definitions}
use Rattle.ot_log.specs.Keeping.{IsDefinable, IsNumbered}
use Rattle.ot_log.specs.Ready.{CanDefine, CanResult}
use Rattle.ot_minimise.specs.Minimised.{roots_in}
use Rattle.ot_log.specs.Logs.{Writes}
use Rattle.ot_log.proofs.Whole.{lawful-definable, lawful-proofs, roots-inside, needed-is, tops-are, log-is, checked}
use Rattle.ot_log.proofs.Ordered.{log-ready}
use Rattle.ot_log.proofs.writing.write_log.Goals as goal
use Rattle.ot_logic.proofs.Members.{All-at_member, All-from_members}

pub needed_steps-requires-clause-exports : goal.needed_steps-requires-clause-exports
needed_steps-requires-clause-exports c =
    let s = c.args.session.now in
    subst (λ ts. All (AreRootsInside (length ts)) c.deref.result.now) (sym c.trace-2.ensures)
    (subst (All (AreRootsInside (length s.trace))) (sym (c.deref.ensures.value ∙ c.in_ok-roots.ensures))
    (roots-inside s c.args.exports.now c.requires.exports))

pub write_steps-requires-clause-inside : goal.write_steps-requires-clause-inside
write_steps-requires-clause-inside c =
    let s = c.args.session.now in
    let part : IsPart c.deref-2.result.now s.definition_steps.items =
    λ i m. subst (IsMember i) c.definition_steps.ensures
    (c.in_ok-needed.ensures.some i (subst (IsMember i) c.deref-2.ensures.value m)) in
    All-from_members (λ i. i < length s.trace) c.deref-2.result.now
    (λ i m. All-at_member (λ i. i < length s.trace) s.definition_steps.items i c.requires.run.definitions (part i m))

pub write_steps-requires-clause-definable : goal.write_steps-requires-clause-definable
write_steps-requires-clause-definable c =
    let s = c.args.session.now in
    let part : IsPart c.deref-2.result.now s.definition_steps.items =
    λ i m. subst (IsMember i) c.definition_steps.ensures
    (c.in_ok-needed.ensures.some i (subst (IsMember i) c.deref-2.ensures.value m)) in
    All-from_members (λ i. IsDefinable (origin_of s i)) c.deref-2.result.now
    (λ i m. lawful-definable s c.requires.run.each_definition c.requires.lawful.run i (part i m))

pub write_steps-requires-clause-proofs : goal.write_steps-requires-clause-proofs
write_steps-requires-clause-proofs c =
    lawful-proofs c.args.session.now (run_basis IsWritable (run_of c.args.session.now))
    c.args.exports.now c.requires.lawful.exports

pub write_steps-requires-clause-definitions : goal.write_steps-requires-clause-definitions
write_steps-requires-clause-definitions c =
    let s = c.args.session.now in
    let es = c.args.exports.now in
    let steps = s.definition_steps.items in
    let num : IsNumbered s = record {
      run = c.requires.run;
      names = subst (λ k. IsNameTable k.names) c.kernel.ensures c.sound.ensures.names;
      table = subst IsStepTable c.trace.ensures c.count-count.ensures.table;
    } in
    let part : IsPart c.deref-2.result.now steps =
    λ i m. subst (IsMember i) c.definition_steps.ensures
    (c.in_ok-needed.ensures.some i (subst (IsMember i) c.deref-2.ensures.value m)) in
    let trace = c.trace-2.ensures in
    let roots : c.deref.result.now ≡ map roots_in es = c.deref.ensures.value ∙ c.in_ok-roots.ensures in
    let needed : map (origin_at s.trace) c.deref-2.result.now
    ≡ needed_definitions same (roots_of (map (roots_at s.trace) (map roots_in es))) (map (origin_at s.trace) steps) =
    ap (map (origin_at s.trace)) c.deref-2.ensures.value
    ∙ (λ i. map (origin_at (sym trace i)) c.in_ok-needed.needed.items)
    ∙ c.in_ok-needed.ensures.needed
    ∙ (λ i. needed_definitions same (roots_of (map (roots_at (trace i)) (roots i)))
    (map (origin_at (trace i)) (c.definition_steps.ensures i))) in
    subst (λ l. CanDefine l nothing_written)
    (sym (needed-is s num es c.deref-2.result.now c.requires.exports part needed))
    (log-ready (run_of s) (map (export_of s) es) c.requires.lawful).0

pub write_steps-requires-clause-results : goal.write_steps-requires-clause-results
write_steps-requires-clause-results c =
    let s = c.args.session.now in
    let es = c.args.exports.now in
    let steps = s.definition_steps.items in
    let num : IsNumbered s = record {
      run = c.requires.run;
      names = subst (λ k. IsNameTable k.names) c.kernel.ensures c.sound.ensures.names;
      table = subst IsStepTable c.trace.ensures c.count-count.ensures.table;
    } in
    let part : IsPart c.deref-2.result.now steps =
    λ i m. subst (IsMember i) c.definition_steps.ensures
    (c.in_ok-needed.ensures.some i (subst (IsMember i) c.deref-2.ensures.value m)) in
    let trace = c.trace-2.ensures in
    let roots : c.deref.result.now ≡ map roots_in es = c.deref.ensures.value ∙ c.in_ok-roots.ensures in
    let needed : map (origin_at s.trace) c.deref-2.result.now
    ≡ needed_definitions same (roots_of (map (roots_at s.trace) (map roots_in es))) (map (origin_at s.trace) steps) =
    ap (map (origin_at s.trace)) c.deref-2.ensures.value
    ∙ (λ i. map (origin_at (sym trace i)) c.in_ok-needed.needed.items)
    ∙ c.in_ok-needed.ensures.needed
    ∙ (λ i. needed_definitions same (roots_of (map (roots_at (trace i)) (roots i)))
    (map (origin_at (trace i)) (c.definition_steps.ensures i))) in
    subst (λ l. CanResult l (write_definitions (map (origin_of s) c.deref-2.result.now) nothing_written))
    (sym (tops-are s num es))
    (subst (λ l. CanResult (map (λ (e : Export). e.roots.theorem) (map (export_of s) es))
    (write_definitions l nothing_written))
    (sym (needed-is s num es c.deref-2.result.now c.requires.exports part needed))
    (log-ready (run_of s) (map (export_of s) es) c.requires.lawful).1)

pub returns-clause-writes : goal.returns-clause-writes
returns-clause-writes c =
    let s = c.args.session.now in
    let es = c.args.exports.now in
    let steps = s.definition_steps.items in
    let num : IsNumbered s = record {
      run = c.requires.run;
      names = subst (λ k. IsNameTable k.names) c.kernel.ensures c.sound.ensures.names;
      table = subst IsStepTable c.trace.ensures c.count-count.ensures.table;
    } in
    let part : IsPart c.deref-2.result.now steps =
    λ i m. subst (IsMember i) c.definition_steps.ensures
    (c.in_ok-needed.ensures.some i (subst (IsMember i) c.deref-2.ensures.value m)) in
    let trace = c.trace-2.ensures in
    let roots : c.deref.result.now ≡ map roots_in es = c.deref.ensures.value ∙ c.in_ok-roots.ensures in
    let needed : map (origin_at s.trace) c.deref-2.result.now
    ≡ needed_definitions same (roots_of (map (roots_at s.trace) (map roots_in es))) (map (origin_at s.trace) steps) =
    ap (map (origin_at s.trace)) c.deref-2.ensures.value
    ∙ (λ i. map (origin_at (sym trace i)) c.in_ok-needed.needed.items)
    ∙ c.in_ok-needed.ensures.needed
    ∙ (λ i. needed_definitions same (roots_of (map (roots_at (trace i)) (roots i)))
    (map (origin_at (trace i)) (c.definition_steps.ensures i))) in
    subst (λ x. Writes c.write_steps.result x c.args.max c.args.out.now.items c.write_steps.new.out.items)
    (log-is s num es c.deref-2.result.now c.requires.exports part needed) c.write_steps.ensures

pub returns-clause-checked : goal.returns-clause-checked
returns-clause-checked c =
    checked c.run_log_law.ensures (run_of c.args.session.now) (map (export_of c.args.session.now) c.args.exports.now)
    c.requires.lawful c.write_steps.result c.args.max c.args.out.now.items c.write_steps.new.out.items c.requires.max
    (returns-clause-writes c)
