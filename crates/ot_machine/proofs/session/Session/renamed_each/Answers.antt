use Rattle.std.proofs.Common.{◌<◌, ◌∙◌, length, arith}
use Rattle.ot_logic.specs.Naming.{names}
use Rattle.ot_interp.specs.Interpretation.{renamed}
use Rattle.ot_trace.specs.Origins.{renamed_first}
use Rattle.ot_machine.specs.Contexts.{context_of}
use Rattle.ot_machine.specs.States.{Context}
use Rattle.ot_machine.specs.Meaning.{origin_of}
use Rattle.ot_machine.proofs.Kept.{traces-grow}
use Rattle.ot_machine.proofs.InContext.{context-kept, of_context-kept}
use Rattle.ot_machine.proofs.Traced.{traces-on, traced-origin}
use Rattle.ot_machine.proofs.RenamedLists.{origins-later, item-inside, one-more, more-inside}
use Rattle.ot_machine.proofs.session.Session.renamed_each.Goals as goal

pub renamed_begin-requires-clause-context : goal.renamed_begin-requires-clause-context
renamed_begin-requires-clause-context c =
    let s = c.args.self.now in
    let t = c.loop-pair.self in
    of_context-kept s t c.requires.run (traces-grow s t c.loop-pair.invariant.kept)
    c.args.context.now c.requires.context

pub renamed_begin-requires-clause-inside : goal.renamed_begin-requires-clause-inside
renamed_begin-requires-clause-inside c =
    let here = item-inside (λ i. i < length c.args.self.now.trace) c.args.pairs.now c.loop-pair.pair-index
    c.pair-item.result c.requires.inside c.loop-pair-test.true c.pair-item.is in
    omega (arith, here, c.loop-pair.invariant.kept.grown.longer)

pub loop-pair-preserved : goal.loop-pair-preserved
loop-pair-preserved c =
    let s = c.args.self.now in
    let t = c.loop-pair.self in
    let u = c.renamed_begin.new.self in
    let before = c.loop-pair.invariant.kept in
    let one = c.in_ok-step.ensures.kept in
    let steps = c.loop-pair.steps.items in
    let pair = c.pair-item.result in
    let here = item-inside (λ i. i < length s.trace) c.args.pairs.now c.loop-pair.pair-index pair c.requires.inside
    c.loop-pair-test.true c.pair-item.is in
    let context = context-kept s t c.requires.run (traces-grow s t before) c.args.context.now
    c.requires.context in
    let origin = traced-origin s t c.requires.run before pair here in
    let read = λ (x : Context). renamed names x.interpretation.constants in
    record {
      kept = traces-on s t u before one;
      inside = more-inside (length t.trace) (length u.trace) steps _ c.in_ok-step.step one.grown.longer
          c.loop-pair.invariant.inside c.in_ok-step.ensures.inside c.in_ok-push.ensures.items;
      made =
          one-more (origin_of u) (λ i. renamed_first (read (context_of s c.args.context.now)) (origin_of s i)) steps _
          c.in_ok-step.step c.args.pairs.now c.loop-pair.pair-index pair c.loop-pair-test.true c.pair-item.is
          c.in_ok-push.ensures.items
          (origins-later t u before.is_run one steps c.loop-pair.invariant.inside ∙ c.loop-pair.invariant.made)
          (c.in_ok-step.ensures.made ∙ (λ i. renamed_first (read (context i)) (origin i)));
    }
