use Rattle.std.proofs.Common.{arith, ℕ, sym, subst}
use Rattle.ot_logic.proofs.TableLemmas.{Extends-trans}
use Rattle.ot_log_values.specs.Reading.{IsOneOf}
use Rattle.ot_log_values.proofs.Later.{one-later}
use Rattle.ot_log_values.proofs.Listing.{each-next}
use Rattle.ot_log_values.proofs.Gathered.{gathered}
use Rattle.ot_machine.specs.Places.{as_each}
use Rattle.ot_machine.specs.Meaning.{origin_of}
use Rattle.ot_log_values.specs.Steps.{Reads}
use Rattle.ot_log_values.proofs.Taking.{list-of, elements-read}
use Rattle.ot_log_values.proofs.values.Values.each_of.Goals as goal

pub loop-step-preserved : goal.loop-step-preserved
loop-step-preserved g c =
    let o = g.E.Element in
    let s = c.args.session.now in
    let us = c.loop-step.nodes in
    let ws = c.read.new.nodes in
    let e = c.in_ok-element.ensures.extends in
    record {
      extends = Extends-trans c.loop-step.invariant.extends e;
      known = c.in_ok-element.ensures.known;
      each =
          each-next (IsOneOf o.is_in o.value_at o.as_one s us) (IsOneOf o.is_in o.value_at o.as_one s ws)
          (one-later s us ws e o.is_in o.value_at o.as_one o.still) c.deref-step-items.result.now
          c.loop-step.step-index c.step-item.result c.loop-step.found.items c.push.new.self.items
          c.in_ok-element.element (omega arith) c.step-item.is c.loop-step.invariant.each
          c.in_ok-element.ensures.made c.in_ok-push.ensures.items;
    }

pub returns-clause-made : goal.returns-clause-made
returns-clause-made g c =
    let o = g.E.Element in
    let s = c.args.session.now in
    let us = c.loop-step.nodes in
    gathered s us c.args.list c.in_ok-steps.steps.items c.deref-step-items.result.now c.loop-step.step-index
    c.deref-step-items.ensures.value c.in_ok-steps.ensures.made (omega arith)
    (IsOneOf o.is_in o.value_at o.as_one s us) o.is_in o.value_at o.as_one (λ i x h. h.has)
    (λ i x v h e. h.read v e) c.loop-step.found.items c.loop-step.invariant.each

pub elements-requires-clause-value : goal.elements-requires-clause-value
elements-requires-clause-value g c =
    list-of (as_each g.E.Element.as_one) (origin_of c.args.session.now c.args.list) c.requires.value

pub read-requires-clause-value : goal.read-requires-clause-value
read-requires-clause-value g c =
    let s = c.args.session.now in
    let here = c.step-item.is in
    let each = elements-read s g.E.Element.as_one (origin_of s c.args.list) c.in_ok-steps.steps.items
    c.deref-step-items.result.now
    c.deref-step-items.ensures.value c.in_ok-steps.ensures.made c.requires.value in
    subst (λ (i : ℕ). Reads g.E.Element.as_one (origin_of s i)) (sym here)
    (each c.loop-step.step-index c.step-item.result (omega arith))
