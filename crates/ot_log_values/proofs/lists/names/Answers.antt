use Rattle.std.proofs.Common.{arith, ℕ, sym, subst}
use Rattle.ot_logic.proofs.TableLemmas.{Extends-trans}
use Rattle.ot_log_values.specs.Steps.{IsNameOf, Reads}
use Rattle.ot_log_values.proofs.Later.{name-later}
use Rattle.ot_log_values.proofs.Listing.{each-next}
use Rattle.ot_log_values.proofs.Gathered.{names-gathered}
use Rattle.ot_machine.specs.Places.{as_each, as_name}
use Rattle.ot_machine.specs.Meaning.{origin_of}
use Rattle.ot_log_values.proofs.Taking.{list-of, elements-read}
use Rattle.ot_log_values.proofs.lists.names.Goals as goal

pub loop-step-preserved : goal.loop-step-preserved
loop-step-preserved c =
    let s = c.args.session.now in
    let us = c.loop-step.nodes in
    let ws = c.name.new.nodes in
    let e = c.in_ok-id.ensures.extends in
    record {
      extends = Extends-trans c.loop-step.invariant.extends e;
      each = each-next (IsNameOf s us) (IsNameOf s ws) (name-later s us ws e) c.deref-step-items.result.now
          c.loop-step.step-index
          c.step-item.result c.loop-step.found.items c.push.new.self.items c.in_ok-id.id (omega arith) c.step-item.is
          c.loop-step.invariant.each c.in_ok-id.ensures.made c.in_ok-push.ensures.items;
    }

pub returns-clause-made : goal.returns-clause-made
returns-clause-made c =
    names-gathered c.args.session.now c.loop-step.nodes c.args.list c.in_ok-steps.steps.items
    c.deref-step-items.result.now
    c.loop-step.step-index c.deref-step-items.ensures.value c.in_ok-steps.ensures.made
    (omega arith) c.loop-step.found.items c.loop-step.invariant.each

pub elements-requires-clause-value : goal.elements-requires-clause-value
elements-requires-clause-value c =
    list-of (as_each as_name) (origin_of c.args.session.now c.args.list) c.requires.value

pub name-requires-clause-value : goal.name-requires-clause-value
name-requires-clause-value c =
    let s = c.args.session.now in
    let here = c.step-item.is in
    let each = elements-read s as_name (origin_of s c.args.list) c.in_ok-steps.steps.items c.deref-step-items.result.now
    c.deref-step-items.ensures.value c.in_ok-steps.ensures.made c.requires.value in
    subst (λ (i : ℕ). Reads as_name (origin_of s i)) (sym here)
    (each c.loop-step.step-index c.step-item.result (omega arith))
