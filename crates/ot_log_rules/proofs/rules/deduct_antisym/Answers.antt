use Rattle.std.specs.Prelude.{filter, not}
use Rattle.std.proofs.Common.{nat_eq, subst, ap, refl, ◌∙◌}
use Rattle.ot_logic.specs.Names.{Name}
use Rattle.ot_logic.specs.Naming.{names}
use Rattle.ot_logic.specs.Trees.{Tm}
use Rattle.ot_logic.specs.Hol.{equation}
use Rattle.ot_logic.proofs.TableLemmas.{Extends-trans}
use Rattle.ot_log_nodes.specs.Items.{IsTerm}
use Rattle.ot_log_nodes.proofs.ItemLemmas.{type-is, term-stays}
use Rattle.ot_log_rules.proofs.Cases.{joined, deduct-made}
use Rattle.ot_log_rules.proofs.rules.deduct_antisym.Goals as goal

pub returns-clause-gives : goal.returns-clause-gives
returns-clause-gives c =
    let ts = c.args.nodes.now in
    let us = c.boolean.new.self in
    let vs = c.equation.new.self in
    let a = c.args.a.now in
    let b = c.args.b.now in
    let e = c.in_ok-boolean.ensures.extends in
    let left = c.in_ok-left.ensures ∙ ap (filter (λ u. not (nat_eq u b.concl))) c.deref.ensures.value in
    let right = c.in_ok-right.ensures ∙ ap (filter (λ u. not (nat_eq u a.concl))) c.deref-2.ensures.value in
    let hyps = c.in_ok-hyps.ensures
    ∙ (λ i. joined ((c.deref-3.ensures.value ∙ left) i) ((c.deref-4.ensures.value ∙ right) i)) in
    let truth = type-is us c.in_ok-boolean.boolean _ c.in_ok-boolean.ensures.ok in
    let first = term-stays ts us e a.concl c.requires.a.concl in
    let second = term-stays ts us e b.concl c.requires.b.concl in
    let made = subst (λ (t : Tm Name). IsTerm vs c.in_ok-concl.concl t)
    (λ i. equation names (truth i) (first i) (second i)) c.in_ok-concl.ensures.ok in
    deduct-made ts a b c.primitives.ensures.once vs (Extends-trans e c.in_ok-concl.ensures.extends) c.requires.a
    c.requires.b (record { hyps = c.in_ok-hyps.hyps; concl = c.in_ok-concl.concl }) hyps c.in_ok-concl.concl refl
    made
