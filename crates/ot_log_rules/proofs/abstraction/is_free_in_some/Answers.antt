use Rattle.std.specs.Prelude.{◌||◌}
use Rattle.std.proofs.Common.{◌≡◌, ◌+◌, drop, sym, ap, ◌∙◌, subst}
use Rattle.ot_logic.specs.Naming.{names}
use Rattle.ot_logic.specs.Hol.{is_free, is_free_in_some}
use Rattle.ot_logic.proofs.TableLemmas.{Extends-trans}
use Rattle.ot_log_nodes.specs.Items.{HasTerm, term_at}
use Rattle.ot_log_nodes.specs.Changing.{variable_at}
use Rattle.ot_log_nodes.proofs.ItemLemmas.{still-term, term-stays}
use Rattle.ot_log_nodes.proofs.MapLemmas.{variable-stays}
use Rattle.ot_log_rules.specs.Statements.{terms_at}
use Rattle.ot_log_rules.proofs.Freeing.{free-next}
use Rattle.ot_log_rules.proofs.abstraction.is_free_in_some.Goals as goal

pub is_free-requires-clause-id : goal.is_free-requires-clause-id
is_free-requires-clause-id c =
    still-term c.args.nodes.now c.loop-id.nodes c.loop-id.invariant.extends c.id-item.result
    (subst (HasTerm c.args.nodes.now) (sym c.id-item.is)
    (c.requires.ids c.loop-id.id-index c.id-item.result c.loop-id-test.true))

pub returns-then-free-clause-ok : goal.returns-then-free-clause-ok
returns-then-free-clause-ok c =
    let ts = c.args.nodes.now in
    let v = variable_at ts c.args.v.now in
    let here = subst (HasTerm ts) (sym c.id-item.is)
    (c.requires.ids c.loop-id.id-index c.id-item.result c.loop-id-test.true) in
    let same = variable-stays ts c.loop-id.nodes c.loop-id.invariant.extends c.args.v.now c.requires.v in
    let kept = term-stays ts c.loop-id.nodes c.loop-id.invariant.extends c.id-item.result here in
    let test : c.in_ok-free.free ≡ is_free names v (term_at ts c.id-item.result) = c.in_ok-free.ensures.ok
    ∙ (λ i. is_free names (same i) (kept i)) in
    let rest = is_free_in_some names v (terms_at ts (drop (c.loop-id.id-index + 1) c.args.ids.now)) in
    sym (c.loop-id.invariant.all ∙ free-next ts v c.args.ids.now c.loop-id.id-index c.id-item.result c.in_ok-free.free
    c.loop-id-test.true c.id-item.is test ∙ ap (λ b. b || rest) c.if-free.true)

pub loop-id-preserved : goal.loop-id-preserved
loop-id-preserved c =
    let ts = c.args.nodes.now in
    let v = variable_at ts c.args.v.now in
    let here = subst (HasTerm ts) (sym c.id-item.is)
    (c.requires.ids c.loop-id.id-index c.id-item.result c.loop-id-test.true) in
    let same = variable-stays ts c.loop-id.nodes c.loop-id.invariant.extends c.args.v.now c.requires.v in
    let kept = term-stays ts c.loop-id.nodes c.loop-id.invariant.extends c.id-item.result here in
    let test : c.in_ok-free.free ≡ is_free names v (term_at ts c.id-item.result) = c.in_ok-free.ensures.ok
    ∙ (λ i. is_free names (same i) (kept i)) in
    let rest = is_free_in_some names v (terms_at ts (drop (c.loop-id.id-index + 1) c.args.ids.now)) in
    record {
      extends = Extends-trans c.loop-id.invariant.extends c.in_ok-free.ensures.extends;
      v = c.in_ok-free.ensures.v;
      done = c.in_ok-free.ensures.done;
      all = c.loop-id.invariant.all ∙ free-next ts v c.args.ids.now c.loop-id.id-index c.id-item.result
          c.in_ok-free.free c.loop-id-test.true c.id-item.is test ∙ ap (λ b. b || rest) c.if-free.false;
    }
