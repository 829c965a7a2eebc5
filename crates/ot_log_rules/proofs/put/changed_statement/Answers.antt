use Rattle.std.specs.List.{All}
use Rattle.std.proofs.Common.{map, subst, sym, ap, ◌∙◌}
use Rattle.ot_logic.specs.Naming.{names}
use Rattle.ot_logic.specs.Hol.{once_each}
use Rattle.ot_logic.proofs.TableLemmas.{Extends-trans}
use Rattle.ot_log_nodes.specs.Items.{HasTerm}
use Rattle.ot_log_nodes.specs.Changing.{changed, changing}
use Rattle.ot_log_nodes.proofs.ItemLemmas.{has-term, term-is, term-stays, still-term}
use Rattle.ot_log_nodes.proofs.MapLemmas.{changing-stays}
use Rattle.ot_log_rules.specs.Statements.{terms_at, once_of}
use Rattle.ot_log_rules.proofs.Numbers.{once-numbers, has-once}
use Rattle.ot_log_rules.proofs.Staying.{terms-stay, still-terms}
use Rattle.ot_log_rules.proofs.put.changed_statement.Goals as goal

pub returns-clause-ok : goal.returns-clause-ok
returns-clause-ok c =
    let ts = c.args.nodes.now in
    let us = c.change_each.new.nodes in
    let vs = c.change.new.self in
    let e = c.in_ok-changed.ensures.extends in
    let f = c.in_ok-concl.ensures.extends in
    let made = c.args.change.now in
    let ids = c.in_ok-changed.changed.items in
    let once = c.in_ok-hyps.ensures ∙ ap once_of c.deref-2.ensures.value in
    let kept = has-once (HasTerm us) ids c.in_ok-changed.ensures.has in
    record {
      has = record {
        hyps = subst (All (HasTerm vs)) (sym once) (still-terms us vs f (once_of ids) kept);
        concl = has-term vs c.in_ok-concl.concl _ c.in_ok-concl.ensures.ok;
      };
      hyps = ap (terms_at vs) once ∙ terms-stay us vs f (once_of ids) kept
          ∙ once-numbers us c.primitives.ensures.once ids c.in_ok-changed.ensures.has
          ∙ ap (once_each names) (c.in_ok-changed.ensures.ok
          ∙ ap (λ l. map (changed (changing ts made) 0) (terms_at ts l)) c.deref.ensures.value);
      concl = term-is vs c.in_ok-concl.concl _ c.in_ok-concl.ensures.ok
          ∙ (λ i. changed (changing-stays ts us e made c.requires.change i) 0
          (term-stays ts us e c.args.a.now.concl c.requires.a.concl i));
    }

pub change-requires-clause-id : goal.change-requires-clause-id
change-requires-clause-id c =
    still-term c.args.nodes.now c.change_each.new.nodes c.in_ok-changed.ensures.extends c.args.a.now.concl
    c.requires.a.concl

pub returns-in_err-concl-clause-extends : goal.returns-in_err-concl-clause-extends
returns-in_err-concl-clause-extends c = Extends-trans c.change_each.ensures.extends c.change.ensures.extends

pub returns-clause-extends : goal.returns-clause-extends
returns-clause-extends c = Extends-trans c.change_each.ensures.extends c.change.ensures.extends
