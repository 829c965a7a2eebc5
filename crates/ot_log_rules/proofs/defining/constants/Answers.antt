use Rattle.std.specs.List.{All}
use Rattle.std.proofs.Common.{ℕ, List, [], ◌∷◌, map, subst, sym, ap, ◌∙◌}
use Rattle.std.proofs.lemmas.List.Elements.{All-nil}
use Rattle.ot_logic.specs.Naming.{names}
use Rattle.ot_logic.specs.Hol.{subst_tm, constants_for, sequent_of}
use Rattle.ot_logic.proofs.TableLemmas.{Extends-trans}
use Rattle.ot_log_nodes.specs.Items.{HasName, HasType, term_at}
use Rattle.ot_log_nodes.specs.Changing.{HasTypes, HasTerms}
use Rattle.ot_log_nodes.specs.declared.node.VariableNode.{VariableNode}
use Rattle.ot_log_nodes.proofs.ItemLemmas.{term-stays, still-term}
use Rattle.ot_log_nodes.proofs.MapLemmas.{variable_eq}
use Rattle.ot_log_rules.specs.Definitions.{pairs_at}
use Rattle.ot_log_rules.specs.Statements.{sequent_at, HasStatement}
use Rattle.ot_log_rules.specs.Putting.{firsts, IsPut}
use Rattle.ot_log_rules.proofs.Asked.{same-variable-is}
use Rattle.ot_log_rules.proofs.Defined.{constants-refused, constants-passed, one-statement}
use Rattle.ot_log_rules.proofs.PutIn.{constants-put}
use Rattle.ot_log_rules.proofs.Substituting.{terms-firsts}
use Rattle.ot_log_rules.proofs.defining.constants.Goals as goal

pub returns-then-not-may-clause-defines : goal.returns-then-not-may-clause-defines
returns-then-not-may-clause-defines c = λ dl sig. constants-refused dl (pairs_at c.args.nodes.now c.args.pairs.now)
    (sequent_at c.args.nodes.now c.args.premise.now) (sym (c.in_ok-may.ensures dl sig) ∙ c.if-not-may.true)

pub first_pairs-requires : goal.first_pairs-requires
first_pairs-requires c = same-variable-is

pub without_hyps-bare-requires : goal.without_hyps-bare-requires
without_hyps-bare-requires c = still-term c.args.nodes.now c.constants_of.new.nodes c.in_ok-replaced.ensures.extends
    c.args.premise.now.concl c.requires.premise.concl

pub put-requires-clause-types : goal.put-requires-clause-types
put-requires-clause-types c = subst (HasTypes c.constants_of.new.nodes) (sym c.new.ensures.empty)
    (All-nil (λ p. HasName c.constants_of.new.nodes p.0 × HasType c.constants_of.new.nodes p.1))

pub put-requires-clause-terms : goal.put-requires-clause-terms
put-requires-clause-terms c =
    let us = c.constants_of.new.nodes in
    subst (HasTerms us) (sym (c.in_ok-terms.ensures ∙ ap (firsts variable_eq) c.deref.ensures.value))
    (terms-firsts us c.primitives.ensures.once c.in_ok-replaced.replaced.items c.in_ok-replaced.ensures.has)

pub returns-clause-defines : goal.returns-clause-defines
returns-clause-defines c = λ dl sig.
    let ts = c.args.nodes.now in
    let us = c.constants_of.new.nodes in
    let vs = c.put.new.nodes in
    let ps = pairs_at ts c.args.pairs.now in
    let q = sequent_at ts c.args.premise.now in
    let entries = c.in_ok-terms.ensures ∙ ap (firsts variable_eq) c.deref.ensures.value in
    let put =
    subst (λ (m : List (VariableNode × ℕ)). IsPut us vs c.new.result.entries m c.without_hyps-bare.result
    c.in_ok-theorem.theorem) entries c.in_ok-theorem.ensures.ok in
    let made = constants-put us vs c.primitives.ensures.once c.in_ok-replaced.replaced.items (constants_for names ps)
    c.without_hyps-bare.result c.in_ok-theorem.theorem c.new.result.entries c.in_ok-replaced.ensures.has
    c.in_ok-replaced.ensures.ok c.without_hyps-bare.ensures.hyps c.new.ensures.empty put in
    let concl = ap (term_at us) c.without_hyps-bare.ensures.concl
    ∙ term-stays ts us c.in_ok-replaced.ensures.extends c.args.premise.now.concl c.requires.premise.concl in (
      subst (All (HasStatement vs)) (sym c.in_ok-theorems.ensures)
          (one-statement vs c.in_ok-theorem.theorem c.in_ok-theorem.ensures.ok.has),
      ap (map (sequent_at vs)) c.in_ok-theorems.ensures
          ∙ (λ i. (made ∙ ap (λ t. sequent_of names (subst_tm names [] (constants_for names ps) t)) concl) i ∷ []),
      constants-passed dl ps q (sym (c.in_ok-may.ensures dl sig) ∙ c.if-not-may.false),
    )

pub returns-in_err-theorems-clause-extends : goal.returns-in_err-theorems-clause-extends
returns-in_err-theorems-clause-extends c =
    Extends-trans c.in_ok-replaced.ensures.extends c.in_ok-theorem.ensures.extends

pub returns-clause-extends : goal.returns-clause-extends
returns-clause-extends c = Extends-trans c.in_ok-replaced.ensures.extends c.in_ok-theorem.ensures.extends
