use Rattle.std.specs.List.{All, list_all}
use Rattle.std.specs.Option.{option_map}
use Rattle.std.specs.Prelude.{◌==◌}
use Rattle.std.proofs.Common.{ℕ, List, ◌&&◌, length, map, subst, sym, ap, ◌∙◌}
use Rattle.std.proofs.lemmas.List.{length-map}
use Rattle.ot_logic.specs.Naming.{names}
use Rattle.ot_logic.specs.Hol.{same_var}
use Rattle.ot_laws.specs.Conditions.{are_distinct, is_closed_but, terms_given}
use Rattle.ot_log_format.specs.Steps.{all_defined, all_used}
use Rattle.ot_log_nodes.specs.Items.{term_at}
use Rattle.ot_log_nodes.specs.Changing.{variable_at}
use Rattle.ot_log_rules.specs.Definitions.{names_at}
use Rattle.ot_log_rules.specs.Statements.{terms_at, sequent_at}
use Rattle.ot_log_rules.specs.Conditions.{IsTypedTerm, given_terms, may_be_given}
use Rattle.ot_log_rules.specs.declared.conditions.Given.{Given}
use Rattle.ot_log_rules.proofs.Giving.{holds-none, typed-terms}
use Rattle.ot_log_rules.proofs.Checked.{list-unpaired, list-ungiven, list-stale, list-passes}
use Rattle.ot_log_rules.proofs.conditions.may_be_for.Goals as goal

pub terms_given-requires-clause-hyps : goal.terms_given-requires-clause-hyps
terms_given-requires-clause-hyps c = subst (All (IsTypedTerm c.args.nodes.now)) (sym c.deref-2.ensures.value)
    (typed-terms c.args.nodes.now c.args.premise.now.hyps.items c.requires.premise.hyps c.requires.typed.hyps)

pub returns-then-not-paired : goal.returns-then-not-paired
returns-then-not-paired c = λ dl sig.
    let ts = c.args.nodes.now in
    let q = sequent_at ts c.args.premise.now in
    let ns = names_at ts c.args.constants.now in
    let vs = map (variable_at ts) c.args.vars.now in
    let once = are_distinct names.same ns && are_distinct (same_var names) vs in
    let paired = c.in_ok-paired.ensures ∙ ap (λ (is : List ℕ). once && (length is == length c.args.vars.now))
    c.deref.ensures.value
    ∙ (λ i. once && (sym (length-map c.args.premise.now.hyps.items (term_at ts)) i
    == sym (length-map c.args.vars.now (variable_at ts)) i)) in
    list-unpaired (all_defined names dl) (all_used names dl) ns vs q c.in_ok-paired.paired paired c.if-not-paired.true

pub returns-in_default : goal.returns-in_default
returns-in_default c = λ dl sig.
    let ts = c.args.nodes.now in
    let q = sequent_at ts c.args.premise.now in
    let ns = names_at ts c.args.constants.now in
    let vs = map (variable_at ts) c.args.vars.now in
    let once = are_distinct names.same ns && are_distinct (same_var names) vs in
    let paired = c.in_ok-paired.ensures ∙ ap (λ (is : List ℕ). once && (length is == length c.args.vars.now))
    c.deref.ensures.value
    ∙ (λ i. once && (sym (length-map c.args.premise.now.hyps.items (term_at ts)) i
    == sym (length-map c.args.vars.now (variable_at ts)) i)) in
    let none = sym c.in_ok-found.ensures.given
    ∙ ap (option_map (λ gs. given_terms ts gs.items)) (holds-none c.in_ok-found.found c.in_default.not-Some) in
    list-ungiven (all_defined names dl) (all_used names dl) ns vs q c.in_ok-paired.paired paired c.if-not-paired.false
    (ap (λ (is : List ℕ). terms_given names (terms_at ts is) vs) (sym c.deref-2.ensures.value) ∙ none)

pub returns-then-not-fresh : goal.returns-then-not-fresh
returns-then-not-fresh c = λ dl sig.
    let ts = c.args.nodes.now in
    let q = sequent_at ts c.args.premise.now in
    let ns = names_at ts c.args.constants.now in
    let vs = map (variable_at ts) c.args.vars.now in
    let once = are_distinct names.same ns && are_distinct (same_var names) vs in
    let paired = c.in_ok-paired.ensures ∙ ap (λ (is : List ℕ). once && (length is == length c.args.vars.now))
    c.deref.ensures.value
    ∙ (λ i. once && (sym (length-map c.args.premise.now.hyps.items (term_at ts)) i
    == sym (length-map c.args.vars.now (variable_at ts)) i)) in
    let given = sym c.in_ok-found.ensures.given ∙ ap (option_map (λ gs. given_terms ts gs.items)) c.in-Some.is in
    let all = ap (λ (is : List ℕ). terms_given names (terms_at ts is) vs) (sym c.deref-2.ensures.value) ∙ given in
    list-stale (all_defined names dl) (all_used names dl) ns vs q c.in_ok-paired.paired paired c.if-not-paired.false
    (given_terms ts c.in-Some.terms.items) all c.in_ok-fresh.fresh (c.in_ok-fresh.ensures dl sig)
    c.if-not-fresh.true

pub returns : goal.returns
returns c = λ dl sig.
    let ts = c.args.nodes.now in
    let q = sequent_at ts c.args.premise.now in
    let ns = names_at ts c.args.constants.now in
    let vs = map (variable_at ts) c.args.vars.now in
    let once = are_distinct names.same ns && are_distinct (same_var names) vs in
    let paired = c.in_ok-paired.ensures ∙ ap (λ (is : List ℕ). once && (length is == length c.args.vars.now))
    c.deref.ensures.value
    ∙ (λ i. once && (sym (length-map c.args.premise.now.hyps.items (term_at ts)) i
    == sym (length-map c.args.vars.now (variable_at ts)) i)) in
    let given = sym c.in_ok-found.ensures.given ∙ ap (option_map (λ gs. given_terms ts gs.items)) c.in-Some.is in
    let all = ap (λ (is : List ℕ). terms_given names (terms_at ts is) vs) (sym c.deref-2.ensures.value) ∙ given in
    let fits = c.in_ok-fits.ensures
    ∙ ap (λ (gs : List Given). list_all (may_be_given names) (given_terms ts gs)
    && is_closed_but names vs (term_at ts c.args.premise.now.concl)) c.as_slice.ensures.value in
    list-passes (all_defined names dl) (all_used names dl) ns vs q c.in_ok-paired.paired paired c.if-not-paired.false
    (given_terms ts c.in-Some.terms.items) all c.in_ok-fresh.fresh (c.in_ok-fresh.ensures dl sig)
    c.if-not-fresh.false c.in_ok-fits.fits fits
