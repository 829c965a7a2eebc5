use Rattle.std.proofs.Common.{ℕ, List, length, ◌&&◌, nat_eq, sym, ap, ◌∙◌, [], ◌∷◌}
use Rattle.std.proofs.lemmas.List.Elements.{All-nil, All-cons}
use Rattle.ot_logic.specs.Naming.{names}
use Rattle.ot_laws.specs.Conditions.{function_of}
use Rattle.ot_log_format.specs.Steps.{all_defined, all_used}
use Rattle.ot_log_nodes.specs.Items.{name_at, term_at}
use Rattle.ot_log_rules.specs.Definitions.{names_at}
use Rattle.ot_log_rules.specs.Statements.{sequent_at}
use Rattle.ot_log_rules.specs.Symbols.{IsSymbolMark}
use Rattle.ot_log_rules.specs.declared.parts.Mark.TheVariants as mark
use Rattle.ot_log_rules.proofs.Giving.{empty-terms, no-function_of}
use Rattle.ot_log_rules.proofs.Checked.{type-hyps, type-no_app, type-unlisted, type-passes}
use Rattle.ot_log_rules.proofs.conditions.may_be_type.Goals as goal

pub returns-then-not-is_empty : goal.returns-then-not-is_empty
returns-then-not-is_empty c = λ dl sig.
    let ts = c.args.nodes.now in
    let q = sequent_at ts c.args.premise.now in
    type-hyps (all_defined names dl) (all_used names dl) (name_at ts c.args.name) (name_at ts c.args.abs)
    (name_at ts c.args.rep) (names_at ts c.args.vars.now) q
    (empty-terms ts c.args.premise.now.hyps.items
    ∙ sym (ap (λ (l : List ℕ). nat_eq (length l) 0) c.as_slice.ensures.value) ∙ sym c.is_empty.ensures
    ∙ c.if-not-is_empty.true)

pub returns-in_default : goal.returns-in_default
returns-in_default c = λ dl sig.
    let ts = c.args.nodes.now in
    let q = sequent_at ts c.args.premise.now in
    type-no_app (all_defined names dl) (all_used names dl) (name_at ts c.args.name) (name_at ts c.args.abs)
    (name_at ts c.args.rep) (names_at ts c.args.vars.now) q
    (empty-terms ts c.args.premise.now.hyps.items
    ∙ sym (ap (λ (l : List ℕ). nat_eq (length l) 0) c.as_slice.ensures.value) ∙ sym c.is_empty.ensures
    ∙ c.if-not-is_empty.false) (no-function_of (term_at ts c.args.premise.now.concl) c.in_default.ensures)

pub returns-then-not-listed : goal.returns-then-not-listed
returns-then-not-listed c = λ dl sig.
    let ts = c.args.nodes.now in
    let q = sequent_at ts c.args.premise.now in
    let p = term_at ts c.in-Some.application.0 in
    type-unlisted (all_defined names dl) (all_used names dl) (name_at ts c.args.name) (name_at ts c.args.abs)
    (name_at ts c.args.rep) (names_at ts c.args.vars.now) q
    (empty-terms ts c.args.premise.now.hyps.items
    ∙ sym (ap (λ (l : List ℕ). nat_eq (length l) 0) c.as_slice.ensures.value) ∙ sym c.is_empty.ensures
    ∙ c.if-not-is_empty.false) p (ap function_of c.in-Some.ensures.is) c.in_ok-listed.listed
    (c.in_ok-listed.ensures p c.in_ok-occurring.ensures) c.if-not-listed.true

pub are_symbols_fresh-requires-clause-symbols : goal.are_symbols_fresh-requires-clause-symbols
are_symbols_fresh-requires-clause-symbols c =
    let P = IsSymbolMark c.args.nodes.now in
    All-cons P (mark.Operator c.args.name) (mark.Constant c.args.abs ∷ mark.Constant c.args.rep ∷ []) c.requires.name
    (All-cons P (mark.Constant c.args.abs) (mark.Constant c.args.rep ∷ []) c.requires.abs
    (All-cons P (mark.Constant c.args.rep) [] c.requires.rep (All-nil P)))

pub returns : goal.returns
returns c = λ dl sig.
    let ts = c.args.nodes.now in
    let q = sequent_at ts c.args.premise.now in
    let p = term_at ts c.in-Some.application.0 in
    let fresh = c.in_ok-fresh.ensures dl sig in
    let closed = c.is_closed_but-closed.ensures p c.in_ok-occurring.ensures in
    type-passes (all_defined names dl) (all_used names dl) (name_at ts c.args.name) (name_at ts c.args.abs)
    (name_at ts c.args.rep) (names_at ts c.args.vars.now) q
    (empty-terms ts c.args.premise.now.hyps.items
    ∙ sym (ap (λ (l : List ℕ). nat_eq (length l) 0) c.as_slice.ensures.value) ∙ sym c.is_empty.ensures
    ∙ c.if-not-is_empty.false) p (ap function_of c.in-Some.ensures.is) c.in_ok-listed.listed
    (c.in_ok-listed.ensures p c.in_ok-occurring.ensures) c.if-not-listed.false
    (c.in_ok-fresh.fresh && c.is_closed_but-closed.result) (λ i. fresh i && closed i)
