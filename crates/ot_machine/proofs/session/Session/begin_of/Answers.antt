use Rattle.std.proofs.Common.{◌≡◌, ◌<◌, ◌∷◌, drop, length, sym, subst, ◌∙◌, arith}
use Rattle.std.specs.List.{All}
use Rattle.std.proofs.lemmas.List.Elements.{All-head}
use Rattle.std.proofs.lemmas.Bool.{eqb-true, eqb-false}
use Rattle.ot_kernel.specs.State.{name_at}
use Rattle.ot_machine.specs.RenamedLists.{cons_numbers}
use Rattle.ot_machine.proofs.RenamedLists.{first-of, none-of, cons-below, no-begin_read}
use Rattle.ot_machine.proofs.RenamedLists.{other_begin-read, begin-read, begin-inside}
use Rattle.ot_machine.proofs.session.Session.begin_of.Goals as goal
use Rattle.ot_machine.proofs.session.Session.begin_of.Goals.{After-index-operands-0}

-- the numbers begin with the one that was read
first : (c : After-index-operands-0)
    → cons_numbers c.step.result.now ≡ c.index-operands-0.result ∷ drop 1 c.cons_operands-operands.result.now
first c =
    let is = c.cons_operands-operands.result.now in
    sym c.cons_operands-operands.ensures
    ∙ first-of is c.index-operands-0.result
    (eqb-false (length is) 0 (sym c.is_empty.ensures ∙ c.if-is_empty.false)) c.index-operands-0.is

pub returns-then-is_empty-clause-none : goal.returns-then-is_empty-clause-none
returns-then-is_empty-clause-none c =
    let is = c.cons_operands-operands.result.now in
    let none = none-of (cons_numbers c.step.result.now) is c.cons_operands-operands.ensures
    (eqb-true (length is) 0 (sym c.is_empty.ensures ∙ c.if-is_empty.true)) in
    λ f. no-begin_read c.args.self.now.trace c.args.pair c.step.result.now c.step.ensures.origin
    (name_at c.args.self.now.kernel) f none

pub returns-in-Name-clause-some : goal.returns-in-Name-clause-some
returns-in-Name-clause-some c =
    let are = first (goal.at.returns-in-Name-clause-some c).After-index-operands-0 in
    begin-read c.args.self.now.trace c.args.pair c.step.result.now c.step.ensures.origin c.index-operands-0.result _
    are c.step-2.result.now c.step-2.ensures.origin c.in-Name.name c.in-Name.is

pub returns-in-Name-clause-name : goal.returns-in-Name-clause-name
returns-in-Name-clause-name c =
    let ts = c.args.self.now.trace in
    let are = first (goal.at.returns-in-Name-clause-name c).After-index-operands-0 in
    let below : All (λ i. i < c.args.pair) (c.index-operands-0.result ∷ drop 1 c.cons_operands-operands.result.now) =
    subst (All (λ i. i < c.args.pair)) are (cons-below c.args.pair c.step.result.now c.step.ensures.below) in
    let inside = All-head (λ i. i < c.args.pair) c.index-operands-0.result _ below in
    begin-inside ts c.args.pair c.step.result.now c.step.ensures.origin c.index-operands-0.result _ are
    c.step-2.result.now c.step-2.ensures.origin (length c.args.self.now.kernel.names) c.in-Name.name
    c.requires.run.named (omega (arith, inside, c.requires.inside)) c.in-Name.is

pub returns-in_default-clause-none : goal.returns-in_default-clause-none
returns-in_default-clause-none c =
    let are = first (goal.at.returns-in_default-clause-none c).After-index-operands-0 in
    λ f. other_begin-read c.args.self.now.trace c.args.pair c.step.result.now c.step.ensures.origin
    c.index-operands-0.result _ are c.step-2.result.now c.step-2.ensures.origin (name_at c.args.self.now.kernel) f
    c.in_default.not-Name
