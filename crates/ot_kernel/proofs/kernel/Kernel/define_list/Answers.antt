use Rattle.std.proofs.Common.{map, sym, subst}
use Rattle.std.proofs.lemmas.Result.{err_from_is_err_and}
use Rattle.ot_logic.specs.Naming.{names}
use Rattle.ot_kernel.specs.Answers.{RefusesBy}
use Rattle.ot_kernel.specs.Defining.{list_definition}
use Rattle.ot_kernel.specs.Spelled.{state_of}
use Rattle.ot_kernel.specs.State.{State, name_at, variable_at, theorem_at}
use Rattle.ot_kernel.proofs.Constants.{defines}
use Rattle.ot_kernel.proofs.EquationRules.{memory_refuses}
use Rattle.ot_kernel.proofs.Later.{Later, later_names, unchanged, held_of, held_at, IsHeld}
use Rattle.ot_kernel.proofs.Lists.{same_list, list_states, list_next, list_stated, distinct_numbers}
use Rattle.ot_kernel.proofs.kernel.Kernel.define_list.Goals as goal
use Rattle.ot_kernel.proofs.kernel.Kernel.define_list.Goals.{After-list_theorem}

abbrev mid : After-list_theorem → State
mid c = state_of c.list_theorem.new.names c.list_theorem.new.terms (held_of c.self.inside)

later : (c : After-list_theorem) → Later c.self.inside.names c.list_theorem.new.names c.self.inside.terms
    c.list_theorem.new.terms (held_of c.self.inside) c.args.self.now (mid c)
later c = later_names _ _ _ _ (held_of c.self.inside) _ c.self.view_is c.self.invariant c.list_theorem.ensures.later
    c.list_theorem.ensures.name_table

premise : (c : After-list_theorem) → IsHeld (later c) c.args.th c.index-premise.result.now
premise c = held_at (later c) _ _ _ c.requires.th c.index-premise.ensures c.th.view_is

pub list_theorem-requires-clause-distinct : goal.list_theorem-requires-clause-distinct
list_theorem-requires-clause-distinct c =
    let l = unchanged _ _ (held_of c.self.inside) _ c.self.view_is c.self.invariant in
    let p = held_at l _ _ _ c.requires.th c.index-premise.ensures c.th.view_is in
    distinct_numbers l c.args.names.now c.args.vars.now c.args.th c.index-premise.result.now c.requires.names
    c.requires.vars c.requires.pairs p c.in_ok-check_constants.ensures.next

pub invariant_of-self : goal.invariant_of-self
invariant_of-self c = (later (goal.at.invariant_of-self c).After-list_theorem).kernel

pub invariant_of-self-2 : goal.invariant_of-self-2
invariant_of-self-2 c = (later (goal.at.invariant_of-self-2 c).After-list_theorem).kernel

pub returns-in_err-theorem-clause-defines : goal.returns-in_err-theorem-clause-defines
returns-in_err-theorem-clause-defines c =
    let p = err_from_is_err_and c.from_residual-in_err-theorem.result c.from_residual-in_err-theorem.ensures.1 in
    let s = c.args.self.now in
    let d = (goal.at.returns-in_err-theorem-clause-defines c).After-list_theorem in
    let stated = list_definition names s.definitions (map (name_at s) c.args.names.now)
    (map (variable_at s) c.args.vars.now) (theorem_at s c.args.th) in
    rw (p.1, p.2) (
      (later d).same,
      subst (λ e. RefusesBy (name_at (mid d)) e stated)
          (sym c.in_err-theorem.ensures.err) (memory_refuses stated (name_at (mid d))),
    )

pub returns-in_err-theorem-clause-keeps : goal.returns-in_err-theorem-clause-keeps
returns-in_err-theorem-clause-keeps c =
    (later (goal.at.returns-in_err-theorem-clause-keeps c).After-list_theorem).keeps

pub accept_constants-requires-clause-next : goal.accept_constants-requires-clause-next
accept_constants-requires-clause-next c =
    let d = (goal.at.accept_constants-requires-clause-next c).After-list_theorem in
    list_next (later d) c.args.names.now c.args.vars.now c.args.th c.index-premise.result.now c.requires.names
    c.requires.vars c.requires.pairs (premise d) c.in_ok-check_constants.ensures.next

pub accept_constants-requires-clause-theorem : goal.accept_constants-requires-clause-theorem
accept_constants-requires-clause-theorem c =
    let d = (goal.at.accept_constants-requires-clause-theorem c).After-list_theorem in
    let made = c.in_ok-theorem.ensures.ok in
    list_states (later d) c.args.names.now c.args.vars.now c.args.th c.index-premise.result.now c.requires.names
    c.requires.vars c.requires.pairs (premise d) c.in_ok-theorem.theorem made.0 made.1

pub returns-clause-defines : goal.returns-clause-defines
returns-clause-defines c =
    let d = (goal.at.returns-clause-defines c).After-list_theorem in
    let s = c.args.self.now in
    let same = same_list (later d) c.args.names.now c.args.vars.now c.args.th c.index-premise.result.now
    c.requires.names c.requires.vars c.requires.pairs (premise d) in
    let stated = list_stated (later d) c.args.names.now c.args.vars.now c.args.th c.index-premise.result.now
    c.requires.names c.requires.vars c.requires.pairs (premise d) c.in_ok-check_constants.ensures.passed in
    (defines (later d) _ _ same _ c.accept_constants.result c.accept_constants.new.self stated
    c.accept_constants.ensures.ok c.accept_constants.ensures.err).0

pub returns-clause-keeps : goal.returns-clause-keeps
returns-clause-keeps c =
    let d = (goal.at.returns-clause-keeps c).After-list_theorem in
    let same = same_list (later d) c.args.names.now c.args.vars.now c.args.th c.index-premise.result.now
    c.requires.names c.requires.vars c.requires.pairs (premise d) in
    let stated = list_stated (later d) c.args.names.now c.args.vars.now c.args.th c.index-premise.result.now
    c.requires.names c.requires.vars c.requires.pairs (premise d) c.in_ok-check_constants.ensures.passed in
    (defines (later d) _ _ same _ c.accept_constants.result c.accept_constants.new.self stated
    c.accept_constants.ensures.ok c.accept_constants.ensures.err).1
