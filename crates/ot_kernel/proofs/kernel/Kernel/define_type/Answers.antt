use Rattle.std.proofs.Common.{◌≡◌, List, [], ◌∷◌, ◌++◌, map, length, sym, ap, subst, arith}
use Rattle.std.specs.List.{All}
use Rattle.std.proofs.lemmas.Result.{err_from_is_err_and}
use Rattle.std.proofs.lemmas.List.Elements.{All-nil}
use Rattle.ot_logic.specs.Names.{Name}
use Rattle.ot_logic.specs.Naming.{names}
use Rattle.ot_logic.specs.Trees.{Sequent}
use Rattle.ot_laws.specs.Theorem.{IsTheorem}
use Rattle.ot_kernel.specs.declared.theorem.Theorem.{Theorem}
use Rattle.ot_kernel.specs.Spelled.{sequent_of, state_of, IsInside}
use Rattle.ot_kernel.specs.State.{State, name_at}
use Rattle.ot_kernel.proofs.Later.{Later, later_to, unchanged, held_of}
use Rattle.ot_kernel.proofs.Checked.{names_no_symbol}
use Rattle.ot_kernel.proofs.Operators.{AreNames, operator_at, names-bound, premise_is, next_mid}
use Rattle.ot_kernel.proofs.Operators.{both_are, both_refused, both_made, none_further, operator_within}
use Rattle.ot_kernel.proofs.Operators.{operator_defines}
use Rattle.ot_kernel.specs.Accepting.{defining_more}
use Rattle.ot_kernel.proofs.kernel.Kernel.define_type.Goals as goal
use Rattle.ot_kernel.proofs.kernel.Kernel.define_type.Goals.{After-operator_theorems}

abbrev mid : After-operator_theorems → State
mid c = state_of c.self.inside.names c.operator_theorems.new.terms (held_of c.self.inside)

named : (c : After-operator_theorems) → AreNames (length c.args.self.now.names) c.args.name c.args.abs c.args.rep
    c.args.vars.now
named c =
    record { operator = c.requires.name; to = c.requires.abs; from = c.requires.rep; variables = c.requires.vars }

later : (c : After-operator_theorems) → Later c.self.inside.names c.self.inside.names c.self.inside.terms
    c.operator_theorems.new.terms (held_of c.self.inside) c.args.self.now (mid c)
later c =
    let e = ap (λ (s : State). length s.names) c.self.view_is in
    later_to _ _ _ _ (held_of c.self.inside) _ c.self.view_is c.self.invariant
    (names-bound _ _ _ _ c.args.vars.now (omega (arith, e, c.self.invariant.names.first.longer)) (named c))
    c.operator_theorems.ensures.grown

pub operator_theorems-requires-clause-premise : goal.operator_theorems-requires-clause-premise
operator_theorems-requires-clause-premise c =
    premise_is (unchanged _ _ (held_of c.self.inside) _ c.self.view_is c.self.invariant) c.args.name c.args.abs
    c.args.rep c.args.vars.now c.args.th c.concl-concl.result c.requires.th c.concl-concl.ensures.inside
    c.concl-concl.ensures.concl c.in_ok-check_operator.ensures.next

pub invariant_of-self : goal.invariant_of-self
invariant_of-self c = (later (goal.at.invariant_of-self c).After-operator_theorems).kernel

pub invariant_of-self-2 : goal.invariant_of-self-2
invariant_of-self-2 c = (later (goal.at.invariant_of-self-2 c).After-operator_theorems).kernel

pub returns-in_err-theorems-clause-defines : goal.returns-in_err-theorems-clause-defines
returns-in_err-theorems-clause-defines c =
    let p = err_from_is_err_and c.from_residual-in_err-theorems.result c.from_residual-in_err-theorems.ensures.1 in
    let d = (goal.at.returns-in_err-theorems-clause-defines c).After-operator_theorems in
    let l = later d in
    rw (p.1, p.2) (
      l.same,
      both_refused l c.args.name c.args.abs c.args.rep c.args.vars.now c.args.th c.concl-concl.result
          (named d) c.requires.th c.concl-concl.ensures.inside c.concl-concl.ensures.concl
          c.in_ok-check_operator.ensures.passed _ c.in_err-theorems.ensures.derives (name_at (mid d)),
    )

pub returns-in_err-theorems-clause-keeps : goal.returns-in_err-theorems-clause-keeps
returns-in_err-theorems-clause-keeps c =
    (later (goal.at.returns-in_err-theorems-clause-keeps c).After-operator_theorems).keeps

pub returns-in_err-theorems-clause-symbols : goal.returns-in_err-theorems-clause-symbols
returns-in_err-theorems-clause-symbols c =
    let p = err_from_is_err_and c.from_residual-in_err-theorems.result c.from_residual-in_err-theorems.ensures.1 in
    rw (p.1, p.2) (names_no_symbol _ _ _ c.in_err-theorems.ensures.derives)

pub accept_operator-requires-clause-next : goal.accept_operator-requires-clause-next
accept_operator-requires-clause-next c =
    let d = (goal.at.accept_operator-requires-clause-next c).After-operator_theorems in
    next_mid (later d) c.args.name c.args.abs c.args.rep c.args.vars.now c.args.th c.concl-concl.result (named d)
    c.requires.th c.concl-concl.ensures.inside c.concl-concl.ensures.concl c.in_ok-check_operator.ensures.next

pub accept_operator-requires-clause-theorems : goal.accept_operator-requires-clause-theorems
accept_operator-requires-clause-theorems c =
    let d = (goal.at.accept_operator-requires-clause-theorems c).After-operator_theorems in
    both_are (later d) c.args.name c.args.abs c.args.rep c.args.vars.now c.args.th c.concl-concl.result
    (named d) c.requires.th c.concl-concl.ensures.inside c.concl-concl.ensures.concl c.in_ok-theorems.theorems
    c.in_ok-theorems.ensures.derives

pub accept_operator-requires-clause-further : goal.accept_operator-requires-clause-further
accept_operator-requires-clause-further c =
    subst (All (IsInside _)) (sym c.new-further.ensures.items) (All-nil (IsInside _))

pub accept_operator-requires-clause-follow : goal.accept_operator-requires-clause-follow
accept_operator-requires-clause-follow c =
    let d = (goal.at.accept_operator-requires-clause-follow c).After-operator_theorems in
    let e = operator_at (mid d) c.args.name c.args.abs c.args.rep c.args.vars.now c.args.th in
    let Holds : Sequent Name → Type 0 = IsTheorem names (mid d).assumptions ((mid d).definitions ++ e ∷ []) in
    λ _. subst (λ (ths : List Theorem). All Holds (map (sequent_of (mid d).terms) ths))
    (sym c.new-further.ensures.items) (All-nil Holds)

pub returns-clause-defines : goal.returns-clause-defines
returns-clause-defines c =
    let d = (goal.at.returns-clause-defines c).After-operator_theorems in
    let made = both_made (later d) c.args.name c.args.abs c.args.rep c.args.vars.now c.args.th c.concl-concl.result
    (named d) c.requires.th c.concl-concl.ensures.inside c.concl-concl.ensures.concl
    c.in_ok-check_operator.ensures.passed c.in_ok-theorems.theorems c.in_ok-theorems.ensures.derives in
    let further = ap (map (sequent_of (mid d).terms)) c.new-further.ensures.items in
    let plain = none_further c.accept_operator.result (length (mid d).theorems) (mid d) c.accept_operator.new.self
    (operator_at (mid d) c.args.name c.args.abs c.args.rep c.args.vars.now c.args.th) _ further
    c.accept_operator.ensures.ok in
    (operator_defines (later d) c.args.name c.args.abs c.args.rep c.args.vars.now c.args.th c.concl-concl.result
    (named d) c.requires.th c.concl-concl.ensures.inside c.concl-concl.ensures.concl c.accept_operator.result
    c.accept_operator.new.self made plain c.accept_operator.ensures.err).0

pub returns-clause-keeps : goal.returns-clause-keeps
returns-clause-keeps c =
    let d = (goal.at.returns-clause-keeps c).After-operator_theorems in
    let made = both_made (later d) c.args.name c.args.abs c.args.rep c.args.vars.now c.args.th c.concl-concl.result
    (named d) c.requires.th c.concl-concl.ensures.inside c.concl-concl.ensures.concl
    c.in_ok-check_operator.ensures.passed c.in_ok-theorems.theorems c.in_ok-theorems.ensures.derives in
    let further = ap (map (sequent_of (mid d).terms)) c.new-further.ensures.items in
    let plain = none_further c.accept_operator.result (length (mid d).theorems) (mid d) c.accept_operator.new.self
    (operator_at (mid d) c.args.name c.args.abs c.args.rep c.args.vars.now c.args.th) _ further
    c.accept_operator.ensures.ok in
    (operator_defines (later d) c.args.name c.args.abs c.args.rep c.args.vars.now c.args.th c.concl-concl.result
    (named d) c.requires.th c.concl-concl.ensures.inside c.concl-concl.ensures.concl c.accept_operator.result
    c.accept_operator.new.self made plain c.accept_operator.ensures.err).1

pub returns-clause-within : goal.returns-clause-within
returns-clause-within c =
    let d = (goal.at.returns-clause-within c).After-operator_theorems in
    let e = operator_at (mid d) c.args.name c.args.abs c.args.rep c.args.vars.now c.args.th in
    operator_within c.accept_operator.result (λ _. c.accept_operator.new.self
    ≡ defining_more (mid d) e (map (sequent_of (mid d).terms) c.new-further.result.items)) (length (mid d).theorems)
    (length c.accept_operator.new.self.theorems) (length c.new-further.result.items) c.accept_operator.ensures.ok
    c.accept_operator.ensures.count
