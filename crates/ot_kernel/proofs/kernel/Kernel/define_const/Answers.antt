use Rattle.std.proofs.lemmas.Result.{err_from_is_err_and}
use Rattle.ot_kernel.specs.Spelled.{state_of}
use Rattle.ot_kernel.specs.State.{name_at}
use Rattle.ot_kernel.proofs.Checked.{names_no_symbol}
use Rattle.ot_kernel.proofs.Constants.{next_mid, theorem_is, theorem_refused, theorem_made, constant_defines}
use Rattle.ot_kernel.proofs.Later.{Later, later_terms, held_of}
use Rattle.ot_kernel.proofs.kernel.Kernel.define_const.Goals as goal
use Rattle.ot_kernel.proofs.kernel.Kernel.define_const.Goals.{After-const_theorem}

later : (c : After-const_theorem) → Later c.self.inside.names c.self.inside.names c.self.inside.terms
    c.const_theorem.new.terms (held_of c.self.inside) c.args.self.now
    (state_of c.self.inside.names c.const_theorem.new.terms (held_of c.self.inside))
later c = later_terms c.args.name _ _ _ (held_of c.self.inside) _ c.self.view_is c.self.invariant c.requires.name
    c.const_theorem.ensures.grown

pub invariant_of-self : goal.invariant_of-self
invariant_of-self c = (later (goal.at.invariant_of-self c).After-const_theorem).kernel

pub invariant_of-self-2 : goal.invariant_of-self-2
invariant_of-self-2 c = (later (goal.at.invariant_of-self-2 c).After-const_theorem).kernel

pub returns-in_err-theorem-clause-defines : goal.returns-in_err-theorem-clause-defines
returns-in_err-theorem-clause-defines c =
    let p = err_from_is_err_and c.from_residual-in_err-theorem.result c.from_residual-in_err-theorem.ensures.1 in
    let l = later (goal.at.returns-in_err-theorem-clause-defines c).After-const_theorem in
    rw (p.1, p.2) (
      l.same,
      theorem_refused l c.args.name c.args.t c.requires.name c.requires.t
          c.in_ok-check_constant.ensures.passed _ c.in_err-theorem.ensures.derives
          (name_at (state_of c.self.inside.names c.const_theorem.new.terms (held_of c.self.inside))),
    )

pub returns-in_err-theorem-clause-keeps : goal.returns-in_err-theorem-clause-keeps
returns-in_err-theorem-clause-keeps c =
    (later (goal.at.returns-in_err-theorem-clause-keeps c).After-const_theorem).keeps

pub returns-in_err-theorem-clause-symbols : goal.returns-in_err-theorem-clause-symbols
returns-in_err-theorem-clause-symbols c =
    let p = err_from_is_err_and c.from_residual-in_err-theorem.result c.from_residual-in_err-theorem.ensures.1 in
    rw (p.1, p.2) (names_no_symbol _ _ _ c.in_err-theorem.ensures.derives)

pub accept_constant-requires-clause-next : goal.accept_constant-requires-clause-next
accept_constant-requires-clause-next c =
    next_mid (later (goal.at.accept_constant-requires-clause-next c).After-const_theorem) c.args.name c.args.t
    c.requires.name c.requires.t c.in_ok-check_constant.ensures.next

pub accept_constant-requires-clause-theorem : goal.accept_constant-requires-clause-theorem
accept_constant-requires-clause-theorem c =
    theorem_is (later (goal.at.accept_constant-requires-clause-theorem c).After-const_theorem) c.args.name c.args.t
    c.requires.name c.requires.t c.in_ok-theorem.theorem c.in_ok-theorem.ensures.derives

pub returns-clause-defines : goal.returns-clause-defines
returns-clause-defines c =
    let l = later (goal.at.returns-clause-defines c).After-const_theorem in
    let made = theorem_made l c.args.name c.args.t c.requires.name c.requires.t c.in_ok-check_constant.ensures.passed
    c.in_ok-theorem.theorem c.in_ok-theorem.ensures.derives in
    (constant_defines l c.args.name c.args.t c.requires.name c.requires.t c.accept_constant.result
    c.accept_constant.new.self made c.accept_constant.ensures.ok c.accept_constant.ensures.err).0

pub returns-clause-keeps : goal.returns-clause-keeps
returns-clause-keeps c =
    let l = later (goal.at.returns-clause-keeps c).After-const_theorem in
    let made = theorem_made l c.args.name c.args.t c.requires.name c.requires.t c.in_ok-check_constant.ensures.passed
    c.in_ok-theorem.theorem c.in_ok-theorem.ensures.derives in
    (constant_defines l c.args.name c.args.t c.requires.name c.requires.t c.accept_constant.result
    c.accept_constant.new.self made c.accept_constant.ensures.ok c.accept_constant.ensures.err).1
