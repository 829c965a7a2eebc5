use Rattle.std.proofs.Common.{◌≡◌, ◌<◌, ◌+◌, suc, ◌∷◌, map, length, Ok, Err, refl, ap, arith}
use Rattle.std.proofs.lemmas.Result.{err_from_is_err_and}
use Rattle.std.proofs.lemmas.List.{length-map}
use Rattle.ot_logic.specs.Hol.{theorems_at}
use Rattle.ot_logic.specs.Naming.{names, numbers}
use Rattle.ot_term.proofs.Growing.{grown_further}
use Rattle.ot_kernel.specs.Defining.{type_definition}
use Rattle.ot_kernel.specs.Numbered.{tm_at}
use Rattle.ot_kernel.specs.Proved.{bound_of_names, DerivesBoth}
use Rattle.ot_kernel.specs.Spelled.{sequent_of, state_of}
use Rattle.ot_kernel.specs.State.{State, name_at, theorem_at}
use Rattle.ot_kernel.proofs.Checked.{names_no_symbol}
use Rattle.ot_kernel.proofs.Later.{Later, later_to, unchanged, held_of, terms_within}
use Rattle.ot_kernel.proofs.OpenTypes.{premise_stays, limit_stays, both_stay, open_stays, open_inside, open_holds}
use Rattle.ot_kernel.proofs.OpenTypes.{refused_before, open_refused, open_made, nothing_defined, operator_opens}
use Rattle.ot_kernel.proofs.Operators.{AreNames, operator_at, names-bound, premise_is, next_mid}
use Rattle.ot_kernel.proofs.Operators.{both_inside, both_are, both_refused, both_made}
use Rattle.ot_kernel.proofs.kernel.Kernel.define_type_5.Goals as goal
use Rattle.ot_kernel.proofs.kernel.Kernel.define_type_5.Goals.{After-operator_theorems, After-operator_open}

-- ---- the tables after each step
named : (c : After-operator_theorems) → AreNames (length c.args.self.now.names) c.args.name c.args.abs c.args.rep
    c.args.vars.now
named c =
    record { operator = c.requires.name; to = c.requires.abs; from = c.requires.rep; variables = c.requires.vars }

later : (c : After-operator_theorems) → Later c.self.inside.names c.self.inside.names c.self.inside.terms
    c.operator_theorems.new.terms (held_of c.self.inside) c.args.self.now
    (state_of c.self.inside.names c.operator_theorems.new.terms (held_of c.self.inside))
later c =
    let e = ap (λ (s : State). length s.names) c.self.view_is in
    later_to _ _ _ _ (held_of c.self.inside) _ c.self.view_is c.self.invariant
    (names-bound _ _ _ _ c.args.vars.now (omega (arith, e, c.self.invariant.names.first.longer)) (named c))
    c.operator_theorems.ensures.grown

within : (c : After-operator_theorems) → c.concl-concl.result < length c.self.inside.terms.terms
within c = terms_within (unchanged _ _ (held_of c.self.inside) _ c.self.view_is c.self.invariant) c.concl-concl.result
    c.concl-concl.ensures.inside

abbrev mid : After-operator_open → State
mid c = state_of c.self.inside.names c.operator_open.new.terms (held_of c.self.inside)

named_open : (c : After-operator_open) → AreNames (length c.args.self.now.names) c.args.name c.args.abs c.args.rep
    c.args.vars.now
named_open c =
    record { operator = c.requires.name; to = c.requires.abs; from = c.requires.rep; variables = c.requires.vars }

later_open : (c : After-operator_open) → Later c.self.inside.names c.self.inside.names c.self.inside.terms
    c.operator_open.new.terms (held_of c.self.inside) c.args.self.now (mid c)
later_open c =
    let e = ap (λ (s : State). length s.names) c.self.view_is in
    let bound = bound_of_names (4 ∷ c.args.name ∷ c.args.abs ∷ c.args.rep ∷ c.args.vars.now) in
    let grown = grown_further bound bound bound _ _ _ c.operator_theorems.ensures.grown (omega arith)
    c.operator_open.ensures.grown (omega arith) in
    later_to _ _ _ _ (held_of c.self.inside) _ c.self.view_is c.self.invariant
    (names-bound _ _ _ _ c.args.vars.now (omega (arith, e, c.self.invariant.names.first.longer)) (named_open c))
    grown

within_open : (c : After-operator_open) → c.concl-concl.result < length c.self.inside.terms.terms
within_open c = terms_within (unchanged _ _ (held_of c.self.inside) _ c.self.view_is c.self.invariant)
    c.concl-concl.result c.concl-concl.ensures.inside

-- the two theorems, over the last table
both : (c : After-operator_open)
    → DerivesBoth (Ok c.in_ok-theorems.theorems)
    (theorems_at numbers c.args.name c.args.abs c.args.rep c.args.vars.now
    (tm_at c.self.inside.terms.terms c.concl-concl.result)) c.operator_open.new.terms.terms
both c =
    both_stay c.self.inside.terms c.operator_theorems.new.terms c.operator_theorems.ensures.grown.grows
    c.operator_theorems.ensures.grown.table c.args.name c.args.abs c.args.rep c.args.vars.now c.concl-concl.result
    (within_open c) c.operator_open.new.terms c.operator_open.ensures.grown.grows c.in_ok-theorems.theorems
    c.in_ok-theorems.ensures.derives

made : (c : After-operator_open)
    → type_definition names c.args.self.now.definitions (name_at c.args.self.now c.args.name)
    (name_at c.args.self.now c.args.abs) (name_at c.args.self.now c.args.rep)
    (map (name_at c.args.self.now) c.args.vars.now) (theorem_at c.args.self.now c.args.th)
    ≡ Ok (operator_at c.args.self.now c.args.name c.args.abs c.args.rep c.args.vars.now c.args.th)
made c = both_made (later_open c) c.args.name c.args.abs c.args.rep c.args.vars.now c.args.th c.concl-concl.result
    (named_open c) c.requires.th c.concl-concl.ensures.inside c.concl-concl.ensures.concl
    c.in_ok-check_operator.ensures.passed c.in_ok-theorems.theorems (both c)

-- ---- the calls
pub operator_theorems-requires-clause-premise : goal.operator_theorems-requires-clause-premise
operator_theorems-requires-clause-premise c =
    premise_is (unchanged _ _ (held_of c.self.inside) _ c.self.view_is c.self.invariant) c.args.name c.args.abs
    c.args.rep c.args.vars.now c.args.th c.concl-concl.result c.requires.th c.concl-concl.ensures.inside
    c.concl-concl.ensures.concl c.in_ok-check_operator.ensures.next

pub operator_open-requires-clause-premise : goal.operator_open-requires-clause-premise
operator_open-requires-clause-premise c =
    let d = (goal.at.operator_open-requires-clause-premise c).After-operator_theorems in
    premise_stays c.self.inside.terms c.operator_theorems.new.terms c.operator_theorems.ensures.grown.grows
    c.operator_theorems.ensures.grown.table c.args.name c.args.abs c.args.rep c.args.vars.now c.concl-concl.result
    (within d)
    (premise_is (unchanged _ _ (held_of c.self.inside) _ c.self.view_is c.self.invariant) c.args.name c.args.abs
    c.args.rep c.args.vars.now c.args.th c.concl-concl.result c.requires.th c.concl-concl.ensures.inside
    c.concl-concl.ensures.concl c.in_ok-check_operator.ensures.next)

pub operator_open-requires-clause-limit : goal.operator_open-requires-clause-limit
operator_open-requires-clause-limit c =
    let d = (goal.at.operator_open-requires-clause-limit c).After-operator_theorems in
    limit_stays c.self.inside.terms c.operator_theorems.new.terms c.operator_theorems.ensures.grown.grows
    c.operator_theorems.ensures.grown.table c.args.name c.args.abs c.args.rep c.args.vars.now c.concl-concl.result
    (within d) c.in_ok-theorems.theorems c.in_ok-theorems.ensures.derives

-- ---- refusals
pub returns-in_err-check_operator-clause-defines : goal.returns-in_err-check_operator-clause-defines
returns-in_err-check_operator-clause-defines c =
    let p = err_from_is_err_and c.from_residual.result c.from_residual.ensures.1 in
    let l = unchanged _ _ (held_of c.self.inside) _ c.self.view_is c.self.invariant in
    rw (p.1, p.2) (
      l.same,
      refused_before c.args.self.now c.args.name c.args.abs c.args.rep c.args.vars.now c.args.th
          (name_at c.args.self.now) _ c.in_err-check_operator.ensures.refused,
    )

pub returns-in_err-theorems-clause-defines : goal.returns-in_err-theorems-clause-defines
returns-in_err-theorems-clause-defines c =
    let p = err_from_is_err_and c.from_residual-in_err-theorems.result c.from_residual-in_err-theorems.ensures.1 in
    let d = (goal.at.returns-in_err-theorems-clause-defines c).After-operator_theorems in
    let l = later d in
    let read = name_at (state_of c.self.inside.names c.operator_theorems.new.terms (held_of c.self.inside)) in
    rw (p.1, p.2) (
      l.same,
      refused_before c.args.self.now c.args.name c.args.abs c.args.rep c.args.vars.now c.args.th read _
          (both_refused l c.args.name c.args.abs c.args.rep c.args.vars.now c.args.th c.concl-concl.result
          (named d) c.requires.th c.concl-concl.ensures.inside c.concl-concl.ensures.concl
          c.in_ok-check_operator.ensures.passed _ c.in_err-theorems.ensures.derives read),
    )

pub returns-in_err-theorems-clause-symbols : goal.returns-in_err-theorems-clause-symbols
returns-in_err-theorems-clause-symbols c =
    let p = err_from_is_err_and c.from_residual-in_err-theorems.result c.from_residual-in_err-theorems.ensures.1 in
    rw (p.1, p.2) (names_no_symbol _ _ _ c.in_err-theorems.ensures.derives)

pub returns-in_err-theorems-clause-keeps : goal.returns-in_err-theorems-clause-keeps
returns-in_err-theorems-clause-keeps c =
    (later (goal.at.returns-in_err-theorems-clause-keeps c).After-operator_theorems).keeps

pub returns-in_err-open-clause-keeps : goal.returns-in_err-open-clause-keeps
returns-in_err-open-clause-keeps c =
    (later_open (goal.at.returns-in_err-open-clause-keeps c).After-operator_open).keeps

pub returns-in_err-open-clause-defines : goal.returns-in_err-open-clause-defines
returns-in_err-open-clause-defines c =
    let d = (goal.at.returns-in_err-open-clause-defines c).After-operator_open in
    let p = err_from_is_err_and c.from_residual-in_err-open.result c.from_residual-in_err-open.ensures.1 in
    let refused = open_stays c.self.inside.terms c.operator_theorems.new.terms c.operator_theorems.ensures.grown.grows
    c.operator_theorems.ensures.grown.table c.args.name c.args.abs c.args.rep c.args.vars.now c.concl-concl.result
    (within_open d) c.operator_open.new.terms c.operator_open.ensures.grown.grows (Err c.in_err-open.field-0.0)
    c.in_err-open.ensures.derives in
    rw (p.1, p.2) (
      (later_open d).same,
      open_refused (later_open d) c.args.name c.args.abs c.args.rep c.args.vars.now c.args.th
          c.concl-concl.result (named_open d) c.requires.th c.concl-concl.ensures.inside c.concl-concl.ensures.concl
          (made d) _ refused (name_at (mid d)),
    )

pub returns-in_err-open-clause-symbols : goal.returns-in_err-open-clause-symbols
returns-in_err-open-clause-symbols c =
    let p = err_from_is_err_and c.from_residual-in_err-open.result c.from_residual-in_err-open.ensures.1 in
    rw (p.1, p.2) (names_no_symbol _ _ _ c.in_err-open.ensures.derives)

pub returns-in_err-further-clause-defines : goal.returns-in_err-further-clause-defines
returns-in_err-further-clause-defines c =
    let d = (goal.at.returns-in_err-further-clause-defines c).After-operator_open in
    let p = err_from_is_err_and c.from_residual-in_err-further.result c.from_residual-in_err-further.ensures.1 in
    rw (p.1, p.2)
    (nothing_defined (later_open d) c.args.name c.args.abs c.args.rep c.args.vars.now c.args.th
    c.concl-concl.result (named_open d) c.requires.th c.concl-concl.ensures.inside c.concl-concl.ensures.concl _
    (mid d) (refl, refl)).0

pub returns-in_err-further-clause-keeps : goal.returns-in_err-further-clause-keeps
returns-in_err-further-clause-keeps c =
    let d = (goal.at.returns-in_err-further-clause-keeps c).After-operator_open in
    (later_open d).keeps

pub accept_operator-requires-clause-first : goal.accept_operator-requires-clause-first
accept_operator-requires-clause-first c =
    let d = (goal.at.accept_operator-requires-clause-first c).After-operator_open in
    (both_inside (later_open d) c.args.name c.args.abs c.args.rep c.args.vars.now c.args.th c.concl-concl.result
    (named_open d) c.requires.th c.concl-concl.ensures.inside c.concl-concl.ensures.concl
    c.in_ok-theorems.theorems (both d)).0

pub accept_operator-requires-clause-second : goal.accept_operator-requires-clause-second
accept_operator-requires-clause-second c =
    let d = (goal.at.accept_operator-requires-clause-second c).After-operator_open in
    (both_inside (later_open d) c.args.name c.args.abs c.args.rep c.args.vars.now c.args.th c.concl-concl.result
    (named_open d) c.requires.th c.concl-concl.ensures.inside c.concl-concl.ensures.concl
    c.in_ok-theorems.theorems (both d)).1

pub accept_operator-requires-clause-next : goal.accept_operator-requires-clause-next
accept_operator-requires-clause-next c =
    let d = (goal.at.accept_operator-requires-clause-next c).After-operator_open in
    next_mid (later_open d) c.args.name c.args.abs c.args.rep c.args.vars.now c.args.th c.concl-concl.result
    (named_open d) c.requires.th c.concl-concl.ensures.inside c.concl-concl.ensures.concl
    c.in_ok-check_operator.ensures.next

pub accept_operator-requires-clause-theorems : goal.accept_operator-requires-clause-theorems
accept_operator-requires-clause-theorems c =
    let d = (goal.at.accept_operator-requires-clause-theorems c).After-operator_open in
    both_are (later_open d) c.args.name c.args.abs c.args.rep c.args.vars.now c.args.th c.concl-concl.result
    (named_open d) c.requires.th c.concl-concl.ensures.inside c.concl-concl.ensures.concl
    c.in_ok-theorems.theorems (both d)

pub accept_operator-requires-clause-further : goal.accept_operator-requires-clause-further
accept_operator-requires-clause-further c =
    let d = (goal.at.accept_operator-requires-clause-further c).After-operator_open in
    let made_open =
    open_stays c.self.inside.terms c.operator_theorems.new.terms c.operator_theorems.ensures.grown.grows
    c.operator_theorems.ensures.grown.table c.args.name c.args.abs c.args.rep c.args.vars.now c.concl-concl.result
    (within_open d) c.operator_open.new.terms c.operator_open.ensures.grown.grows (Ok c.in_ok-open.open)
    c.in_ok-open.ensures.derives in
    open_inside (later_open d) c.args.name c.args.abs c.args.rep c.args.vars.now c.args.th c.concl-concl.result
    (named_open d) c.requires.th c.concl-concl.ensures.inside c.concl-concl.ensures.concl c.in_ok-open.open
    made_open c.in_ok-further.further.items c.in_ok-further.ensures

pub accept_operator-requires-clause-follow : goal.accept_operator-requires-clause-follow
accept_operator-requires-clause-follow c =
    let d = (goal.at.accept_operator-requires-clause-follow c).After-operator_open in
    let made_open =
    open_stays c.self.inside.terms c.operator_theorems.new.terms c.operator_theorems.ensures.grown.grows
    c.operator_theorems.ensures.grown.table c.args.name c.args.abs c.args.rep c.args.vars.now c.concl-concl.result
    (within_open d) c.operator_open.new.terms c.operator_open.ensures.grown.grows (Ok c.in_ok-open.open)
    c.in_ok-open.ensures.derives in
    open_holds (later_open d) c.args.name c.args.abs c.args.rep c.args.vars.now c.args.th c.concl-concl.result
    (named_open d) c.requires.th c.concl-concl.ensures.inside c.concl-concl.ensures.concl
    c.in_ok-check_operator.ensures.next c.in_ok-open.open made_open c.in_ok-further.further.items
    c.in_ok-further.ensures

pub returns-in_err-numbers-clause-defines : goal.returns-in_err-numbers-clause-defines
returns-in_err-numbers-clause-defines c =
    let d = (goal.at.returns-in_err-numbers-clause-defines c).After-operator_open in
    let p = err_from_is_err_and c.from_residual-in_err-numbers.result c.from_residual-in_err-numbers.ensures.1 in
    rw (p.1, p.2)
    (nothing_defined (later_open d) c.args.name c.args.abs c.args.rep c.args.vars.now c.args.th
    c.concl-concl.result (named_open d) c.requires.th c.concl-concl.ensures.inside c.concl-concl.ensures.concl _
    c.accept_operator.new.self c.in_err-numbers.ensures.err).0

pub returns-in_err-numbers-clause-keeps : goal.returns-in_err-numbers-clause-keeps
returns-in_err-numbers-clause-keeps c =
    let d = (goal.at.returns-in_err-numbers-clause-keeps c).After-operator_open in
    (nothing_defined (later_open d) c.args.name c.args.abs c.args.rep c.args.vars.now c.args.th c.concl-concl.result
    (named_open d) c.requires.th c.concl-concl.ensures.inside c.concl-concl.ensures.concl _
    c.accept_operator.new.self c.in_err-numbers.ensures.err).1

pub returns-clause-defines : goal.returns-clause-defines
returns-clause-defines c =
    let d = (goal.at.returns-clause-defines c).After-operator_open in
    let made_open =
    open_stays c.self.inside.terms c.operator_theorems.new.terms c.operator_theorems.ensures.grown.grows
    c.operator_theorems.ensures.grown.table c.args.name c.args.abs c.args.rep c.args.vars.now c.concl-concl.result
    (within_open d) c.operator_open.new.terms c.operator_open.ensures.grown.grows (Ok c.in_ok-open.open)
    c.in_ok-open.ensures.derives in
    let answer = open_made (later_open d) c.args.name c.args.abs c.args.rep c.args.vars.now c.args.th
    c.concl-concl.result (named_open d) c.requires.th c.concl-concl.ensures.inside c.concl-concl.ensures.concl
    (made d) c.in_ok-open.open made_open in
    let e = ap (λ (s : State). length s.theorems) c.self.view_is in
    let n = length-map c.self.inside.theorems.items
    (sequent_of (state_of c.self.inside.names c.self.inside.terms (held_of c.self.inside)).terms) in
    let kept = ap length (later_open d).same.theorems in
    let ok = c.in_ok-numbers.ensures.ok in
    let count : c.len-count.result ≡ length (mid d).theorems =
    omega (arith, e, n, kept, c.len-count.ensures, c.self.inside.theorems.ok.0) in
    let third : c.len-count.result + 2 ≡ suc (suc (length (mid d).theorems)) = omega (arith, count) in
    let fourth : c.len-count.result + 3 ≡ suc (suc (suc (length (mid d).theorems))) = omega (arith, count) in
    let done = operator_opens (later_open d) c.args.name c.args.abs c.args.rep c.args.vars.now c.args.th
    c.concl-concl.result (named_open d) c.requires.th c.concl-concl.ensures.inside c.concl-concl.ensures.concl
    answer c.in_ok-open.open made_open c.in_ok-further.further.items c.in_ok-further.ensures
    c.accept_operator.new.self ok.2 _
    (λ j. record { abs_th = ok.0 j; rep_th = ok.1 j; abs_open = third j; rep_open = fourth j }) in
    done.0

pub returns-clause-keeps : goal.returns-clause-keeps
returns-clause-keeps c =
    let d = (goal.at.returns-clause-keeps c).After-operator_open in
    let made_open =
    open_stays c.self.inside.terms c.operator_theorems.new.terms c.operator_theorems.ensures.grown.grows
    c.operator_theorems.ensures.grown.table c.args.name c.args.abs c.args.rep c.args.vars.now c.concl-concl.result
    (within_open d) c.operator_open.new.terms c.operator_open.ensures.grown.grows (Ok c.in_ok-open.open)
    c.in_ok-open.ensures.derives in
    let answer = open_made (later_open d) c.args.name c.args.abs c.args.rep c.args.vars.now c.args.th
    c.concl-concl.result (named_open d) c.requires.th c.concl-concl.ensures.inside c.concl-concl.ensures.concl
    (made d) c.in_ok-open.open made_open in
    let e = ap (λ (s : State). length s.theorems) c.self.view_is in
    let n = length-map c.self.inside.theorems.items
    (sequent_of (state_of c.self.inside.names c.self.inside.terms (held_of c.self.inside)).terms) in
    let kept = ap length (later_open d).same.theorems in
    let ok = c.in_ok-numbers.ensures.ok in
    let count : c.len-count.result ≡ length (mid d).theorems =
    omega (arith, e, n, kept, c.len-count.ensures, c.self.inside.theorems.ok.0) in
    let third : c.len-count.result + 2 ≡ suc (suc (length (mid d).theorems)) = omega (arith, count) in
    let fourth : c.len-count.result + 3 ≡ suc (suc (suc (length (mid d).theorems))) = omega (arith, count) in
    let done = operator_opens (later_open d) c.args.name c.args.abs c.args.rep c.args.vars.now c.args.th
    c.concl-concl.result (named_open d) c.requires.th c.concl-concl.ensures.inside c.concl-concl.ensures.concl
    answer c.in_ok-open.open made_open c.in_ok-further.further.items c.in_ok-further.ensures
    c.accept_operator.new.self ok.2 _
    (λ j. record { abs_th = ok.0 j; rep_th = ok.1 j; abs_open = third j; rep_open = fourth j }) in
    done.1

pub returns-clause-within : goal.returns-clause-within
returns-clause-within c =
    let d = (goal.at.returns-clause-within c).After-operator_open in
    let e = ap (λ (s : State). length s.theorems) c.self.view_is in
    let n = length-map c.self.inside.theorems.items
    (sequent_of (state_of c.self.inside.names c.self.inside.terms (held_of c.self.inside)).terms) in
    let kept = ap length (later_open d).same.theorems in
    let ok = c.in_ok-numbers.ensures.ok in
    let all = c.in_ok-numbers.ensures.count in
    let two = ap length c.in_ok-further.ensures in
    let count : c.len-count.result ≡ length (mid d).theorems =
    omega (arith, e, n, kept, c.len-count.ensures, c.self.inside.theorems.ok.0) in (
      omega (arith, ok.0, all),
      omega (arith, ok.1, all, two),
      omega (arith, count, all, two),
      omega (arith, count, all, two),
    )

-- ---- the kernel at each exit, and at the last call
pub invariant_of-self : goal.invariant_of-self
invariant_of-self c = (later (goal.at.invariant_of-self c).After-operator_theorems).kernel

pub invariant_of-self-2 : goal.invariant_of-self-2
invariant_of-self-2 c = (later_open (goal.at.invariant_of-self-2 c).After-operator_open).kernel

pub invariant_of-self-in_err-open : goal.invariant_of-self-in_err-open
invariant_of-self-in_err-open c = (later_open (goal.at.invariant_of-self-in_err-open c).After-operator_open).kernel

pub invariant_of-self-in_err-further : goal.invariant_of-self-in_err-further
invariant_of-self-in_err-further c =
    (later_open (goal.at.invariant_of-self-in_err-further c).After-operator_open).kernel
