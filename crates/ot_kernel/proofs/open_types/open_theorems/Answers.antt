use Rattle.std.proofs.Common.{◌≡◌, ℕ, ◌∷◌, Result, Ok, sym, ap, subst, arith}
use Rattle.std.proofs.lemmas.Result.{err_from_is_err_and}
use Rattle.ot_logic.specs.Faults.{Fault}
use Rattle.ot_logic.specs.Trees.{Ty, TyOp, Tm, Sequent}
use Rattle.ot_logic.specs.Hol.{tys_of_vars, sequent_of, IsClosed}
use Rattle.ot_logic.specs.Naming.{numbers}
use Rattle.ot_logic.specs.Rules.{within_limit}
use Rattle.ot_type.specs.TypeTable.{type_at}
use Rattle.ot_term.specs.Term.{TermTable}
use Rattle.ot_term.specs.TermTable.{IsGrownTo}
use Rattle.ot_term.proofs.Growing.{grown_further}
use Rattle.ot_kernel.specs.Numbered.{tm_at, Derives}
use Rattle.ot_kernel.specs.Equating.{limited}
use Rattle.ot_kernel.specs.Opening.{beta_over}
use Rattle.ot_kernel.specs.Proved.{bound_of_names}
use Rattle.ot_kernel.proofs.Equating.{tm_at-Grows}
use Rattle.ot_kernel.proofs.Conversions.{AreConversions, conversions_made, conversions_later, to_tree, from_tree}
use Rattle.ot_kernel.proofs.Conversions.{turns_new, turns_old, open_first_is, open_second_is, predicate_typed}
use Rattle.ot_kernel.proofs.Conversions.{deepest_is, refuses_as, derives_as}
use Rattle.ot_kernel.proofs.OpenTypes.{open_to_refused, open_from_refused, deepest_refused}
use Rattle.ot_kernel.proofs.OpenTypes.{open_first_refused, open_second_refused, open_derived}
use Rattle.ot_kernel.proofs.open_types.open_theorems.Goals as goal
use Rattle.ot_kernel.proofs.open_types.open_theorems.Goals.{Start, After-constant_between, After-constant_between-2}
use Rattle.ot_kernel.proofs.open_types.open_theorems.Goals.{In_ok-rep, After-beta_theorem, In_ok-_deepest}
use Rattle.ot_kernel.proofs.open_types.open_theorems.Goals.{After-open_abs_theorem, After-open_rep_theorem}

-- the new type, the old one and the predicate
abbrev T : Start → Ty ℕ
T c = TyOp c.args.op (tys_of_vars numbers c.args.vars.now)

abbrev U : Start → Ty ℕ
U c = type_at c.args.terms.now.types c.args.u

abbrev P : Start → Tm ℕ
P c = tm_at c.args.terms.now.terms c.args.p

-- ---- the growth until each step
abbrev Grown : Start → TermTable → Type 0
Grown c = IsGrownTo (bound_of_names (4 ∷ c.args.op ∷ c.args.abs ∷ c.args.rep ∷ c.args.vars.now)) c.args.terms.now

to_grown : (c : After-constant_between) → Grown (goal.at.After-constant_between c).Start c.constant_between.new.terms
to_grown c = grown_further _ _ _ _ _ _ c.new_type.ensures.grown (omega arith) c.constant_between.ensures.grown
    (omega arith)

from_grown : (c : After-constant_between-2)
    → Grown (goal.at.After-constant_between-2 c).Start c.constant_between-2.new.terms
from_grown c = grown_further _ _ _ _ _ _ (to_grown (goal.at.After-constant_between-2 c).After-constant_between)
    (omega arith) c.constant_between-2.ensures.grown (omega arith)

deepest_grown : (c : After-beta_theorem) → Grown (goal.at.After-beta_theorem c).Start c.beta_theorem.new.terms
deepest_grown c = grown_further _ _ _ _ _ _ (from_grown (goal.at.After-beta_theorem c).After-constant_between-2)
    (omega arith) c.beta_theorem.ensures.grown (omega arith)

first_grown : (c : After-open_abs_theorem)
    → Grown (goal.at.After-open_abs_theorem c).Start c.open_abs_theorem.new.terms
first_grown c = grown_further _ _ _ _ _ _ (deepest_grown (goal.at.After-open_abs_theorem c).After-beta_theorem)
    (omega arith) c.open_abs_theorem.ensures.grown (omega arith)

second_grown : (c : After-open_rep_theorem)
    → Grown (goal.at.After-open_rep_theorem c).Start c.open_rep_theorem.new.terms
second_grown c = grown_further _ _ _ _ _ _ (first_grown (goal.at.After-open_rep_theorem c).After-open_abs_theorem)
    (omega arith) c.open_rep_theorem.ensures.grown (omega arith)

-- ---- the two types and the constants between them, over each table
abbrev Converts : In_ok-rep → TermTable → Type 0
Converts c m =
    let s = (goal.at.In_ok-rep c).Start in
    AreConversions (T s) (U s) c.args.abs c.args.rep m c.in_ok-ty.ty c.args.u c.in_ok-abs.abs c.in_ok-rep.rep

made : (c : In_ok-rep) → Converts c c.constant_between-2.new.terms
made c =
    conversions_made c.new_type.ensures.grown.grows c.args.u c.args.abs c.args.rep c.requires.u
    c.in_ok-ty.ensures.ok c.constant_between.ensures.grown.grows c.in_ok-abs.abs c.in_ok-rep.rep
    c.constant_between-2.ensures.grown.grows c.in_ok-abs.ensures.makes c.in_ok-rep.ensures.makes

made_first : (c : After-beta_theorem) → Converts (goal.at.After-beta_theorem c).In_ok-rep c.beta_theorem.new.terms
made_first c = conversions_later c.beta_theorem.ensures.grown.grows (made (goal.at.After-beta_theorem c).In_ok-rep)

made_second : (c : After-open_abs_theorem)
    → Converts (goal.at.After-open_abs_theorem c).In_ok-rep c.open_abs_theorem.new.terms
made_second c = conversions_later c.open_abs_theorem.ensures.grown.grows
    (made_first (goal.at.After-open_abs_theorem c).After-beta_theorem)

-- the predicate over the tables of the deepest theorem and of the second one
same_deepest : (c : After-constant_between-2) → tm_at c.constant_between-2.new.terms.terms c.args.p
    ≡ P (goal.at.After-constant_between-2 c).Start
same_deepest c =
    tm_at-Grows c.args.terms.now c.constant_between-2.new.terms (from_grown c).grows c.args.p c.requires.p

same_second : (c : After-open_abs_theorem) → tm_at c.open_abs_theorem.new.terms.terms c.args.p
    ≡ P (goal.at.After-open_abs_theorem c).Start
same_second c =
    tm_at-Grows c.args.terms.now c.open_abs_theorem.new.terms (first_grown c).grows c.args.p c.requires.p

-- ---- the constants
pub returns-in_err-abs-clause-derives : goal.returns-in_err-abs-clause-derives
returns-in_err-abs-clause-derives c =
    let s = (goal.at.returns-in_err-abs-clause-derives c).Start in
    let p = err_from_is_err_and c.from_residual-in_err-abs.result c.from_residual-in_err-abs.ensures.1 in
    rw (p.1, p.2)
    (open_to_refused (T s) (U s) c.args.abs c.args.rep (P s) c.requires.closed c.requires.typed c.requires.limit _
    (refuses_as c.in_err-abs.field-0.0 (ap (limited numbers) (to_tree c.new_type.ensures.grown.grows c.args.u
    c.args.abs c.args.rep c.requires.u c.in_ok-ty.ensures.ok)) c.in_err-abs.ensures.makes))

pub returns-in_err-abs-clause-grown : goal.returns-in_err-abs-clause-grown
returns-in_err-abs-clause-grown c = to_grown (goal.at.returns-in_err-abs-clause-grown c).After-constant_between

pub returns-in_err-rep-clause-derives : goal.returns-in_err-rep-clause-derives
returns-in_err-rep-clause-derives c =
    let s = (goal.at.returns-in_err-rep-clause-derives c).Start in
    let p = err_from_is_err_and c.from_residual-in_err-rep.result c.from_residual-in_err-rep.ensures.1 in
    rw (p.1, p.2)
    (open_from_refused (T s) (U s) c.args.abs c.args.rep (P s) c.requires.closed c.requires.typed c.requires.limit _
    (refuses_as c.in_err-rep.field-0.0 (ap (limited numbers) (from_tree c.new_type.ensures.grown.grows c.args.u
    c.args.abs c.args.rep c.requires.u c.in_ok-ty.ensures.ok c.constant_between.ensures.grown.grows))
    c.in_err-rep.ensures.makes))

pub returns-in_err-rep-clause-grown : goal.returns-in_err-rep-clause-grown
returns-in_err-rep-clause-grown c = from_grown (goal.at.returns-in_err-rep-clause-grown c).After-constant_between-2

-- ---- the deepest theorem
pub beta_theorem-requires-clause-predicate : goal.beta_theorem-requires-clause-predicate
beta_theorem-requires-clause-predicate c =
    let d = goal.at.beta_theorem-requires-clause-predicate c in
    predicate_typed (made d.In_ok-rep) (P d.Start) c.args.p (same_deepest d.After-constant_between-2)
    c.requires.typed

pub beta_theorem-requires-clause-closed : goal.beta_theorem-requires-clause-closed
beta_theorem-requires-clause-closed c =
    let d = goal.at.beta_theorem-requires-clause-closed c in
    subst (IsClosed numbers) (sym (same_deepest d.After-constant_between-2)) c.requires.closed

abbrev deepest : Start → Result (Sequent ℕ) (Fault ℕ)
deepest c = within_limit numbers (sequent_of numbers (beta_over numbers (record { name = 4; ty = U c }) (P c)))

pub returns-in_err-_deepest-clause-derives : goal.returns-in_err-_deepest-clause-derives
returns-in_err-_deepest-clause-derives c =
    let d = goal.at.returns-in_err-_deepest-clause-derives c in
    let s = d.Start in
    let p = err_from_is_err_and c.from_residual-in_err-_deepest.result c.from_residual-in_err-_deepest.ensures.1 in
    rw (p.1, p.2)
    (deepest_refused (T s) (U s) c.args.abs c.args.rep (P s) c.requires.closed c.requires.typed c.requires.limit _
    (refuses_as c.in_err-_deepest.field-0.0 (deepest_is (made d.In_ok-rep) (P s) c.args.p
    (same_deepest d.After-constant_between-2)) c.in_err-_deepest.ensures.derives))

pub returns-in_err-_deepest-clause-grown : goal.returns-in_err-_deepest-clause-grown
returns-in_err-_deepest-clause-grown c =
    deepest_grown (goal.at.returns-in_err-_deepest-clause-grown c).After-beta_theorem

beta : (c : In_ok-_deepest)
    → Derives (Ok c.in_ok-_deepest._deepest) (deepest (goal.at.In_ok-_deepest c).Start) c.beta_theorem.new.terms.terms
beta c =
    let d = goal.at.In_ok-_deepest c in
    derives_as c.in_ok-_deepest._deepest c.beta_theorem.new.terms.terms (deepest_is (made d.In_ok-rep) (P d.Start)
    c.args.p (same_deepest d.After-constant_between-2)) c.in_ok-_deepest.ensures.derives

-- ---- the first theorem
pub open_abs_theorem-requires-clause-typed : goal.open_abs_theorem-requires-clause-typed
open_abs_theorem-requires-clause-typed c =
    turns_new (made_first (goal.at.open_abs_theorem-requires-clause-typed c).After-beta_theorem)

pub returns-in_err-first-clause-derives : goal.returns-in_err-first-clause-derives
returns-in_err-first-clause-derives c =
    let d = goal.at.returns-in_err-first-clause-derives c in
    let s = d.Start in
    let p = err_from_is_err_and c.from_residual-in_err-first.result c.from_residual-in_err-first.ensures.1 in
    rw (p.1, p.2)
    (open_first_refused (T s) (U s) c.args.abs c.args.rep (P s) c.requires.closed c.requires.typed c.requires.limit
    c.in_ok-_deepest._deepest c.beta_theorem.new.terms (beta d.In_ok-_deepest) _
    (refuses_as c.in_err-first.field-0.0 (open_first_is (made_first d.After-beta_theorem) (P s))
    c.in_err-first.ensures.derives))

pub returns-in_err-first-clause-grown : goal.returns-in_err-first-clause-grown
returns-in_err-first-clause-grown c =
    first_grown (goal.at.returns-in_err-first-clause-grown c).After-open_abs_theorem

-- ---- the second theorem
pub open_rep_theorem-requires-clause-typed : goal.open_rep_theorem-requires-clause-typed
open_rep_theorem-requires-clause-typed c =
    turns_old (made_second (goal.at.open_rep_theorem-requires-clause-typed c).After-open_abs_theorem)

pub open_rep_theorem-requires-clause-predicate : goal.open_rep_theorem-requires-clause-predicate
open_rep_theorem-requires-clause-predicate c =
    let d = goal.at.open_rep_theorem-requires-clause-predicate c in
    predicate_typed (made_second d.After-open_abs_theorem) (P d.Start) c.args.p
    (same_second d.After-open_abs_theorem) c.requires.typed

pub returns-in_err-second-clause-derives : goal.returns-in_err-second-clause-derives
returns-in_err-second-clause-derives c =
    let d = goal.at.returns-in_err-second-clause-derives c in
    let s = d.Start in
    let p = err_from_is_err_and c.from_residual-in_err-second.result c.from_residual-in_err-second.ensures.1 in
    rw (p.1, p.2)
    (open_second_refused (T s) (U s) c.args.abs c.args.rep (P s) c.requires.closed c.requires.typed c.requires.limit
    c.in_ok-_deepest._deepest c.beta_theorem.new.terms (beta d.In_ok-_deepest) _
    (refuses_as c.in_err-second.field-0.0
    (open_second_is (made_second d.After-open_abs_theorem) (P s) c.args.p (same_second d.After-open_abs_theorem))
    c.in_err-second.ensures.derives))

pub returns-in_err-second-clause-grown : goal.returns-in_err-second-clause-grown
returns-in_err-second-clause-grown c =
    second_grown (goal.at.returns-in_err-second-clause-grown c).After-open_rep_theorem

-- ---- both
pub returns-clause-derives : goal.returns-clause-derives
returns-clause-derives c =
    let d = goal.at.returns-clause-derives c in
    let s = d.Start in
    let q = c.open_abs_theorem.new.terms in
    let n = c.open_rep_theorem.new.terms in
    open_derived (T s) (U s) c.args.abs c.args.rep (P s) c.requires.closed c.requires.typed c.requires.limit
    c.in_ok-_deepest._deepest c.beta_theorem.new.terms (beta d.In_ok-_deepest) q n
    c.open_rep_theorem.ensures.grown.grows c.in_ok-first.first c.in_ok-second.second
    (derives_as c.in_ok-first.first q.terms (open_first_is (made_first d.After-beta_theorem) (P s))
    c.in_ok-first.ensures.derives)
    (derives_as c.in_ok-second.second n.terms
    (open_second_is (made_second d.After-open_abs_theorem) (P s) c.args.p (same_second d.After-open_abs_theorem))
    c.in_ok-second.ensures.derives)

pub returns-clause-grown : goal.returns-clause-grown
returns-clause-grown c = second_grown (goal.at.returns-clause-grown c).After-open_rep_theorem
