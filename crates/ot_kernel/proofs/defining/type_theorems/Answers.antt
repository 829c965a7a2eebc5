use Rattle.std.proofs.Common.{◌≡◌, ℕ, ◌∷◌, ap, arith}
use Rattle.std.proofs.lemmas.Result.{err_from_is_err_and}
use Rattle.ot_logic.specs.Trees.{Ty, TyOp, Tm}
use Rattle.ot_logic.specs.Hol.{tys_of_vars}
use Rattle.ot_logic.specs.Naming.{numbers}
use Rattle.ot_type.specs.TypeTable.{type_at}
use Rattle.ot_term.specs.Term.{TermTable}
use Rattle.ot_term.specs.TermTable.{IsGrownTo}
use Rattle.ot_term.proofs.Growing.{grown_further}
use Rattle.ot_kernel.specs.Numbered.{tm_at}
use Rattle.ot_kernel.specs.Equating.{limited}
use Rattle.ot_kernel.specs.Proved.{bound_of_names}
use Rattle.ot_kernel.proofs.Equating.{tm_at-Grows}
use Rattle.ot_kernel.proofs.NewTypes.{first_theorem_refused, second_theorem_refused}
use Rattle.ot_kernel.proofs.NewTypes.{to_refused, from_refused, both_derived}
use Rattle.ot_kernel.proofs.Conversions.{AreConversions, conversions_made, conversions_later, to_tree, from_tree}
use Rattle.ot_kernel.proofs.Conversions.{turns_new, turns_old, first_is, second_is, predicate_typed}
use Rattle.ot_kernel.proofs.Conversions.{refuses_as, derives_as}
use Rattle.ot_kernel.proofs.defining.type_theorems.Goals as goal
use Rattle.ot_kernel.proofs.defining.type_theorems.Goals.{Start, After-constant_between, After-constant_between-2}
use Rattle.ot_kernel.proofs.defining.type_theorems.Goals.{In_ok-rep, After-abs_theorem, After-rep_theorem}

-- the new type, the old one and the predicate
abbrev T : Start → Ty ℕ
T c = TyOp c.args.op (tys_of_vars numbers c.args.vars.now)

abbrev U : Start → Ty ℕ
U c = type_at c.args.terms.now.types c.args.u

abbrev P : Start → Tm ℕ
P c = tm_at c.args.terms.now.terms c.args.p

-- ---- the growth until each step
abbrev Grown : Start → TermTable → Type 0
Grown c = IsGrownTo (bound_of_names (4 ∷ c.args.op ∷ c.args.abs ∷ c.args.rep ∷ c.args.vars.now)) c.args.terms.now

to_grown : (c : After-constant_between) → Grown (goal.at.After-constant_between c).Start c.constant_between.new.terms
to_grown c = grown_further _ _ _ _ _ _ c.new_type.ensures.grown (omega arith) c.constant_between.ensures.grown
    (omega arith)

from_grown : (c : After-constant_between-2)
    → Grown (goal.at.After-constant_between-2 c).Start c.constant_between-2.new.terms
from_grown c = grown_further _ _ _ _ _ _ (to_grown (goal.at.After-constant_between-2 c).After-constant_between)
    (omega arith) c.constant_between-2.ensures.grown (omega arith)

first_grown : (c : After-abs_theorem) → Grown (goal.at.After-abs_theorem c).Start c.abs_theorem.new.terms
first_grown c = grown_further _ _ _ _ _ _ (from_grown (goal.at.After-abs_theorem c).After-constant_between-2)
    (omega arith) c.abs_theorem.ensures.grown (omega arith)

second_grown : (c : After-rep_theorem) → Grown (goal.at.After-rep_theorem c).Start c.rep_theorem.new.terms
second_grown c = grown_further _ _ _ _ _ _ (first_grown (goal.at.After-rep_theorem c).After-abs_theorem)
    (omega arith) c.rep_theorem.ensures.grown (omega arith)

-- ---- the two types and the constants between them, over each table
abbrev Converts : In_ok-rep → TermTable → Type 0
Converts c m =
    let s = (goal.at.In_ok-rep c).Start in
    AreConversions (T s) (U s) c.args.abs c.args.rep m c.in_ok-ty.ty c.args.u c.in_ok-abs.abs c.in_ok-rep.rep

made : (c : In_ok-rep) → Converts c c.constant_between-2.new.terms
made c =
    conversions_made c.new_type.ensures.grown.grows c.args.u c.args.abs c.args.rep c.requires.u
    c.in_ok-ty.ensures.ok c.constant_between.ensures.grown.grows c.in_ok-abs.abs c.in_ok-rep.rep
    c.constant_between-2.ensures.grown.grows c.in_ok-abs.ensures.makes c.in_ok-rep.ensures.makes

made_second : (c : After-abs_theorem) → Converts (goal.at.After-abs_theorem c).In_ok-rep c.abs_theorem.new.terms
made_second c = conversions_later c.abs_theorem.ensures.grown.grows (made (goal.at.After-abs_theorem c).In_ok-rep)

-- the predicate over the second of these
same : (c : After-abs_theorem) → tm_at c.abs_theorem.new.terms.terms c.args.p ≡ P (goal.at.After-abs_theorem c).Start
same c = tm_at-Grows c.args.terms.now c.abs_theorem.new.terms (first_grown c).grows c.args.p c.requires.p

-- ---- the constants
pub returns-in_err-abs-clause-derives : goal.returns-in_err-abs-clause-derives
returns-in_err-abs-clause-derives c =
    let s = (goal.at.returns-in_err-abs-clause-derives c).Start in
    let p = err_from_is_err_and c.from_residual-in_err-abs.result c.from_residual-in_err-abs.ensures.1 in
    rw (p.1, p.2)
    (to_refused (T s) (U s) c.args.abs c.args.rep (P s) c.requires.closed _
    (refuses_as c.in_err-abs.field-0.0 (ap (limited numbers) (to_tree c.new_type.ensures.grown.grows c.args.u
    c.args.abs c.args.rep c.requires.u c.in_ok-ty.ensures.ok)) c.in_err-abs.ensures.makes))

pub returns-in_err-rep-clause-derives : goal.returns-in_err-rep-clause-derives
returns-in_err-rep-clause-derives c =
    let s = (goal.at.returns-in_err-rep-clause-derives c).Start in
    let p = err_from_is_err_and c.from_residual-in_err-rep.result c.from_residual-in_err-rep.ensures.1 in
    rw (p.1, p.2)
    (from_refused (T s) (U s) c.args.abs c.args.rep (P s) c.requires.closed _
    (refuses_as c.in_err-rep.field-0.0 (ap (limited numbers) (from_tree c.new_type.ensures.grown.grows c.args.u
    c.args.abs c.args.rep c.requires.u c.in_ok-ty.ensures.ok c.constant_between.ensures.grown.grows))
    c.in_err-rep.ensures.makes))

pub returns-in_err-rep-clause-grown : goal.returns-in_err-rep-clause-grown
returns-in_err-rep-clause-grown c = from_grown (goal.at.returns-in_err-rep-clause-grown c).After-constant_between-2

-- ---- the first theorem
pub abs_theorem-requires-clause-typed : goal.abs_theorem-requires-clause-typed
abs_theorem-requires-clause-typed c = turns_new (made (goal.at.abs_theorem-requires-clause-typed c).In_ok-rep)

pub returns-in_err-first-clause-derives : goal.returns-in_err-first-clause-derives
returns-in_err-first-clause-derives c =
    let d = goal.at.returns-in_err-first-clause-derives c in
    let s = d.Start in
    let p = err_from_is_err_and c.from_residual-in_err-first.result c.from_residual-in_err-first.ensures.1 in
    rw (p.1, p.2)
    (first_theorem_refused (T s) (U s) c.args.abs c.args.rep (P s) c.requires.closed _
    (refuses_as c.in_err-first.field-0.0 (first_is (made d.In_ok-rep) (P s)) c.in_err-first.ensures.derives))

pub returns-in_err-first-clause-grown : goal.returns-in_err-first-clause-grown
returns-in_err-first-clause-grown c = first_grown (goal.at.returns-in_err-first-clause-grown c).After-abs_theorem

-- ---- the second theorem
pub rep_theorem-requires-clause-typed : goal.rep_theorem-requires-clause-typed
rep_theorem-requires-clause-typed c =
    turns_old (made_second (goal.at.rep_theorem-requires-clause-typed c).After-abs_theorem)

pub rep_theorem-requires-clause-predicate : goal.rep_theorem-requires-clause-predicate
rep_theorem-requires-clause-predicate c =
    let d = goal.at.rep_theorem-requires-clause-predicate c in
    predicate_typed (made_second d.After-abs_theorem) (P d.Start) c.args.p (same d.After-abs_theorem)
    c.requires.typed

pub returns-in_err-second-clause-derives : goal.returns-in_err-second-clause-derives
returns-in_err-second-clause-derives c =
    let d = goal.at.returns-in_err-second-clause-derives c in
    let s = d.Start in
    let p = err_from_is_err_and c.from_residual-in_err-second.result c.from_residual-in_err-second.ensures.1 in
    rw (p.1, p.2)
    (second_theorem_refused (T s) (U s) c.args.abs c.args.rep (P s) c.requires.closed _
    (refuses_as c.in_err-second.field-0.0 (second_is (made_second d.After-abs_theorem) (P s) c.args.p
    (same d.After-abs_theorem)) c.in_err-second.ensures.derives))

pub returns-in_err-second-clause-grown : goal.returns-in_err-second-clause-grown
returns-in_err-second-clause-grown c = second_grown (goal.at.returns-in_err-second-clause-grown c).After-rep_theorem

-- ---- both
pub returns-clause-derives : goal.returns-clause-derives
returns-clause-derives c =
    let d = goal.at.returns-clause-derives c in
    let s = d.Start in
    let q = c.abs_theorem.new.terms in
    let n = c.rep_theorem.new.terms in
    both_derived (T s) (U s) c.args.abs c.args.rep (P s) c.requires.closed q n c.rep_theorem.ensures.grown.grows
    c.in_ok-first.first c.in_ok-second.second
    (derives_as c.in_ok-first.first q.terms (first_is (made d.In_ok-rep) (P s)) c.in_ok-first.ensures.derives)
    (derives_as c.in_ok-second.second n.terms (second_is (made_second d.After-abs_theorem) (P s) c.args.p
    (same d.After-abs_theorem)) c.in_ok-second.ensures.derives)

pub returns-clause-grown : goal.returns-clause-grown
returns-clause-grown c = second_grown (goal.at.returns-clause-grown c).After-rep_theorem
