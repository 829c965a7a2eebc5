use Rattle.std.proofs.Common.{◌≡◌, ap, sym, ◌∙◌, arith, map, length, drop, ◌<◌, ◌+◌, ◌∷◌}
use Rattle.std.proofs.lemmas.List.{length-map}
use Rattle.ot_logic.specs.Names.{Name}
use Rattle.ot_logic.specs.Trees.{Sequent}
use Rattle.ot_kernel.specs.State.{term_at, theorem_at}
use Rattle.ot_machine.specs.Meaning.{run_of, givens_of, origin_of}
use Rattle.ot_machine.specs.Rows.{given_as}
use Rattle.ot_machine.specs.States.{Given}
use Rattle.ot_machine.proofs.Taken.{stated, found-here, not-here, givens-from, theorem-from, assumed-past}
use Rattle.ot_machine.proofs.session.Session.assumed.Goals as goal
use Rattle.ot_machine.proofs.session.Session.assumed.Goals.{Start, After-index}

-- what is looked for
abbrev Q : Start → Sequent Name
Q c = stated (map (term_at c.args.self.now.kernel) c.args.hyps.now) (term_at c.args.self.now.kernel c.args.concl)

-- the assumption at a place, before the others
abbrev Here : After-index → Given
Here c = record {
  sequent = theorem_at c.args.self.now.kernel c.index-theorems-place.result;
  origin = origin_of c.args.self.now c.index.result.now;
}

from_here : (c : After-index) → (let s = c.args.self.now in
    let i = c.loop-place.place + 1 in
    let q = Q (goal.at.After-index c).Start in
    given_as q (run_of s).assumptions
    ≡ given_as q (Here c ∷ givens_of s (drop i s.kernel.assumptions) (drop i s.assumption_steps.items)))
from_here c =
    let s = c.args.self.now in
    let k = s.kernel in
    let ths = c.assumptions-theorems.result.now in
    let th = c.index-theorems-place.result in
    let i = c.loop-place.place in
    let len : length k.assumptions ≡ length ths = ap length (sym c.assumptions-theorems.ensures.sequents)
    ∙ length-map ths (theorem_at k) in
    let lt : i < length k.assumptions = omega (arith, len, c.loop-place-test.true) in
    c.loop-place.invariant
    ∙ ap (given_as (Q (goal.at.After-index c).Start))
    (givens-from s k.assumptions s.assumption_steps.items i (theorem_at k th) c.index.result.now lt
    c.requires.run.each_assumption
    (theorem-from k ths i th c.assumptions-theorems.ensures.sequents c.index-theorems-place.is) c.index.ensures)

pub returns-then-same-clause-first : goal.returns-then-same-clause-first
returns-then-same-clause-first c =
    let at = goal.at.returns-then-same-clause-first c in
    found-here (Q at.Start) (run_of c.args.self.now).assumptions _ (Here at.After-index) (from_here at.After-index)
    (sym c.same.ensures ∙ c.if-same.true)

pub loop-place-preserved : goal.loop-place-preserved
loop-place-preserved c =
    let at = goal.at.loop-place-preserved c in
    not-here (Q at.Start) (run_of c.args.self.now).assumptions _ (Here at.After-index) (from_here at.After-index)
    (sym c.same.ensures ∙ c.if-same.false)

pub loop-place-init : goal.loop-place-init
loop-place-init c =
    let s = c.args.self.now in
    assumed-past s (Q (goal.at.loop-place-init c).Start) s.kernel.assumptions s.assumption_steps.items
    c.first_place-place.result c.requires.run.each_assumption c.first_place-place.ensures.none
