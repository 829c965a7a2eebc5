use Rattle.std.specs.List.{All}
use Rattle.std.proofs.Common.{◌≡◌, ◌<◌, ◌∙◌, List, ℕ, length, take, sym, subst, ap, arith}
use Rattle.std.proofs.lemmas.List.{take_all}
use Rattle.ot_uses.specs.Ready.{theorem_steps}
use Rattle.ot_uses.proofs.Exports.{steps-inside}
use Rattle.ot_uses.proofs.finding.leads_of.Goals as goal
use Rattle.ot_uses.proofs.finding.leads_of.Goals.{After-deref}

-- the roots are the steps of all exports
roots-are : (c : After-deref) → c.deref.result.now ≡ theorem_steps c.args.exports.now
roots-are c =
    c.deref.ensures.value ∙ c.loop-export.invariant
    ∙ ap theorem_steps (take_all c.loop-export.export-index c.args.exports.now (omega (arith, c.loop-export-test.false)))

pub find_leads-requires-clause-roots : goal.find_leads-requires-clause-roots
find_leads-requires-clause-roots c =
    let at = (goal.at.find_leads-requires-clause-roots c).After-deref in
    let s = c.args.session.now in
    subst (λ (xs : List ℕ). All (λ i. i < length c.trace.result.now) xs) (sym (roots-are at))
    (subst (λ ts. All (λ i. i < length ts) (theorem_steps c.args.exports.now)) (sym c.trace.ensures)
    (steps-inside s c.args.exports.now c.requires.exports))
