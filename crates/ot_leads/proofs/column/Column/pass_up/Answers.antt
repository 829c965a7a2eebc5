use Rattle.std.specs.Prelude.{slice_get, Option, None, Some}
use Rattle.std.proofs.Common.{◌≡◌, ◌+◌, ◌<◌, ℕ, length, refl, sym, subst, arith}
use Rattle.ot_leads.specs.Columns.{Gains, HasPart, HasPlace}
use Rattle.ot_leads.proofs.MeetLemmas.{read-at}
use Rattle.ot_leads.proofs.PassLemmas.{IsPassing, passing-begin, passing-none, passing-step, passing-end}
use Rattle.ot_leads.proofs.column.Column.pass_up.Goals as goal
use Rattle.ot_leads.proofs.column.Column.pass_up.Goals.{in-Some+in_ok-gather-in-Some, in-None}

pub loop-step-init : goal.loop-step-init
loop-step-init c =
    passing-begin c.args.trace.now c.count-count.ensures.table c.args.steps.now c.requires.length_is c.requires.own
    c.args.self.now c.requires.column

pub gather-requires-clause-id : goal.gather-requires-clause-id
gather-requires-clause-id c =
    let k = c.loop-step.step-index in
    let within = c.loop-step-test.true in
    let long = c.requires.length_is in
    let here : slice_get c.args.steps.now k ≡ Some (Some c.in-Some.step) =
    read-at c.args.steps.now k k c.step-item.result (Some c.in-Some.step) within refl c.step-item.is c.in-Some.is in
    let same = c.requires.own k c.in-Some.step here in
    omega (arith, within, long, same)

pub loop-step-preserved : goal.loop-step-preserved
loop-step-preserved c =
    let ts = c.args.trace.now in
    let steps = c.args.steps.now in
    let k = c.loop-step.step-index in
    let within = c.loop-step-test.true in
    let long = c.requires.length_is in
    let inside : k < length ts = omega (arith, within, long) in
    elim c.match-step.branch [
      | in-Some+in_ok-gather-in-Some w ↦
          let here : slice_get steps k ≡ Some (Some w.in-Some.step) =
          read-at steps k k c.step-item.result (Some w.in-Some.step) within refl c.step-item.is w.in-Some.is in
          let same = c.requires.own k w.in-Some.step here in
          subst (λ s. IsPassing ts steps c.args.self.now s (k + 1)) (sym w.self-is)
          (passing-step ts c.count-count.ensures.table steps long c.requires.own c.args.self.now c.loop-step.self
          w.gather.new.self k inside c.loop-step.invariant
          (subst (λ i. Gains (length ts) c.loop-step.self w.gather.new.self
          (λ j p. (j ≡ i) × (q : ℕ) × HasPart ts i q × HasPlace c.loop-step.self q p)) same
          w.in_ok-gather-in-Some.ensures))
      | in-None w ↦
          let here : slice_get steps k ≡ Some (let none : Option ℕ = None in none) =
          read-at steps k k c.step-item.result None within refl c.step-item.is w.in-None.is in
          subst (λ s. IsPassing ts steps c.args.self.now s (k + 1)) (sym w.self-is)
          (passing-none ts c.count-count.ensures.table steps long c.requires.own c.args.self.now c.loop-step.self k here
          c.loop-step.invariant)
    ]

pub returns : goal.returns
returns c =
    let done = c.loop-step-test.false in
    let long = c.requires.length_is in
    passing-end c.args.trace.now c.count-count.ensures.table c.args.steps.now long c.requires.own c.args.self.now
    c.loop-step.self c.loop-step.step-index (omega (arith, done, long)) c.loop-step.invariant
