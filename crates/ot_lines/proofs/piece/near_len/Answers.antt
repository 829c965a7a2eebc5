use Rattle.std.proofs.Common.{◌≡◌, ◌+◌, inr, subst, arith}
use Rattle.ot_lines.specs.Pieces.{EndsAt}
use Rattle.ot_lines.proofs.Pieces.{open_run, ends_in_run}
use Rattle.ot_lines.proofs.piece.near_len.Goals as goal

pub returns-then-open-lt-LANES : goal.returns-then-open-lt-LANES
returns-then-open-lt-LANES c =
    let run = c.open_lanes-open.result in
    let same : 0 + run + 1 ≡ run + 1 = omega arith in
    subst (λ n. EndsAt n c.args.bytes.now) same
    (ends_in_run c.args.bytes.now 0 16 run (omega arith) c.open_lanes-open.ensures (λ k l. absurd (omega (arith, l)))
    c.if-open-lt-LANES.true)

pub returns-else-open-lt-LANES : goal.returns-else-open-lt-LANES
returns-else-open-lt-LANES c =
    inr (open_run c.args.bytes.now 0 16 c.open_lanes-open.result (omega arith) c.open_lanes-open.ensures
    (λ k l. absurd (omega (arith, l))) c.if-open-lt-LANES.false)
