use Rattle.std.proofs.Common.{arith}
use Rattle.ot_lines.proofs.Pieces.{open_run, ends_in_run}
use Rattle.ot_lines.proofs.piece.piece_len.Goals as goal

pub returns-then-open-lt-LANES : goal.returns-then-open-lt-LANES
returns-then-open-lt-LANES c =
    ends_in_run c.args.bytes.now c.runs.at 16 _ (omega arith) c.open_lanes-open.ensures c.runs.invariant.open_to
    c.if-open-lt-LANES.true

pub runs-preserved : goal.runs-preserved
runs-preserved c = record {
  within = omega arith;
  open_to = open_run c.args.bytes.now c.runs.at 16 _ (omega arith) c.open_lanes-open.ensures c.runs.invariant.open_to
      c.if-open-lt-LANES.false;
}
