use Rattle.std.proofs.Common.{◌≡◌, ◌-◌, subst, arith}
use Rattle.std.specs.Prelude.{None}
use Rattle.ot_scan.specs.Lines.{Scan, limit_fault}
use Rattle.ot_scan.proofs.Limits.{limit-kept}
use Rattle.ot_scan.proofs.lines.Lines.check_limits.Goals as goal

pub returns-then-end-self-clause-limits : goal.returns-then-end-self-clause-limits
returns-then-end-self-clause-limits c =
    let old = c.self.inside in
    subst (λ (s : Scan). limit_fault s.max s.before c.args.piece.now ≡ None) c.self.view_is
    (limit-kept old.max_bytes (old.max_bytes - (old.limit - old.start)) c.args.piece.now c.if-piece-le-LINE_BYTES.true
    (omega (arith, c.if-end-self.true, c.self.invariant.placed, c.self.invariant.limited)))
