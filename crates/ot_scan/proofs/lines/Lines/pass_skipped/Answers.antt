use Rattle.std.proofs.Common.{◌≡◌, ◌<◌, ◌≤◌, ◌+◌, false, length, take, sym, ap, subst, ◌∙◌, arith}
use Rattle.std.specs.Prelude.{None, Err}
use Rattle.std.proofs.lemmas.List.{length-take-le}
use Rattle.std.proofs.lemmas.Result.{err_from_is_err_and}
use Rattle.ot_io.proofs.Keeping.{KeepsSource-then}
use Rattle.ot_lines.specs.Pieces.{text_of, is_skipped}
use Rattle.ot_scan.specs.Lines.{Scan, limit_fault}
use Rattle.ot_scan.specs.Reading.{KeepsLines, ChecksLimits}
use Rattle.ot_scan.proofs.Coming.{keeps-more, keeps-fills, keeps-skipped, next-found, stop-found}
use Rattle.ot_scan.proofs.Fitting.{line-fits}
use Rattle.ot_scan.proofs.lines.Lines.pass_skipped.Goals as goal

pub returns-in_err-len-clause-found : goal.returns-in_err-len-clause-found
returns-in_err-len-clause-found g c =
    let p = err_from_is_err_and c.from_residual.result c.from_residual.ensures.1 in
    rw (p.1, p.2) tt

pub returns-in_err-check_limits-clause-found : goal.returns-in_err-check_limits-clause-found
returns-in_err-check_limits-clause-found g c =
    let p = err_from_is_err_and c.from_residual-in_err-check_limits.result
    c.from_residual-in_err-check_limits.ensures.1 in
    let scan = c.first_piece.new.self in
    let len = c.in_ok-len.len in
    let fault = c.in_err-check_limits.field-0.0 in
    rw (p.1, p.2) (stop-found scan len fault c.in_ok-len.ensures.first (omega arith)
    (subst (λ bs. ChecksLimits (Err fault) (scan.number + 1) (limit_fault scan.max scan.before (take len bs)))
    c.held.ensures c.in_err-check_limits.ensures.limits))

pub returns-then-not-is_passed_over-clause-found : goal.returns-then-not-is_passed_over-clause-found
returns-then-not-is_passed_over-clause-found g c =
    let scan = c.first_piece.new.self in
    let len = c.in_ok-len.len in
    let limits : limit_fault scan.max scan.before (take len scan.held) ≡ None =
    subst (λ bs. limit_fault scan.max scan.before (take len bs) ≡ None) c.held.ensures
    c.in_ok-check_limits.ensures.limits in
    let holds : is_skipped (text_of (take len scan.held)) ≡ false =
    ap (λ bs. is_skipped (text_of (take len bs))) (sym c.held.ensures) ∙ sym c.if-not-is_passed_over.ensures in
    let some : 0 < len = omega arith in
    record {
      line = λ _. record {
        within = c.in_ok-len.ensures.first.within;
        limited =
            omega (
              arith,
              subst (λ bs. scan.before + length (take len bs) ≤ scan.max) c.held.ensures
                  c.in_ok-check_limits.ensures.within,
              length-take-le len
                  scan.held c.in_ok-len.ensures.first.within,
            );
        holds = holds;
        fits = line-fits scan.max scan.before len scan.held _ c.in_ok-len.ensures.first limits;
        next = next-found scan len c.in_ok-len.ensures.first some limits holds;
      };
      end = λ none. absurd (omega (arith, none, some));
    }

pub returns-in_err-len-clause-same_lines : goal.returns-in_err-len-clause-same_lines
returns-in_err-len-clause-same_lines g c =
    keeps-more c.args.self.now c.lines.self c.first_piece.new.self (g.S.Source.left c.args.source.now)
    (g.S.Source.left c.lines.source) (g.S.Source.left c.first_piece.new.source) c.lines.invariant.same_lines
    (keeps-fills c.lines.self c.first_piece.new.self (g.S.Source.left c.lines.source)
    (g.S.Source.left c.first_piece.new.source) c.in_err-len.ensures.read)

pub returns-in_err-check_limits-clause-same_lines : goal.returns-in_err-check_limits-clause-same_lines
returns-in_err-check_limits-clause-same_lines g c =
    keeps-more c.args.self.now c.lines.self c.first_piece.new.self (g.S.Source.left c.args.source.now)
    (g.S.Source.left c.lines.source) (g.S.Source.left c.first_piece.new.source) c.lines.invariant.same_lines
    (keeps-fills c.lines.self c.first_piece.new.self (g.S.Source.left c.lines.source)
    (g.S.Source.left c.first_piece.new.source) c.in_ok-len.ensures.read)

pub returns-then-not-is_passed_over-clause-same_lines : goal.returns-then-not-is_passed_over-clause-same_lines
returns-then-not-is_passed_over-clause-same_lines g c =
    keeps-more c.args.self.now c.lines.self c.first_piece.new.self (g.S.Source.left c.args.source.now)
    (g.S.Source.left c.lines.source) (g.S.Source.left c.first_piece.new.source) c.lines.invariant.same_lines
    (keeps-fills c.lines.self c.first_piece.new.self (g.S.Source.left c.lines.source)
    (g.S.Source.left c.first_piece.new.source) c.in_ok-len.ensures.read)

pub lines-preserved : goal.lines-preserved
lines-preserved g c =
    let scan = c.first_piece.new.self in
    let len = c.in_ok-len.len in
    let left = g.S.Source.left c.first_piece.new.source in
    let limits : limit_fault scan.max scan.before (take len scan.held) ≡ None =
    subst (λ bs. limit_fault scan.max scan.before (take len bs) ≡ None) c.held.ensures
    c.in_ok-check_limits.ensures.limits in
    let skipped = ap (λ bs. is_skipped (text_of (take len bs))) (sym c.held.ensures)
    ∙ sym c.if-not-is_passed_over.ensures in
    record {
      same_lines = keeps-more c.args.self.now c.lines.self c.take_piece.follows.lender-at-none
          (g.S.Source.left c.args.source.now) (g.S.Source.left c.lines.source) left c.lines.invariant.same_lines
          (keeps-more c.lines.self scan c.take_piece.follows.lender-at-none (g.S.Source.left c.lines.source) left left
          (keeps-fills c.lines.self scan (g.S.Source.left c.lines.source) left c.in_ok-len.ensures.read)
          (subst (λ (s : Scan). KeepsLines scan s left left) (sym c.take_piece.follows.holds-at-none)
          (keeps-skipped scan len left c.in_ok-len.ensures.first (omega arith) limits skipped)));
      goes_on = record {
        max = ap (λ (s : Scan). s.max) (c.take_piece.follows.holds-at-none)
            ∙ ap (λ (s : Scan). s.max) c.in_ok-len.ensures.read.held ∙ c.lines.invariant.goes_on.max;
        number = omega (
          arith,
          c.lines.invariant.goes_on.number,
          ap (λ (s : Scan). s.number)
              c.take_piece.follows.holds-at-none,
          ap (λ (s : Scan). s.number) c.in_ok-len.ensures.read.held,
        );
      };
      kept = KeepsSource-then c.lines.invariant.kept c.in_ok-len.ensures.kept;
    }
