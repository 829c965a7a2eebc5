use Rattle.std.proofs.Common.{◌≡◌, ◌+◌, ◌-◌, ◌++◌, [], ℕ, nat_eq, false, length, take, ap, sym, refl, ◌∙◌, arith}
use Rattle.ot_scan.specs.Lines.{Scan}
use Rattle.ot_scan.proofs.Held.{part, length-part_is, part-filled, part-unfilled}
use Rattle.ot_scan.proofs.Taking.{with_held, Consumes-kept, zero-where}
use Rattle.ot_scan.proofs.lines.Lines.read_more.Goals as goal
use borrow.Rule.Slice.PartMut.{put_mid}

pub returns-clause-read : goal.returns-clause-read
returns-clause-read g c =
    let old = c.self.inside in
    let room = old.limit - old.start in
    let same : old.max_bytes - (room - 0) ≡ old.max_bytes - room = omega arith in
    let len = old.end - old.start in
    let filled = put_mid len (65536 - len) c.move_to_front.new.buffer c.read.new.buf in
    let is_end = nat_eq c.in_ok-count.count 0 in
    let is_open : c.args.self.now.ended ≡ false = ap (λ (s : Scan). s.ended) (sym c.self.view_is) ∙ c.if-self.false in
    record {
      bytes = take c.in_ok-count.count c.read.new.buf;
      lost = c.in_ok-count.ensures.bytes.0;
      stays = λ e. absurd (cc (e, is_open));
      end = λ before e. c.in_ok-count.ensures.bytes.1 (zero-where c.in_ok-count.count e)
          (omega (
            arith,
            ap (λ (s : Scan). length s.held) c.self.view_is,
            length-part_is old.buffer old.start old.end c.self.invariant.ordered (omega arith),
          ));
      held =
          ap (λ (b : ℕ). with_held (record { max = old.max_bytes; held = []; before = b; number = old.number; ended = false })
          (part 0 (len + c.in_ok-count.count) filled) is_end) same
          ∙ ap (λ h. record { max = old.max_bytes; held = h; before = old.max_bytes - room; number = old.number; ended = is_end })
          (part-filled old.buffer c.move_to_front.new.buffer c.read.new.buf old.start old.end (65536 - len)
          c.in_ok-count.count c.self.invariant.ordered (omega arith) c.in_ok-count.ensures.bound.0
          c.move_to_front.ensures)
          ∙ ap (λ (s : Scan). with_held s (s.held ++ take c.in_ok-count.count c.read.new.buf) is_end) c.self.view_is;
    }

pub returns-in_err-count-clause-read : goal.returns-in_err-count-clause-read
returns-in_err-count-clause-read g c =
    let old = c.self.inside in
    let room = old.limit - old.start in
    let same : old.max_bytes - (room - 0) ≡ old.max_bytes - room = omega arith in
    let len = old.end - old.start in
    let filled = put_mid len (65536 - len) c.move_to_front.new.buffer c.read.new.buf in
    let is_open : c.args.self.now.ended ≡ false = ap (λ (s : Scan). s.ended) (sym c.self.view_is) ∙ c.if-self.false in
    record {
      bytes = [];
      lost = Consumes-kept _ _ c.in_err-count.ensures.bytes;
      stays = λ e. absurd (cc (e, is_open));
      end = λ before e. absurd (cc (e, c.if-self.false));
      held =
          ap (λ (b : ℕ). with_held (record { max = old.max_bytes; held = []; before = b; number = old.number; ended = false })
          (part 0 len filled) old.ended) same
          ∙ ap (λ h. record { max = old.max_bytes; held = h; before = old.max_bytes - room; number = old.number; ended = old.ended })
          (part-unfilled old.buffer c.move_to_front.new.buffer c.read.new.buf old.start old.end (65536 - len)
          c.self.invariant.ordered (omega arith) c.move_to_front.ensures)
          ∙ ap (λ (s : Scan). with_held s (s.held ++ []) old.ended) c.self.view_is;
    }
