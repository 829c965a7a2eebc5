use Rattle.std.proofs.Common.{◌≡◌, ◌≤◌, ◌+◌, ◌-◌, ◌++◌, ◌∙◌, ℕ, List, [], true, false, length, take, ap, sym, arith, refl, subst}
use Rattle.std.proofs.Common.{append-nil, length-append}
use Rattle.std.proofs.KnownBytes.{Consumes-trans}
use Rattle.std.proofs.lemmas.List.{take_all, length-take}
use Rattle.ot_io.proofs.Reading.{HasRead-of, HasRead-front, HasRead-whole, Consumes-none}
use Rattle.ot_io.proofs.front.read_front.Goals as goal
use Rattle.ot_io.proofs.front.read_front.Goals.{else-reading-test, then-reading-test+in-Ok-eq0}

pub returns-in-Err-extend_from_slice-clause-read : goal.returns-in-Err-extend_from_slice-clause-read
returns-in-Err-extend_from_slice-clause-read g c =
    let bytes = c.reading.bytes.items in
    let more = take c.in-Ok.count c.read.new.buf in
    let few : length (bytes ++ more) ≤ c.args.max_bytes + 1 =
    omega (
      arith,
      length-append bytes more,
      length-take c.in-Ok.count c.read.new.buf,
      length-take (c.min-want.result + 1) c.reading.buffer,
    ) in
    HasRead-of false _ _ _ _ (bytes ++ more)
    (Consumes-trans _ _ _ bytes more c.reading.invariant.taken c.in-Ok.ensures.bytes.0) (λ e. absurd e) (λ e. cc)
    (λ rest may. (tt, omega (arith, few, length-append (bytes ++ more) rest)))

pub returns-clause-read : goal.returns-clause-read
returns-clause-read g c =
    let bytes = c.reading.bytes.items in
    elim c.reading-test.branch [
      | else-reading-test w ↦
          rw w.source-is
          (HasRead-front _ _ _ bytes c.args.max_bytes (omega arith) (λ e. absurd (omega (arith, e))) c.reading.invariant.taken)
      | then-reading-test+in-Ok-eq0 w ↦
          rw w.source-is
          (HasRead-whole _ _ _ bytes c.args.max_bytes (omega arith)
          (Consumes-none _ _ _ _ _ w.in-Ok-eq0.field-0-test c.reading.invariant.taken w.in-Ok-eq0.ensures.bytes.0)
          (w.in-Ok-eq0.ensures.bytes.1 w.in-Ok-eq0.field-0-test (omega (
            arith,
            length-take (w.min-want.result + 1) c.reading.buffer,
          ))))
    ]
