-- Laws of the part of an array that is held.
use Rattle.std.proofs.Common.{◌≡◌, ◌≤◌, ◌+◌, ◌-◌, ℕ, List, [], ◌++◌, length}
use Rattle.std.proofs.Common.{Bool, take, drop, ap, sym, ◌∙◌, arith, length-drop}
use Rattle.std.specs.List.{copy_within}
use Rattle.std.proofs.Math.Seq.{take-append-add}
use Rattle.std.proofs.lemmas.List.{take-take, take-append-le, drop-take, drop-drop, length-take, length-take-le}
use Rattle.std.proofs.lemmas.List.Edits.{take-paste}
use Rattle.ot_scan.specs.Lines.{Scan}
use Rattle.ot_scan.specs.Reading.{IsScanner, behind_line}
use borrow.Rule.Slice.PartMut.{put_mid, post_of}

-- the part from start to end
abbrev pub part : ℕ → ℕ → List ℕ → List ℕ
part start end buffer = take (end - start) (drop start buffer)

-- the rest, when the first len bytes were taken
part-rest : (buffer : List ℕ) (start end len : ℕ) → start + len ≤ end → part (start + len) end buffer
    ≡ drop len (part start end buffer)
part-rest buffer start end len le =
    let more : end - start ≡ len + (end - (start + len)) = omega arith in
    ap (take (end - (start + len))) (sym (drop-drop len start buffer))
    ∙ sym (drop-take len (end - (start + len)) (drop start buffer))
    ∙ ap (λ n. drop len (take n (drop start buffer))) (sym more)

-- the bytes that were taken
part-front : (buffer : List ℕ) (start end len : ℕ) → start + len ≤ end → part start (start + len) buffer
    ≡ take len (part start end buffer)
part-front buffer start end len le =
    let same : start + len - start ≡ len = omega arith in
    ap (λ n. take n (drop start buffer)) same ∙ sym (take-take len (end - start) (drop start buffer) (omega arith))

-- no part is longer than its bounds say
length-part : (buffer : List ℕ) (start end : ℕ) → length (part start end buffer) ≤ end - start
length-part buffer start end = omega (arith, length-take (end - start) (drop start buffer))

pub length-part_is : (buffer : List ℕ) (start end : ℕ) → start ≤ end → end ≤ length buffer
    → length (part start end buffer) ≡ end - start
length-part_is buffer start end le inside =
    length-take-le (end - start) (drop start buffer) (omega (arith, le, inside, length-drop start buffer))

-- what is lent where the first len bytes are taken, and what is known then
pub part-taken : (scan : Scan) (buffer : List ℕ) (max start end limit number len : ℕ) (ended : Bool)
    → record { max = max; held = part start end buffer; before = max - (limit - start); number = number; ended = ended }
    ≡ scan
    → IsScanner start end limit number max → len ≤ length scan.held → scan.before + len ≤ scan.max
    → (part start (start + len) buffer ≡ take len scan.held)
    × (record {
      max = max;
      held = part (start + len) end buffer;
      before = max - (limit - (start + len));
      number = number + 1;
      ended = ended;
    } ≡ behind_line len scan)
part-taken scan buffer max start end limit number len ended is fields le few =
    let fits : start + len ≤ end =
    omega (arith, fields.ordered, le, length-part buffer start end, ap (λ (s : Scan). length s.held) is) in
    let room : max - (limit - start) + len ≤ max =
    omega (arith, few, ap (λ (s : Scan). s.before) is, ap (λ (s : Scan). s.max) is) in
    let moved : max - (limit - (start + len)) ≡ max - (limit - start) + len =
    omega (arith, room, fields.placed, fields.limited) in (
      part-front buffer start end len fits ∙ ap (λ (s : Scan). take len s.held) is,
      ap (λ b. record { max = max; held = part (start + len) end buffer; before = b; number = number + 1; ended = ended }) moved
          ∙ ap (λ h. record { max = max; held = h; before = max - (limit - start) + len; number = number + 1; ended = ended })
          (part-rest buffer start end len fits) ∙ ap (behind_line len) is,
    )

-- ---- moved to the front

pub part-moved : (buffer moved : List ℕ) (start end : ℕ) → start ≤ end → end ≤ length buffer
    → moved ≡ copy_within buffer start end 0 → take (end - start) moved ≡ part start end buffer
part-moved buffer moved start end le inside is =
    let none : end - start ≡ 0 + (end - start) = omega arith in
    ap (take (end - start)) is ∙ ap (λ n. take n (copy_within buffer start end 0)) none
    ∙ take-paste buffer 0 (drop start buffer) (end - start) (omega arith)
    (omega (arith, le, inside, length-drop start buffer))

-- with bytes read behind it
pub part-filled : (buffer moved filled : List ℕ) (start end room count : ℕ) → start ≤ end → end ≤ length buffer
    → count ≤ length filled → take (end - start) moved ≡ part start end buffer
    → part 0 (end - start + count) (put_mid (end - start) room moved filled) ≡ part start end buffer
    ++ take count filled
part-filled buffer moved filled start end room count le inside few is =
    let held = part start end buffer in
    let long : end - start + count - 0 ≡ length held + count =
    omega (arith, length-part_is buffer start end le inside) in
    ap (λ z. take (end - start + count - 0) (z ++ (filled ++ post_of (end - start) room moved))) is
    ∙ ap (λ n. take n (held ++ (filled ++ post_of (end - start) room moved))) long
    ∙ take-append-add held (filled ++ post_of (end - start) room moved) count
    ∙ ap (λ z. held ++ z) (take-append-le count filled (post_of (end - start) room moved) few)

-- with none
pub part-unfilled : (buffer moved filled : List ℕ) (start end room : ℕ) → start ≤ end → end ≤ length buffer
    → take (end - start) moved ≡ part start end buffer
    → part 0 (end - start) (put_mid (end - start) room moved filled) ≡ part start end buffer ++ []
part-unfilled buffer moved filled start end room le inside is =
    let none : end - start ≡ end - start + 0 = omega arith in
    ap (λ n. part 0 n (put_mid (end - start) room moved filled)) none
    ∙ part-filled buffer moved filled start end room 0 le inside (omega arith) is
