use Rattle.std.proofs.Common.{◌≡◌, ap, sym, ◌∙◌, Some, true, false}
use Rattle.std.specs.Str.{bytes_eq}
use Rattle.std.specs.Prelude.{string_bytes}
use Rattle.ot_io.proofs.Places.{found_here, slice_get-folder_of, skipped, same_bytes}
use Rattle.ot_io.proofs.mem_files.place_of.Goals as goal

pub returns-then-eq : goal.returns-then-eq
returns-then-eq c =
    let files = c.args.files.now in
    let path = c.args.path.now in
    let place = c.loop-place.place in
    let file = c.index-files-place.result in
    let same : bytes_eq path (string_bytes file.0) ≡ true = ap (bytes_eq path) (sym c.as_str.ensures.value)
    ∙ sym c.eq.ensures ∙ c.if-eq.true in
    let there = slice_get-folder_of files place file c.loop-place-test.true c.index-files-place.is in
    record {
      bytes = file.1.items;
      here = there ∙ ap (λ p. Some (p, file.1.items)) (sym (same_bytes path (string_bytes file.0) same));
      first = sym c.loop-place.invariant
          ∙ found_here files path place file c.loop-place-test.true c.index-files-place.is same;
    }

pub loop-place-preserved : goal.loop-place-preserved
loop-place-preserved c =
    let files = c.args.files.now in
    let path = c.args.path.now in
    let file = c.index-files-place.result in
    let other : bytes_eq path (string_bytes file.0) ≡ false = ap (bytes_eq path) (sym c.as_str.ensures.value)
    ∙ sym c.eq.ensures ∙ c.if-eq.false in
    skipped files path c.loop-place.place file c.loop-place-test.true c.index-files-place.is other
    ∙ c.loop-place.invariant
