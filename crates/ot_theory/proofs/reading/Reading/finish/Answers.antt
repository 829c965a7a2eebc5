use Rattle.std.proofs.Common.{◌≡◌, true, false, refl}
use Rattle.std.specs.Prelude.{codes}
use Rattle.std.specs.HashSet.{keys}
use Rattle.ot_theory.specs.Theory.{has_block}
use Rattle.ot_theory.specs.Reading.{closed_of}
use Rattle.ot_theory.proofs.Sets.{main_held}
use Rattle.ot_theory.proofs.reading.Reading.finish.Goals as goal

pub returns-then-contains : goal.returns-then-contains
returns-then-contains c =
    let main : has_block (closed_of c.args.self) (codes "main") ≡ true =
    main_held (keys c.args.self.names) (closed_of c.args.self) c.as_slice.result.now c.contains.result true
    (rw c.in-None.is at c.requires.names) c.as_slice.ensures c.contains.ensures c.if-contains.true in
    rw (c.in-None.is, main) refl

pub returns : goal.returns
returns c =
    let main : has_block (closed_of c.args.self) (codes "main") ≡ false =
    main_held (keys c.args.self.names) (closed_of c.args.self) c.as_slice.result.now c.contains.result false
    (rw c.in-None.is at c.requires.names) c.as_slice.ensures c.contains.ensures c.if-contains.false in
    rw (c.in-None.is, main) refl
