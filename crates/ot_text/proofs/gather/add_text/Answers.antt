use Rattle.std.specs.Prelude.{not}
use Rattle.std.proofs.Common.{◌∙◌, sym, ap, arith, ◌≡◌, Bool, true, false, refl, map}
use Rattle.ot_text.specs.Gathered.{bytes_in}
use Rattle.ot_text.proofs.Gathering.{texts-insert, bytes-new}
use Rattle.ot_text.proofs.gather.add_text.Goals as goal

was_new : (a b : Bool) → a ≡ not b → a ≡ true → b ≡ false
was_new a true p h = cc
was_new a false p h = refl

pub returns-then-not-branch-clause-ok : goal.returns-then-not-branch-clause-ok
returns-then-not-branch-clause-ok c = ap (map (λ t. t.items)) c.in_ok-insert.ensures.keys
    ∙ texts-insert c.args.texts.now.keys c.args.text

pub returns-then-not-branch-clause-room : goal.returns-then-not-branch-clause-room
returns-then-not-branch-clause-room c =
    let same = rw c.if-not-branch.true at c.in_ok-insert.ensures.unchanged in
    let e = ap bytes_in (sym (returns-then-not-branch-clause-ok c) ∙ ap (map (λ t. t.items)) same) in
    omega arith

pub returns-then-len-room-clause-too_large : goal.returns-then-len-room-clause-too_large
returns-then-len-room-clause-too_large c p =
    let new = was_new _ _ c.in_ok-insert.ensures.added c.if-not-branch.false in
    let e = bytes-new c.args.texts.now.keys c.args.text new in
    omega (arith, c.len-len.ensures, c.if-len-room.true)

pub returns-clause-ok : goal.returns-clause-ok
returns-clause-ok c = ap (map (λ t. t.items)) c.in_ok-insert.ensures.keys
    ∙ texts-insert c.args.texts.now.keys c.args.text

pub returns-clause-room : goal.returns-clause-room
returns-clause-room c =
    let new = was_new _ _ c.in_ok-insert.ensures.added c.if-not-branch.false in
    let e = bytes-new c.args.texts.now.keys c.args.text new in
    omega (arith, c.len-len.ensures, c.if-len-room.false)
