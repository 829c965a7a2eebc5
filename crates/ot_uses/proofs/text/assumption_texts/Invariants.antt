use Rattle.std.proofs.Common.{◌≡◌, take}
use Rattle.ot_uses.specs.Placing.{picked}
use Rattle.ot_uses.proofs.text.assumption_texts.Given as goal

abbrev pub invariant-loop-place : goal.invariant-loop-place
invariant-loop-place l = l.used.items ≡ picked l.assumptions (take l.place-index l.places)
