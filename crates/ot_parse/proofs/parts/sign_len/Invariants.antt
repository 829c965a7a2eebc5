use Rattle.std.proofs.Common.{length, ◌-◌, ◌≡◌, ◌≤◌, take, drop, ◌++◌}
use Rattle.ot_forms.specs.Reading.{signs_on, mapped}
use Rattle.ot_parse.proofs.parts.sign_len.Given as goal

abbrev pub invariant-loop-len : goal.invariant-loop-len
invariant-loop-len l =
    (l.len ≤ length l.text) × (signs_on l.text ≡ mapped (λ y. take l.len l.text ++ y) (signs_on (drop l.len l.text)))

abbrev pub decreases-loop-len : goal.decreases-loop-len
decreases-loop-len l = length l.initial.text - l.len
