use Rattle.std.proofs.Common.{◌≤◌, length}
use Rattle.ot_forms.specs.Reading.{Got}
use Rattle.ot_parse.specs.Values.{IsMeant, meant_of}
use Rattle.ot_parse.specs.TermFrames.{around}
use Rattle.ot_parse.specs.TermCode.{reversed, frames_of, AreKept}
use Rattle.ot_parse.proofs.TermLoops.{IsClosing}
use Rattle.ot_parse.proofs.terms.close.Given as goal

abbrev pub invariant-open : goal.invariant-open
invariant-open l = (AreKept (reversed l.initial.frames.items)
    → IsMeant (around (frames_of l.initial.frames.items)) l.initial.part → length l.text ≤ l.total
    → IsClosing l.total l.notation (reversed l.initial.frames.items) (Got (meant_of l.initial.part) l.text)
    l.frames.items l.part l.rest) × (length l.rest ≤ length l.text)

abbrev pub decreases-open : goal.decreases-open
decreases-open l = length l.frames.items
