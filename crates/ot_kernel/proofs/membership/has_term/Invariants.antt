use Rattle.std.proofs.Common.{◌≡◌, drop}
use Rattle.ot_logic.specs.Hol.{is_in}
use Rattle.ot_logic.specs.Naming.{numbers}
use Rattle.ot_kernel.specs.Numbered.{tm_at, tms_at}
use Rattle.ot_kernel.proofs.membership.has_term.Given as goal

abbrev pub invariant-loop-u : goal.invariant-loop-u
invariant-loop-u l =
    is_in numbers (tm_at l.terms.terms l.t) (tms_at l.terms.terms l.among) ≡ is_in numbers (tm_at l.terms.terms l.t)
    (tms_at l.terms.terms (drop l.u-index l.among))
