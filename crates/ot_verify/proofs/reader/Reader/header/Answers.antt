use Rattle.std.specs.Prelude.{◌==◌, Some}
use Rattle.std.proofs.Common.{◌∙◌, refl, ap, rules}
use Rattle.ot_verify.specs.declared.reader.Taken.TheVariants as taken
use Rattle.ot_verify.proofs.Read.{taken-as}
use Rattle.ot_verify.proofs.Heading.{starts, header-begun, header-read, header-none, header-stopped}
use Rattle.ot_verify.proofs.Heading.{no-header, no-version}
use Rattle.ot_verify.proofs.reader.Reader.header.Goals as goal

pub returns-in_err-take-clause-heads : goal.returns-in_err-take-clause-heads
returns-in_err-take-clause-heads g c =
    header-stopped starts c.from_residual.result c.from_residual.ensures.1 c.in_err-take.ensures.taken

pub returns-in-Some-clause-heads : goal.returns-in-Some-clause-heads
returns-in-Some-clause-heads g c =
    rw c.fault.ensures
    (no-header c.in-Some.field-0 (λ found e. search rules) (taken-as c.in-Some.is c.in_ok-take.ensures.taken))

pub returns-in-None-clause-heads : goal.returns-in-None-clause-heads
returns-in-None-clause-heads g c =
    rw c.fault-in-None.ensures
    (header-none starts (λ last. refl) (taken-as c.in-None.is c.in_ok-take.ensures.taken))

pub returns-in_err-alloc-clause-heads : goal.returns-in_err-alloc-clause-heads
returns-in_err-alloc-clause-heads g c =
    header-stopped
    (header-begun (taken.Word c.in-Some-Word-true-default.field-0-0 c.in-Some-Word-true-default.field-0-1)
    c.in-Some-Word-true-default.field-0-0-test
    (taken-as (c.in-Some-Word-true-default.is ∙ ap Some c.in-Some-Word-true-default.field-0-is)
    c.in_ok-take.ensures.taken))
    c.from_residual-in_err-alloc.result c.from_residual-in_err-alloc.ensures.1 c.in_err-alloc.ensures.taken

pub returns-in-Some-Number-eq1-clause-heads : goal.returns-in-Some-Number-eq1-clause-heads
returns-in-Some-Number-eq1-clause-heads g c =
    header-read (taken.Number c.in-Some-Number-eq1.field-0-0)
    (header-begun (taken.Word c.in-Some-Word-true-default.field-0-0 c.in-Some-Word-true-default.field-0-1)
    c.in-Some-Word-true-default.field-0-0-test
    (taken-as (c.in-Some-Word-true-default.is ∙ ap Some c.in-Some-Word-true-default.field-0-is)
    c.in_ok-take.ensures.taken))
    (ap (λ n. n == 1) c.in-Some-Number-eq1.field-0-0-test)
    (taken-as (c.in-Some-Number-eq1.is ∙ ap Some c.in-Some-Number-eq1.field-0-is) c.in_ok-alloc.ensures.taken)

pub returns-in-Some-2-clause-heads : goal.returns-in-Some-2-clause-heads
returns-in-Some-2-clause-heads g c =
    rw c.fault-in-Some-2.ensures
    (no-version
    (header-begun (taken.Word c.in-Some-Word-true-default.field-0-0 c.in-Some-Word-true-default.field-0-1)
    c.in-Some-Word-true-default.field-0-0-test
    (taken-as (c.in-Some-Word-true-default.is ∙ ap Some c.in-Some-Word-true-default.field-0-is)
    c.in_ok-take.ensures.taken))
    c.in-Some-2.field-0 (λ e. search rules) (taken-as c.in-Some-2.is c.in_ok-alloc.ensures.taken))

pub returns-clause-heads : goal.returns-clause-heads
returns-clause-heads g c =
    rw c.fault-in-None-2.ensures
    (header-none
    (header-begun (taken.Word c.in-Some-Word-true-default.field-0-0 c.in-Some-Word-true-default.field-0-1)
    c.in-Some-Word-true-default.field-0-0-test
    (taken-as (c.in-Some-Word-true-default.is ∙ ap Some c.in-Some-Word-true-default.field-0-is)
    c.in_ok-take.ensures.taken))
    (λ last. refl) (taken-as c.in-None-2.is c.in_ok-alloc.ensures.taken))
