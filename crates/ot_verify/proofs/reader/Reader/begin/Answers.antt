use Rattle.std.specs.Prelude.{Some, None}
use Rattle.std.proofs.Common.{◌∙◌, ap, rules}
use Rattle.ot_verify.specs.declared.reader.Taken.TheVariants as taken
use Rattle.ot_verify.specs.declared.fault.LogFault.TheVariants as faults
use Rattle.ot_verify.proofs.Read.{taken-as}
use Rattle.ot_verify.proofs.Heading.{begins-word, begins-none, begins-stopped, no-record, no-word, unknown-word}
use Rattle.ot_verify.proofs.reader.Reader.begin.Goals as goal

pub returns-in_err-alloc-clause-begins : goal.returns-in_err-alloc-clause-begins
returns-in_err-alloc-clause-begins g c =
    begins-stopped c.from_residual.result c.from_residual.ensures.1 c.in_err-alloc.ensures.taken

pub returns-in-Some-Word-default-Some-clause-begins : goal.returns-in-Some-Word-default-Some-clause-begins
returns-in-Some-Word-default-Some-clause-begins g c =
    let arm = c.in-Some-Word-default-Some in
    begins-word arm.field-0-0 arm.word
    (taken-as (arm.is ∙ ap Some (arm.field-0-is ∙ ap (taken.Word arm.field-0-0) arm.field-0-1-is))
    c.in_ok-alloc.ensures.taken)

pub returns-in-Some-Word-default-None-clause-begins : goal.returns-in-Some-Word-default-None-clause-begins
returns-in-Some-Word-default-None-clause-begins g c =
    let arm = c.in-Some-Word-default-None in
    rw c.fault.ensures
    (no-record (taken.Word arm.field-0-0 None) faults.UnknownRecord (unknown-word arm.field-0-0)
    (taken-as (arm.is ∙ ap Some (arm.field-0-is ∙ ap (taken.Word arm.field-0-0) arm.field-0-1-is))
    c.in_ok-alloc.ensures.taken))

pub returns-in-Some : goal.returns-in-Some
returns-in-Some g c = record {
  begins = rw c.fault-in-Some.ensures
      (no-record c.in-Some.field-0 faults.BadToken (no-word c.in-Some.field-0 (λ header found e. search rules))
      (taken-as c.in-Some.is c.in_ok-alloc.ensures.taken));
  advances = tt;
  cause = search rules;
  kept = search rules;
}

pub returns-clause-begins : goal.returns-clause-begins
returns-clause-begins g c = begins-none (taken-as c.in-None.is c.in_ok-alloc.ensures.taken)
