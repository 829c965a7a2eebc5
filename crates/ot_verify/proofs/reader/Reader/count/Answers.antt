use Rattle.std.specs.Prelude.{Some}
use Rattle.std.proofs.Common.{◌∙◌, refl, ap, rules}
use Rattle.ot_log_format.specs.Check.{as_number}
use Rattle.ot_verify.specs.declared.reader.Taken.TheVariants as taken
use Rattle.ot_verify.specs.declared.fault.LogFault.TheVariants as faults
use Rattle.ot_verify.proofs.Read.{taken-as}
use Rattle.ot_verify.proofs.Asked.{asks-count, asked-token, asked-other, asked-none, asked-stopped, no-number}
use Rattle.ot_verify.proofs.reader.Reader.count.Goals as goal

pub returns-in-Some-Number-clause-answered : goal.returns-in-Some-Number-clause-answered
returns-in-Some-Number-clause-answered g c =
    λ st. asked-token (asks-count st) (taken.Number c.in-Some-Number.number) c.in-Some-Number.number
    c.in-Some-Number.number refl (λ t is. ap as_number is)
    (taken-as (c.in-Some-Number.is ∙ ap Some c.in-Some-Number.field-0-is) c.in_ok-number.ensures.taken)

pub returns-in-Some : goal.returns-in-Some
returns-in-Some g c = record {
  answered = λ st. rw c.fault.ensures
      (asked-other (asks-count st) c.in-Some.field-0 faults.BadToken (no-number c.in-Some.field-0 (λ n e. search rules))
      (taken-as c.in-Some.is c.in_ok-number.ensures.taken));
  reads = search rules;
}

pub returns-clause-answered : goal.returns-clause-answered
returns-clause-answered g c =
    λ st. rw c.fault-in-None.ensures (asked-none (asks-count st) (taken-as c.in-None.is c.in_ok-number.ensures.taken))

pub returns-in_err-number-clause-answered : goal.returns-in_err-number-clause-answered
returns-in_err-number-clause-answered g c =
    λ st. asked-stopped (asks-count st) c.from_residual.result c.from_residual.ensures.1 c.in_err-number.ensures.taken
