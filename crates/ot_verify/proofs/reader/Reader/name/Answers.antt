use Rattle.std.specs.Prelude.{Some}
use Rattle.std.proofs.Common.{◌∙◌, refl, ap, rules}
use Rattle.ot_log_format.specs.Check.{as_name}
use Rattle.ot_verify.specs.declared.reader.Taken.TheVariants as taken
use Rattle.ot_verify.specs.declared.fault.LogFault.TheVariants as faults
use Rattle.ot_verify.proofs.Read.{taken-as}
use Rattle.ot_verify.proofs.Asked.{asks-name, asked-token, asked-other, asked-none, asked-stopped, no-name}
use Rattle.ot_verify.proofs.reader.Reader.name.Goals as goal

pub returns-in-Some-Name-clause-answered : goal.returns-in-Some-Name-clause-answered
returns-in-Some-Name-clause-answered g c =
    λ st. asked-token (asks-name st) (taken.Name c.in-Some-Name.name) c.in-Some-Name.name c.in-Some-Name.name refl
    (λ t is. ap as_name is)
    (taken-as (c.in-Some-Name.is ∙ ap Some c.in-Some-Name.field-0-is) c.in_ok-name.ensures.taken)

pub returns-in-Some : goal.returns-in-Some
returns-in-Some g c = record {
  answered = λ st. rw c.fault.ensures
      (asked-other (asks-name st) c.in-Some.field-0 faults.BadToken (no-name c.in-Some.field-0 (λ n e. search rules))
      (taken-as c.in-Some.is c.in_ok-name.ensures.taken));
  reads = search rules;
}

pub returns-in-None-clause-answered : goal.returns-in-None-clause-answered
returns-in-None-clause-answered g c =
    λ st. rw c.fault-in-None.ensures (asked-none (asks-name st) (taken-as c.in-None.is c.in_ok-name.ensures.taken))

pub returns-in_err-name-clause-answered : goal.returns-in_err-name-clause-answered
returns-in_err-name-clause-answered g c =
    λ st. asked-stopped (asks-name st) c.from_residual.result c.from_residual.ensures.1 c.in_err-name.ensures.taken
