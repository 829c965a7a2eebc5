use Rattle.std.proofs.lemmas.Option.{slice_get_within}
use Rattle.ot_machine.proofs.Kept.{leaves}
use Rattle.ot_machine.proofs.Readings.{a_name}
use Rattle.ot_machine.proofs.session.Session.read_name.Goals as goal

pub returns-in_err-intern-in-Ok-clause-kept : goal.returns-in_err-intern-in-Ok-clause-kept
returns-in_err-intern-in-Ok-clause-kept c = leaves _ _ _ c.requires c.intern.ensures.keeps c.intern.ensures.same.basis

pub returns-in_ok-intern-in-Ok-clause-made : goal.returns-in_ok-intern-in-Ok-clause-made
returns-in_ok-intern-in-Ok-clause-made c =
    a_name _ c.intern.new.self c.in_ok-intern-in-Ok.field-0 _ c.in-Ok.ensures.found c.in_ok-intern-in-Ok.ensures.ok

pub returns-in_ok-intern-in-Ok-clause-inside : goal.returns-in_ok-intern-in-Ok-clause-inside
returns-in_ok-intern-in-Ok-clause-inside c = slice_get_within _ _ _ c.in_ok-intern-in-Ok.ensures.ok

pub returns-in_ok-intern-in-Ok-clause-kept : goal.returns-in_ok-intern-in-Ok-clause-kept
returns-in_ok-intern-in-Ok-clause-kept c = leaves _ _ _ c.requires c.intern.ensures.keeps c.intern.ensures.same.basis
