use Rattle.std.specs.Prelude.{[]}
use Rattle.std.proofs.lemmas.Option.{slice_get_within, get_or_from_slice_get}
use Rattle.ot_machine.proofs.Kept.{kernel-stays}
use Rattle.ot_machine.proofs.session.Session.numeral.Goals as goal

pub returns-in_err-intern-clause-kept : goal.returns-in_err-intern-clause-kept
returns-in_err-intern-clause-kept c = kernel-stays _ _ c.requires.run c.intern.ensures.keeps c.intern.ensures.same.basis

pub returns-clause-made : goal.returns-clause-made
returns-clause-made c =
    let e = get_or_from_slice_get c.intern.new.self.names c.in_ok-intern.field-0 _ [] c.in_ok-intern.ensures.ok in
    let a = c.as_bytes.ensures.value in
    let b = c.in_ok-text.ensures.ok in
    let d = c.in_ok-name.ensures in
    cc

pub returns-clause-inside : goal.returns-clause-inside
returns-clause-inside c = slice_get_within _ _ _ c.in_ok-intern.ensures.ok

pub returns-clause-kept : goal.returns-clause-kept
returns-clause-kept c = kernel-stays _ _ c.requires.run c.intern.ensures.keeps c.intern.ensures.same.basis
