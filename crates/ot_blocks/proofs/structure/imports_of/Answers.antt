use Rattle.std.proofs.Common.{◌+◌, ◌∙◌, sym, ap, subst, take}
use Rattle.std.proofs.lemmas.Result.{err_from_is_err_and}
use Rattle.ot_blocks.specs.Answers.{places_in}
use Rattle.ot_blocks.proofs.Collecting.{ReadSoFar, import_read, other_read, statement_refused}
use Rattle.ot_blocks.proofs.structure.imports_of.Goals as goal
use Rattle.ot_blocks.proofs.structure.imports_of.Goals.{in-Some+in_ok-push, in_default}

pub returns-in_err-import : goal.returns-in_err-import
returns-in_err-import c =
    let p = err_from_is_err_and c.from_residual.result c.from_residual.ensures.1 in
    rw (p.1, p.2)
    (statement_refused (places_in c.args.places.now) c.args.statements.now c.each.statement-index c.each.imports.items
    c.each-test.true c.each.invariant c.in_err-import.field-0.0 c.in_err-import.ensures)

pub each-preserved : goal.each-preserved
each-preserved c =
    let places = places_in c.args.places.now in
    let ts = c.args.statements.now in
    let k = c.each.statement-index in
    elim c.match-branch-2.branch [
      | in-Some+in_ok-push w ↦
          subst (ReadSoFar places (take (k + 1) ts))
          (sym (ap (λ v. v.items) w.imports-is ∙ w.in_ok-push.ensures.items))
          (import_read places ts k c.each.imports.items c.each-test.true c.each.invariant w.in-Some.import
          (rw w.in-Some.is at c.in_ok-import.ensures))
      | in_default w ↦
          subst (ReadSoFar places (take (k + 1) ts)) (sym (ap (λ v. v.items) w.imports-is))
          (other_read places ts k c.each.imports.items c.each-test.true c.each.invariant
          (rw w.in_default.is at c.in_ok-import.ensures))
    ]
