use Rattle.std.specs.Prelude.{codes}
use Rattle.std.proofs.Common.{◌≡◌, ◌+◌, ◌∙◌, sym, subst, ap, arith, map, length}
use Rattle.ot_logic.specs.PlainTrees.{term_of_tree}
use Rattle.ot_forms.specs.Reading.{Reading}
use Rattle.ot_parse.specs.Gives.{IsReadAs}
use Rattle.ot_parse.specs.ReadLines.{Kept, kept_of, hyps_meant}
use Rattle.ot_parse.proofs.Handing.{handed}
use Rattle.ot_parse.proofs.Lengths.{literal-length}
use Rattle.ot_parse.proofs.WholeLines.{nothing-hyps, bar-halts, bar-goes, some-hyps}
use Rattle.ot_parse.proofs.reader.read_hyps.Goals as goal

pub returns-in-None-clause-read : goal.returns-in-None-clause-read
returns-in-None-clause-read c = nothing-hyps c.args.notation.now c.args.line.now c.in-None.ensures.cases

pub returns-in_err-rest-in-Some-clause-read : goal.returns-in_err-rest-in-Some-clause-read
returns-in_err-rest-in-Some-clause-read c =
    handed c.from_residual.result c.in_err-rest-in-Some.field-0.0
    (λ r. IsReadAs (λ x. kept_of x.0) (λ x. x.1.now) r (hyps_meant c.args.notation.now c.args.line.now))
    c.from_residual.ensures.1
    (bar-halts c.args.notation.now c.in-Some.byte.now c.in-Some.field-0-1.now c.args.line.now
    c.in_err-rest-in-Some.field-0.0 c.in-Some.ensures.cases.0 c.if-byte-eq124.true c.in_err-rest-in-Some.ensures)

pub returns-in_ok-rest-in-Some-clause-read : goal.returns-in_ok-rest-in-Some-clause-read
returns-in_ok-rest-in-Some-clause-read c =
    bar-goes c.args.notation.now c.in-Some.byte.now c.in-Some.field-0-1.now c.args.line.now
    c.in_ok-rest-in-Some.rest.now (map term_of_tree c.new.result.items) c.in-Some.ensures.cases.0 c.if-byte-eq124.true c.in_ok-rest-in-Some.ensures
    (ap (map term_of_tree) c.new.ensures.items)

pub returns-else-byte-eq124-clause-read : goal.returns-else-byte-eq124-clause-read
returns-else-byte-eq124-clause-read c =
    let e = c.in-Some.ensures.cases.0 in
    subst (λ (o : Reading Kept). IsReadAs (λ x. kept_of x.0) (λ x. x.1.now) c.read_some_hyps.result o)
    (sym (ap (hyps_meant c.args.notation.now) e ∙ some-hyps c.args.notation.now c.in-Some.byte.now
    c.in-Some.field-0-1.now c.args.line.now (sym e) c.if-byte-eq124.false)) c.read_some_hyps.ensures.read

pub returns-in_ok-rest-in-Some-clause-shorter : goal.returns-in_ok-rest-in-Some-clause-shorter
returns-in_ok-rest-in-Some-clause-shorter c =
    let r = c.in_ok-rest-in-Some in
    let a : length c.args.line.now ≡ 3 + length r.rest.now =
    literal-length (codes "|- ") c.args.line.now r.rest.now r.ensures in omega (arith, a)
