use Rattle.std.specs.Prelude.{flat_map, Err}
use Rattle.std.proofs.Common.{◌-◌, ap, ◌∙◌, arith}
use Rattle.std.proofs.lemmas.List.{take_all}
use Rattle.ot_read.proofs.Filling.{line_of, lines_are, past, past-end}
use Rattle.ot_read.proofs.printing.sequents_text.Goals as goal
use Rattle.ot_logic.proofs.Results.{same_Err}

pub returns-in_err-plain_text-clause-too_large : goal.returns-in_err-plain_text-clause-too_large
returns-in_err-plain_text-clause-too_large c = λ p.
    past c.args.sequents.now c.loop-sequent.sequent-index c.sequent-item.result c.loop-sequent-test.true
    c.sequent-item.is
    c.loop-sequent.text.items c.args.max (c.args.max - c.len.result) c.loop-sequent.invariant.0
    (let l = c.len.ensures in let w = c.loop-sequent.invariant.1 in omega (arith, l, w))
    (c.in_err-plain_text.ensures.too_large (ap Err (same_Err _ _ _ c.from_residual.ensures.1 p)))

pub returns-then-len-max-clause-too_large : goal.returns-then-len-max-clause-too_large
returns-then-len-max-clause-too_large c = λ p.
    past-end c.args.sequents.now c.loop-sequent.sequent-index c.sequent-item.result c.loop-sequent-test.true
    c.sequent-item.is
    c.loop-sequent.text.items c.plain_text.new.out.items c.args.max c.loop-sequent.invariant.0
    c.in_ok-plain_text.ensures.ok.bytes
    (omega (arith, c.len-in-loop-sequent.ensures, c.if-len-max.true, c.plain_text.new.out.ok.0))

pub returns-clause-ok : goal.returns-clause-ok
returns-clause-ok c =
    c.loop-sequent.invariant.0
    ∙ ap (flat_map line_of) (take_all c.loop-sequent.sequent-index c.args.sequents.now c.loop-sequent-test.false)
    ∙ lines_are c.args.sequents.now
