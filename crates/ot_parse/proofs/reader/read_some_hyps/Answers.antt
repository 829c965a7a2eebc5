use Rattle.std.specs.Prelude.{IsErrAnd, ◌≡◌}
use Rattle.std.proofs.Common.{ap, arith, map, Ok, rules}
use Rattle.ot_logic.specs.RanOut.{ran_out}
use Rattle.ot_forms.specs.Meaning.{meanings}
use Rattle.ot_forms.specs.Reading.{mapped, first_hyp_at}
use Rattle.ot_parse.specs.declared.halt.Halt.TheVariants.{Memory}
use Rattle.ot_parse.specs.Gives.{IsReadAs}
use Rattle.ot_logic.specs.PlainTrees.{term_of_tree}
use Rattle.ot_parse.specs.Values.{meant_of}
use Rattle.ot_parse.specs.ReadLines.{kept_of, once, terms}
use Rattle.ot_parse.proofs.Handing.{handed}
use Rattle.ot_parse.proofs.WholeLines.{far-start, far-halt, far-behind-halt, far-more}
use Rattle.ot_parse.proofs.WholeLines.{far-end, separator-shorter}
use Rattle.ot_parse.proofs.reader.read_some_hyps.Goals as goal

pub hyps-init : goal.hyps-init
hyps-init c =
    far-start c.args.notation.now c.args.line.now _ (ap (λ xs. Ok (map term_of_tree xs)) c.new.ensures.items)

pub returns-in_err-term-clause-read : goal.returns-in_err-term-clause-read
returns-in_err-term-clause-read c =
    handed c.from_residual.result c.in_err-term.field-0.0
    (λ r. IsReadAs (λ x. kept_of x.0) (λ x. x.1.now) r
    (mapped (λ hs. once (meanings c.args.notation.now 0 hs))
    (first_hyp_at (terms c.args.notation.now) c.args.line.now)))
    c.from_residual.ensures.1
    (far-halt c.args.notation.now c.sound.ensures c.args.line.now (kept_of c.hyps.hyps) c.hyps.rest.now
    c.hyps.invariant c.in_err-term.field-0.0 c.in_err-term.ensures.read)

pub returns-in_err-is_further-clause-read : goal.returns-in_err-is_further-clause-read
returns-in_err-is_further-clause-read c =
    handed c.from_residual-in_err-is_further.result c.in_err-is_further.field-0.0
    (λ r. IsReadAs (λ x. kept_of x.0) (λ x. x.1.now) r
    (mapped (λ hs. once (meanings c.args.notation.now 0 hs))
    (first_hyp_at (terms c.args.notation.now) c.args.line.now)))
    c.from_residual-in_err-is_further.ensures.1
    (far-behind-halt c.args.notation.now c.sound.ensures c.args.line.now (kept_of c.hyps.hyps) c.hyps.rest.now
    c.hyps.invariant (meant_of c.in_ok-term.term) c.in_ok-term.end.now c.in_ok-term.ensures.read
    c.in_err-is_further.field-0.0 c.in_err-is_further.ensures)

pub returns-in_err-more-clause-read : goal.returns-in_err-more-clause-read
returns-in_err-more-clause-read c =
    let m : IsErrAnd c.from_residual-in_err-more.result (λ x. x ≡ Memory ran_out) = search rules in
    handed c.from_residual-in_err-more.result (Memory ran_out)
    (λ r. IsReadAs (λ x. kept_of x.0) (λ x. x.1.now) r
    (mapped (λ hs. once (meanings c.args.notation.now 0 hs))
    (first_hyp_at (terms c.args.notation.now) c.args.line.now)))
    m tt

pub returns-then-not-is_further-clause-read : goal.returns-then-not-is_further-clause-read
returns-then-not-is_further-clause-read c =
    far-end c.args.notation.now c.sound.ensures c.args.line.now (kept_of c.hyps.hyps) c.hyps.rest.now c.hyps.invariant
    (meant_of c.in_ok-term.term) c.in_ok-term.end.now c.in_ok-term.ensures.read (kept_of c.in_ok-more.more)
    c.in_ok-is_further.next.now
    c.in_ok-more.ensures (rw c.if-not-is_further.true at c.in_ok-is_further.ensures)

pub returns-then-not-is_further-clause-shorter : goal.returns-then-not-is_further-clause-shorter
returns-then-not-is_further-clause-shorter c =
    let a = separator-shorter c.in_ok-term.end.now c.in_ok-is_further.is_further c.in_ok-is_further.next.now
    c.in_ok-is_further.ensures in let b = c.in_ok-term.ensures.shorter in let w = c.hyps.invariant.within in
    omega (arith, a, b, w)

pub hyps-preserved : goal.hyps-preserved
hyps-preserved c =
    far-more c.args.notation.now c.sound.ensures c.args.line.now (kept_of c.hyps.hyps) c.hyps.rest.now
    c.hyps.invariant (meant_of c.in_ok-term.term) c.in_ok-term.end.now c.in_ok-term.ensures.read (kept_of
    c.in_ok-more.more)
    c.in_ok-is_further.next.now
    c.in_ok-more.ensures (rw c.if-not-is_further.false at c.in_ok-is_further.ensures)

pub hyps-smaller : goal.hyps-smaller
hyps-smaller c =
    let a = separator-shorter c.in_ok-term.end.now c.in_ok-is_further.is_further c.in_ok-is_further.next.now
    c.in_ok-is_further.ensures in let b = c.in_ok-term.ensures.shorter in omega (arith, a, b)
