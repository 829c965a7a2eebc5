use Rattle.std.proofs.Common.{subst, sym, Ok, length, []}
use Rattle.ot_forms.specs.Refusals.{open_limit}
use Rattle.ot_parse.specs.Gives.{IsReadAs}
use Rattle.ot_parse.specs.Values.{meant_of}
use Rattle.ot_parse.specs.TermFrames.{begun}
use Rattle.ot_parse.specs.TermCode.{IsOn, IsNext, BeginsWithin}
use Rattle.ot_parse.proofs.Handing.{handed}
use Rattle.ot_parse.proofs.TermLoops.{on-start}
use Rattle.ot_parse.proofs.terms.read_part.Goals as goal

pub terms-init : goal.terms-init
terms-init c = subst (λ fs. IsOn c.args.total c.args.notation.now c.args.text.now fs c.args.text.now)
    (sym c.new-frames.ensures.items) (on-start c.args.total c.args.notation.now c.args.text.now c.requires)

pub returns-in_err-part-clause-read : goal.returns-in_err-part-clause-read
returns-in_err-part-clause-read c =
    handed c.from_residual.result c.in_err-part.field-0.0
    (λ r. IsReadAs (λ x. meant_of x.0) (λ x. x.1.now) r
    (begun c.args.total c.args.notation.now open_limit [] c.args.text.now)) c.from_residual.ensures.1
    (c.in_err-part.ensures.read c.args.text.now c.terms.invariant)

pub returns-in-Ended-clause-read : goal.returns-in-Ended-clause-read
returns-in-Ended-clause-read c =
    (subst (λ v. IsNext c.args.total c.args.notation.now c.args.text.now c.next_of.new.frames.items (Ok v))
    c.in-Ended.is (c.in_ok-part.ensures.read c.args.text.now c.terms.invariant)).1

pub returns-in-Ended-clause-kept : goal.returns-in-Ended-clause-kept
returns-in-Ended-clause-kept c =
    (subst (λ v. IsNext c.args.total c.args.notation.now c.args.text.now c.next_of.new.frames.items (Ok v))
    c.in-Ended.is (c.in_ok-part.ensures.read c.args.text.now c.terms.invariant)).0

pub terms-preserved : goal.terms-preserved
terms-preserved c =
    subst (λ v. IsNext c.args.total c.args.notation.now c.args.text.now c.next_of.new.frames.items (Ok v))
    c.in-Begins.is (c.in_ok-part.ensures.read c.args.text.now c.terms.invariant)

pub terms-smaller : goal.terms-smaller
terms-smaller c = subst (BeginsWithin (length c.terms.rest.now)) c.in-Begins.is c.in_ok-part.ensures.shorter
