use Rattle.std.specs.Prelude.{IsErrAnd}
use Rattle.std.proofs.Common.{◌≡◌, rules, subst, Ok, Err, length}
use Rattle.ot_parse.specs.declared.halt.Halt.TheVariants.{Memory}
use Rattle.ot_parse.proofs.Halts.{handed-on}
use Rattle.ot_parse.proofs.TermLoops.{EndGoes, on-end, no-memory}
use Rattle.ot_parse.specs.TermCode.{EndsWithin}
use Rattle.ot_parse.proofs.terms.ended.Goals as goal
use Rattle.ot_logic.specs.RanOut.{ran_out}

pub returns-in_err-part-clause-read : goal.returns-in_err-part-clause-read
returns-in_err-part-clause-read c = λ start h.
    rw (handed-on _ _ c.from_residual.ensures.1)
    (on-end c.args.total c.args.notation.now start c.args.frames.now.items c.close.new.frames.items c.args.part
    c.args.text.now (Err c.in_err-part.field-0.0) h c.in_err-part.ensures.read)

pub returns-in-Whole-clause-read : goal.returns-in-Whole-clause-read
returns-in-Whole-clause-read c = λ start h.
    subst (λ v. EndGoes c.args.total c.args.notation.now start c.close.new.frames.items (Ok v))
    c.in-Whole.is
    (on-end c.args.total c.args.notation.now start c.args.frames.now.items c.close.new.frames.items c.args.part
    c.args.text.now (Ok c.in_ok-part.field-0) h c.in_ok-part.ensures.read)

pub returns-in_ok-push-in-Further-clause-read : goal.returns-in_ok-push-in-Further-clause-read
returns-in_ok-push-in-Further-clause-read c = λ start h.
    subst (λ v. EndGoes c.args.total c.args.notation.now start c.close.new.frames.items (Ok v))
    c.in-Further.is
    (on-end c.args.total c.args.notation.now start c.args.frames.now.items c.close.new.frames.items c.args.part
    c.args.text.now (Ok c.in_ok-part.field-0) h c.in_ok-part.ensures.read)
    c.push.new.self.items c.in_ok-push-in-Further.ensures.items

pub returns-in_err-push-in-Further-clause-read : goal.returns-in_err-push-in-Further-clause-read
returns-in_err-push-in-Further-clause-read c = λ start h.
    let m : IsErrAnd c.from_residual-in_err-push-in-Further.result (λ x. x ≡ Memory ran_out) = search rules in
    no-memory c.args.total c.args.notation.now start c.push.new.self.items
    c.from_residual-in_err-push-in-Further.result m

pub returns-in_ok-push-in-Further-clause-shorter : goal.returns-in_ok-push-in-Further-clause-shorter
returns-in_ok-push-in-Further-clause-shorter c =
    subst (EndsWithin (length c.args.text.now)) c.in-Further.is c.in_ok-part.ensures.shorter
