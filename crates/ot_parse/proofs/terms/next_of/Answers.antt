use Rattle.std.specs.Prelude.{IsErrAnd}
use Rattle.std.proofs.Common.{◌≡◌, ◌-◌, arith, rules, subst, Ok, Err, length}
use Rattle.ot_parse.specs.declared.halt.Halt.TheVariants.{Memory}
use Rattle.ot_forms.specs.Refusals.{open_limit}
use Rattle.ot_parse.proofs.Halts.{handed-on}
use Rattle.ot_parse.proofs.TermLoops.{FrontGoes, on-front, no-memory, begun-shorter}
use Rattle.ot_parse.specs.Values.{meant_of}
use Rattle.ot_parse.specs.TermFrames.{around}
use Rattle.ot_parse.specs.TermCode.{frames_of, IsFront, OpensWithin}
use Rattle.ot_parse.proofs.Passing.{term-begins}
use Rattle.ot_parse.proofs.terms.next_of.Goals as goal
use Rattle.ot_logic.specs.RanOut.{ran_out}

pub returns-in_err-inside-clause-read : goal.returns-in_err-inside-clause-read
returns-in_err-inside-clause-read c = λ start h.
    rw (handed-on _ _ c.from_residual.ensures.1)
    (on-front c.args.total c.args.notation.now c.sound.ensures start c.args.frames.now.items c.as_slice.result.now
    (open_limit - c.len-room.result) c.args.text.now (Err c.in_err-inside.field-0.0) h c.as_slice.ensures.value
    (omega arith) c.in_err-inside.ensures.read)

pub returns-in_ok-push-in-Inside-clause-read : goal.returns-in_ok-push-in-Inside-clause-read
returns-in_ok-push-in-Inside-clause-read c = λ start h.
    subst (λ v. FrontGoes c.args.total c.args.notation.now start c.args.frames.now.items (Ok v))
    c.in-Inside.is
    (on-front c.args.total c.args.notation.now c.sound.ensures start c.args.frames.now.items c.as_slice.result.now
    (open_limit - c.len-room.result) c.args.text.now (Ok c.in_ok-inside.field-0) h c.as_slice.ensures.value
    (omega arith) c.in_ok-inside.ensures.read)
    c.push.new.self.items c.in_ok-push-in-Inside.ensures.items

pub returns-in-Leaf-clause-read : goal.returns-in-Leaf-clause-read
returns-in-Leaf-clause-read c = λ start h. c.ended.ensures.read start
    (subst (λ v. FrontGoes c.args.total c.args.notation.now start c.args.frames.now.items (Ok v))
    c.in-Leaf.is
    (on-front c.args.total c.args.notation.now c.sound.ensures start c.args.frames.now.items c.as_slice.result.now
    (open_limit - c.len-room.result) c.args.text.now (Ok c.in_ok-inside.field-0) h c.as_slice.ensures.value
    (omega arith) c.in_ok-inside.ensures.read))

pub returns-in_ok-push-in-Head-clause-read : goal.returns-in_ok-push-in-Head-clause-read
returns-in_ok-push-in-Head-clause-read c = λ start h. c.ended-in-Head.ensures.read start
    (subst (λ v. FrontGoes c.args.total c.args.notation.now start c.args.frames.now.items (Ok v))
    c.in-Head.is
    (on-front c.args.total c.args.notation.now c.sound.ensures start c.args.frames.now.items c.as_slice.result.now
    (open_limit - c.len-room.result) c.args.text.now (Ok c.in_ok-inside.field-0) h c.as_slice.ensures.value
    (omega arith) c.in_ok-inside.ensures.read)
    c.push-in-Head.new.self.items c.in_ok-push-in-Head.ensures.items)

pub returns-in_err-push-in-Inside-clause-read : goal.returns-in_err-push-in-Inside-clause-read
returns-in_err-push-in-Inside-clause-read c = λ start h.
    let m : IsErrAnd c.from_residual-in_err-push-in-Inside.result (λ x. x ≡ Memory ran_out) = search rules in
    no-memory c.args.total c.args.notation.now start c.push.new.self.items
    c.from_residual-in_err-push-in-Inside.result m

pub returns-in_err-push-in-Head-clause-read : goal.returns-in_err-push-in-Head-clause-read
returns-in_err-push-in-Head-clause-read c = λ start h.
    let m : IsErrAnd c.from_residual-in_err-push-in-Head.result (λ x. x ≡ Memory ran_out) = search rules in
    no-memory c.args.total c.args.notation.now start c.push-in-Head.new.self.items
    c.from_residual-in_err-push-in-Head.result m

pub returns-in_ok-push-in-Inside-clause-shorter : goal.returns-in_ok-push-in-Inside-clause-shorter
returns-in_ok-push-in-Inside-clause-shorter c =
    subst (OpensWithin (length c.args.text.now)) c.in-Inside.is c.in_ok-inside.ensures.shorter

pub returns-in-Leaf-clause-shorter : goal.returns-in-Leaf-clause-shorter
returns-in-Leaf-clause-shorter c =
    let m = open_limit - c.len-room.result in
    let l = around (frames_of c.as_slice.result.now) in
    let leaf = subst (λ v. IsFront c.args.total c.args.notation.now m l c.args.text.now (Ok v)) c.in-Leaf.is
    (c.in_ok-inside.ensures.read c.requires.within) in
    term-begins (length c.in-Leaf.after.now) (length c.args.text.now) c.ended.result
    (begun-shorter c.args.total c.args.notation.now c.sound.ensures m l c.args.text.now c.in-Leaf.after.now
    (meant_of c.in-Leaf.part) leaf.1) c.ended.ensures.shorter

pub returns-in_ok-push-in-Head-clause-shorter : goal.returns-in_ok-push-in-Head-clause-shorter
returns-in_ok-push-in-Head-clause-shorter c =
    let b = subst (OpensWithin (length c.args.text.now)) c.in-Head.is c.in_ok-inside.ensures.shorter in
    term-begins (length c.in-Head.after.now) (length c.args.text.now) c.ended-in-Head.result
    (omega (arith, b)) c.ended-in-Head.ensures.shorter
