use Rattle.std.proofs.Common.{◌-◌, arith, subst, Ok, Err, length}
use Rattle.ot_logic.specs.PlainTrees.{type_of_tree}
use Rattle.ot_parse.proofs.Halts.{handed-on}
use Rattle.ot_parse.proofs.TypeFronts.{FrontGoes, EndGoes, on-front, on-end}
use Rattle.ot_parse.specs.Frames.{IsFrontOf, OpensWithin, EndsWithin}
use Rattle.ot_parse.proofs.Lengths.{type-length}
use Rattle.ot_parse.proofs.types.next_of.Goals as goal

pub returns-in_err-inside-clause-read : goal.returns-in_err-inside-clause-read
returns-in_err-inside-clause-read c = λ start h.
    rw (handed-on _ _ c.from_residual.ensures.1)
    (on-front c.args.notation.now c.args.room start c.args.frames.now.items (c.args.room - c.len.result)
    c.args.text.now (Err c.in_err-inside.field-0.0) h (omega arith) c.in_err-inside.ensures.read)

pub returns-in_ok-push-in-Inside-clause-read : goal.returns-in_ok-push-in-Inside-clause-read
returns-in_ok-push-in-Inside-clause-read c = λ start h.
    subst (λ v. FrontGoes c.args.notation.now c.args.room start c.args.frames.now.items c.args.text.now (Ok v))
    c.in-Inside.is
    (on-front c.args.notation.now c.args.room start c.args.frames.now.items (c.args.room - c.len.result)
    c.args.text.now (Ok c.in_ok-inside.field-0) h (omega arith) c.in_ok-inside.ensures.read)
    c.push.new.self.items c.in_ok-push-in-Inside.ensures.items

pub returns-in_err-ty-in-Leaf-clause-read : goal.returns-in_err-ty-in-Leaf-clause-read
returns-in_err-ty-in-Leaf-clause-read c = λ start h.
    rw (handed-on _ _ c.from_residual-in_err-ty-in-Leaf.ensures.1)
    (let leaf =
    subst (λ v. FrontGoes c.args.notation.now c.args.room start c.args.frames.now.items c.args.text.now (Ok v))
    c.in-Leaf.is (on-front c.args.notation.now c.args.room start c.args.frames.now.items (c.args.room - c.len.result)
    c.args.text.now (Ok c.in_ok-inside.field-0) h (omega arith) c.in_ok-inside.ensures.read) in
    on-end c.args.notation.now c.args.room start c.args.frames.now.items c.close.new.frames.items (type_of_tree
    c.in-Leaf.ty) c.args.text.now c.in-Leaf.after.now (Err c.in_err-ty-in-Leaf.field-0.0) h leaf
    c.in_err-ty-in-Leaf.ensures.read)

pub returns-in-Whole-clause-read : goal.returns-in-Whole-clause-read
returns-in-Whole-clause-read c = λ start h.
    let leaf =
    subst (λ v. FrontGoes c.args.notation.now c.args.room start c.args.frames.now.items c.args.text.now (Ok v))
    c.in-Leaf.is
    (on-front c.args.notation.now c.args.room start c.args.frames.now.items (c.args.room - c.len.result)
    c.args.text.now (Ok c.in_ok-inside.field-0) h (omega arith) c.in_ok-inside.ensures.read) in
    subst (λ v. EndGoes c.args.notation.now c.args.room start c.close.new.frames.items (Ok v))
    c.in-Whole.is
    (on-end c.args.notation.now c.args.room start c.args.frames.now.items c.close.new.frames.items
    (type_of_tree c.in-Leaf.ty) c.args.text.now c.in-Leaf.after.now (Ok c.in_ok-ty-in-Leaf.field-0) h leaf
    c.in_ok-ty-in-Leaf.ensures.read)

pub returns-in_ok-push-in-Further-clause-read : goal.returns-in_ok-push-in-Further-clause-read
returns-in_ok-push-in-Further-clause-read c = λ start h.
    let leaf =
    subst (λ v. FrontGoes c.args.notation.now c.args.room start c.args.frames.now.items c.args.text.now (Ok v))
    c.in-Leaf.is
    (on-front c.args.notation.now c.args.room start c.args.frames.now.items (c.args.room - c.len.result)
    c.args.text.now (Ok c.in_ok-inside.field-0) h (omega arith) c.in_ok-inside.ensures.read) in
    subst (λ v. EndGoes c.args.notation.now c.args.room start c.close.new.frames.items (Ok v))
    c.in-Further.is
    (on-end c.args.notation.now c.args.room start c.args.frames.now.items c.close.new.frames.items
    (type_of_tree c.in-Leaf.ty) c.args.text.now c.in-Leaf.after.now (Ok c.in_ok-ty-in-Leaf.field-0) h leaf
    c.in_ok-ty-in-Leaf.ensures.read)
    c.push-in-Further.new.self.items c.in_ok-push-in-Further.ensures.items

pub returns-in_ok-push-in-Inside-clause-shorter : goal.returns-in_ok-push-in-Inside-clause-shorter
returns-in_ok-push-in-Inside-clause-shorter c =
    subst (OpensWithin (length c.args.text.now)) c.in-Inside.is c.in_ok-inside.ensures.shorter

pub returns-in_ok-push-in-Further-clause-shorter : goal.returns-in_ok-push-in-Further-clause-shorter
returns-in_ok-push-in-Further-clause-shorter c =
    let leaf =
    subst (λ v. IsFrontOf c.args.notation.now (c.args.room - c.len.result) c.args.text.now (Ok v))
    c.in-Leaf.is c.in_ok-inside.ensures.read in
    let a = type-length c.args.notation.now c.sound.ensures (c.args.room - c.len.result) c.args.text.now
    (type_of_tree c.in-Leaf.ty) c.in-Leaf.after.now leaf in
    let b = subst (EndsWithin (length c.in-Leaf.after.now)) c.in-Further.is c.in_ok-ty-in-Leaf.ensures.shorter
    in omega (arith, a, b)
