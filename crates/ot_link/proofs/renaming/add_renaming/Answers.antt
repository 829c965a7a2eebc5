use Rattle.std.proofs.Common.{◌∙◌, ◌<◌, length, sym, ap, subst, arith}
use Rattle.ot_logic.specs.Naming.{IsNameTable}
use Rattle.ot_machine.proofs.Kept.{grows-on}
use Rattle.ot_theory.specs.Interpretations.{parts_value}
use Rattle.ot_link.proofs.Ending.{on-ok, on-any}
use Rattle.ot_link.proofs.Interning.{add-allowed, add-stated, add-within}
use Rattle.ot_link.proofs.renaming.add_renaming.Goals as goal

pub returns-in_err-to-in-Some-clause-grown : goal.returns-in_err-to-in-Some-clause-grown
returns-in_err-to-in-Some-clause-grown c =
    grows-on c.in_ok-from-in-Some.ensures.grown c.in_err-to-in-Some.ensures.grown

pub add-requires : goal.add-requires
add-requires c =
    let k0 = c.args.session.now.kernel in
    let k1 = c.number_of.new.session.kernel in
    let k2 = c.number_of-in-Some.new.session.kernel in
    let table = subst (λ s. IsNameTable s.names) c.kernel.ensures c.sound.ensures.names in
    add-allowed k0 k1 k2 c.in_ok-from-in-Some.ensures.grown.kernel c.in_ok-to-in-Some.ensures.grown.kernel table
    c.args.interp.now c.requires.within
    c.args.value.now c.in-Some.from.now c.in-Some.to.now c.in-Some.kind c.in_ok-from-in-Some.from
    c.in_ok-to-in-Some.to
    (sym c.split_interpret.ensures.parts ∙ ap parts_value c.in-Some.is) c.in_ok-from-in-Some.ensures.name
    c.in_ok-to-in-Some.ensures.name c.in_ok-from-in-Some.ensures.within c.requires.new

pub returns-in_ok-to-in-Some-clause-added : goal.returns-in_ok-to-in-Some-clause-added
returns-in_ok-to-in-Some-clause-added c =
    let k0 = c.args.session.now.kernel in
    let k1 = c.number_of.new.session.kernel in
    let k2 = c.number_of-in-Some.new.session.kernel in
    let table = subst (λ s. IsNameTable s.names) c.kernel.ensures c.sound.ensures.names in
    on-ok c.add.result
    (add-stated k0 k1 k2 c.in_ok-from-in-Some.ensures.grown.kernel c.in_ok-to-in-Some.ensures.grown.kernel table
    c.args.interp.now c.requires.within
    c.args.value.now c.in-Some.from.now c.in-Some.to.now c.in-Some.kind c.in_ok-from-in-Some.from
    c.in_ok-to-in-Some.to
    (sym c.split_interpret.ensures.parts ∙ ap parts_value c.in-Some.is) c.in_ok-from-in-Some.ensures.name
    c.in_ok-to-in-Some.ensures.name c.in_ok-from-in-Some.ensures.within c.add.new.interp)
    c.add.ensures.added

pub returns-in_ok-to-in-Some-clause-within : goal.returns-in_ok-to-in-Some-clause-within
returns-in_ok-to-in-Some-clause-within c =
    let k0 = c.args.session.now.kernel in
    let k1 = c.number_of.new.session.kernel in
    let k2 = c.number_of-in-Some.new.session.kernel in
    let table = subst (λ s. IsNameTable s.names) c.kernel.ensures c.sound.ensures.names in
    let from : c.in_ok-from-in-Some.from < length k2.names =
    omega (arith, c.in_ok-from-in-Some.ensures.within, c.in_ok-to-in-Some.ensures.grown.kernel.names.longer) in
    on-any c.add.result (c.add.ensures.within (length k2.names) from c.in_ok-to-in-Some.ensures.within
    (add-within k0 k1 k2 c.in_ok-from-in-Some.ensures.grown.kernel c.in_ok-to-in-Some.ensures.grown.kernel table
    c.args.interp.now c.requires.within
    c.args.value.now c.in-Some.from.now c.in-Some.to.now c.in-Some.kind c.in_ok-from-in-Some.from
    c.in_ok-to-in-Some.to
    (sym c.split_interpret.ensures.parts ∙ ap parts_value c.in-Some.is) c.in_ok-from-in-Some.ensures.name
    c.in_ok-to-in-Some.ensures.name c.in_ok-from-in-Some.ensures.within))

pub returns-in_ok-to-in-Some-clause-grown : goal.returns-in_ok-to-in-Some-clause-grown
returns-in_ok-to-in-Some-clause-grown c = grows-on c.in_ok-from-in-Some.ensures.grown c.in_ok-to-in-Some.ensures.grown
