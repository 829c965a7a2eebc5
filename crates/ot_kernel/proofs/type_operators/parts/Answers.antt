use Rattle.std.proofs.Common.{ap, ◌∙◌, Some, arith}
use Rattle.ot_term.specs.declared.term.TermNode.{TermNode}
use Rattle.ot_term.specs.TermTable.{term_of}
use Rattle.ot_kernel.proofs.Premises.{parts_are}
use Rattle.ot_kernel.proofs.type_operators.parts.Goals as goal

pub returns : goal.returns
returns c =
    let m = c.args.terms.now in
    let node = c.node.ensures.tree ∙ ap (λ (n : TermNode). Some (term_of m.types m.terms n)) c.in-App.is in
    let (p, x) = rw c.in-App.is at c.node.ensures.below in
    parts_are m c.args.premise c.in-App.p c.in-App.t c.type_of.result node c.requires.premise
    (omega (arith, p, c.requires.inside)) c.type_of.ensures.below c.type_of.ensures.typed
