use Rattle.ot_log_format.specs.declared.word.RecordWord.TheVariants as words
use Rattle.ot_log_nodes.specs.Items.{type_at, term_at}
use Rattle.ot_log_nodes.proofs.ItemLemmas.{term-is, term-stays}
use Rattle.ot_log_page.proofs.Adding.{sym-adds, adds-as}
use Rattle.ot_log_page.proofs.expand.write_sym.Goals as goal

pub returns-clause-adds : goal.returns-clause-adds
returns-clause-adds c =
    let ts = c.args.nodes.now in
    let us = c.equals_at.new.nodes in
    let equals = term-is us c.in_ok-equals.equals _ c.in_ok-equals.ensures.ok in
    let left = term-stays ts us c.in_ok-equals.ensures.extends c.args.sides.left c.requires.sides.left in
    sym-adds ts us _ _ _ _ _ _ (type_at ts c.args.sides.ty) (term_at ts c.args.sides.left) c.args.theorem
    c.in_ok-same.same
    c.in_ok-half.half c.in_ok-left.left c.in_ok-both.both c.in_ok-number.number c.in_ok-equals.ensures.extends
    (adds-as us _ _ words.Refl _ _ _ equals c.in_ok-same.ensures.adds) c.in_ok-half.ensures.adds
    (adds-as us _ _ words.Refl _ _ _ left c.in_ok-left.ensures.adds) c.in_ok-both.ensures.adds
    c.in_ok-number.ensures.adds
