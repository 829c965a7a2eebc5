use Rattle.std.proofs.Common.{◌∙◌}
use Rattle.ot_logic.specs.Trees.{App}
use Rattle.ot_logic.proofs.TableLemmas.{Extends-trans}
use Rattle.ot_log_format.specs.declared.word.RecordWord.TheVariants as words
use Rattle.ot_log_nodes.specs.Items.{type_at, term_at}
use Rattle.ot_log_nodes.proofs.ItemLemmas.{term-is, term-stays}
use Rattle.ot_log_page.proofs.Adding.{trans-adds, adds-as}
use Rattle.ot_log_page.proofs.expand.write_trans.Goals as goal

pub returns-clause-adds : goal.returns-clause-adds
returns-clause-adds c =
    let ts = c.args.nodes.now in
    let ms = c.equals_at.new.nodes in
    let us = c.app.new.self in
    let equals = term-is ms c.in_ok-equals.equals _ c.in_ok-equals.ensures.ok in
    let left = term-stays ts ms c.in_ok-equals.ensures.extends c.args.sides.left c.requires.sides.left in
    let half = term-is us c.in_ok-half.half _ c.in_ok-half.ensures.ok ∙ (λ k. App (equals k) (left k)) in
    trans-adds ts us _ _ _ _ (type_at ts c.args.sides.ty) (term_at ts c.args.sides.left) c.args.first c.args.second
    c.in_ok-same.same c.in_ok-both.both c.in_ok-number.number
    (Extends-trans c.in_ok-equals.ensures.extends c.in_ok-half.ensures.extends)
    (adds-as us _ _ words.Refl _ _ _ half c.in_ok-same.ensures.adds) c.in_ok-both.ensures.adds
    c.in_ok-number.ensures.adds
