use Rattle.std.proofs.Common.{◌∙◌, sym, ap, arith}
use Rattle.std.proofs.lemmas.Bool.Decides.{nat_tests}
use Rattle.ot_logic.specs.Hol.{same_ty, bool_ty}
use Rattle.ot_logic.specs.Naming.{names}
use Rattle.ot_logic.specs.PlainTrees.{type_of_tree}
use Rattle.ot_logic.proofs.PlainTrees.{type_Op}
use Rattle.ot_parse.proofs.Texts.{bool-some, bool-none}
use Rattle.ot_parse.proofs.trees.is_bool.Goals as goal

pub returns-then-not-is_empty : goal.returns-then-not-is_empty
returns-then-not-is_empty c =
    bool-none type_of_tree c.in-Op.name c.in-Op.args.items
    (grind (arith, nat_tests, c.is_empty.ensures, c.if-not-is_empty.true))
    ∙ ap (λ z. same_ty names z (bool_ty names)) (sym (ap type_of_tree c.in-Op.is ∙ type_Op c.in-Op.name c.in-Op.args))

pub returns-else-not-is_empty : goal.returns-else-not-is_empty
returns-else-not-is_empty c =
    c.is_text.ensures ∙ bool-some type_of_tree c.in-Op.name c.in-Op.args.items
    (grind (arith, nat_tests, c.is_empty.ensures, c.if-not-is_empty.false))
    ∙ ap (λ z. same_ty names z (bool_ty names)) (sym (ap type_of_tree c.in-Op.is ∙ type_Op c.in-Op.name c.in-Op.args))
