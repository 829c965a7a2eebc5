use Rattle.std.specs.Prelude.{not}
use Rattle.std.proofs.Common.{◌∙◌, ap, map, rules}
use Rattle.std.proofs.lemmas.Fn.{filter_same}
use Rattle.ot_logic.specs.Naming.{names}
use Rattle.ot_logic.specs.Hol.{same_tm}
use Rattle.ot_logic.specs.PlainTrees.{term_of_tree}
use Rattle.ot_parse.proofs.HypsOnce.{others-kept}
use Rattle.ot_parse.proofs.reader.without.Goals as goal

pub returns : goal.returns
returns c =
    ap (map term_of_tree) (filter_same _ (λ o. not (same_tm names (term_of_tree o) (term_of_tree c.args.term.now))) _
    (λ x b f' k. search rules) _ _ c.retain.ensures.filtered)
    ∙ others-kept (term_of_tree c.args.term.now) c.args.terms.items
