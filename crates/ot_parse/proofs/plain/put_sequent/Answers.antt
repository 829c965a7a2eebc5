use Rattle.std.proofs.Common.{◌++◌, ap, map}
use Rattle.ot_text.specs.Texts.{tm_text, ascending, hyps_text}
use Rattle.ot_text.proofs.Putting.{then, same-text}
use Rattle.ot_text.proofs.Gathering.{texts-through}
use Rattle.ot_logic.specs.PlainTrees.{term_of_tree}
use Rattle.ot_parse.specs.Plain.{sequent_of}
use Rattle.ot_parse.proofs.plain.put_sequent.Goals as goal

pub returns : goal.returns
returns c =
    let hyps = texts-through tm_text term_of_tree c.as_slice.result.now (sequent_of c.args.sequent.now).hyps
    (ap (map term_of_tree) c.as_slice.ensures.value) in
    same-text (λ j. hyps_text (ascending (hyps j)) ++ tm_text (term_of_tree c.args.sequent.now.concl))
    (then c.put_hypotheses.ensures c.put_term.ensures)
