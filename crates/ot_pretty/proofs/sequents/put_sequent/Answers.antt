use Rattle.std.proofs.Common.{◌++◌}
use Rattle.ot_kernel.specs.State.{term_at, theorem_at}
use Rattle.ot_forms.specs.Printing.{readable_term}
use Rattle.ot_text.specs.Texts.{ascending, hyps_text}
use Rattle.ot_text.proofs.Putting.{then, same-text}
use Rattle.ot_text.proofs.Gathering.{texts-through}
use Rattle.ot_pretty.proofs.sequents.put_sequent.Goals as goal

pub returns : goal.returns
returns c =
    let hidden = c.args.notation.now in
    let hyps = texts-through (readable_term hidden) (term_at c.args.kernel.now) c.hyps.result.now
    (theorem_at c.args.kernel.now c.args.th).hyps c.hyps.ensures.hyps in
    same-text (λ j. hyps_text (ascending (hyps j)) ++ readable_term hidden (c.concl.ensures.concl j))
    (then c.put_hypotheses.ensures c.put_whole.ensures)
