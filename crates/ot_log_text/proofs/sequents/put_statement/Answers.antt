use Rattle.std.proofs.Common.{◌++◌, ap, map}
use Rattle.ot_log_nodes.specs.Items.{term_at}
use Rattle.ot_log_rules.specs.Statements.{sequent_at}
use Rattle.ot_text.specs.Texts.{tm_text, ascending, hyps_text}
use Rattle.ot_text.proofs.Putting.{then, same-text}
use Rattle.ot_text.proofs.Gathering.{texts-through}
use Rattle.ot_log_text.proofs.sequents.put_statement.Goals as goal

pub returns : goal.returns
returns c =
    let ts = c.args.nodes.now in
    let q = c.args.statement.now in
    let hyps = texts-through tm_text (term_at ts) c.as_slice.result.now (sequent_at ts q).hyps
    (ap (map (term_at ts)) c.as_slice.ensures.value) in
    same-text (ap (λ xs. hyps_text (ascending xs) ++ tm_text (term_at ts q.concl)) hyps)
    (then c.put_hypotheses.ensures c.put_term.ensures)
