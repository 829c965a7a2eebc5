use Rattle.std.proofs.lemmas.Result.{on_ok_weaker}
use Rattle.ot_sample.proofs.Lines.{onto}
use Rattle.ot_sample.proofs.sample.push_redex.Goals as goal

pub returns : goal.returns
returns c =
    let three = onto _ _ _ _ _ (onto _ _ _ _ _ c.in_ok-push_number.ensures c.in_ok-push_lines.ensures)
    c.in_ok-push_number-2.ensures in
    let five = onto _ _ _ _ _ (onto _ _ _ _ _ three c.in_ok-push_lines-2.ensures) c.in_ok-push_number-3.ensures in
    on_ok_weaker c.push_lines-3.result (onto _ _ _ _ _ five) c.push_lines-3.ensures
