use Rattle.std.proofs.Common.{◌+◌, ◌∙◌, sym, ap, arith, map, drop}
use Rattle.std.proofs.lemmas.Bool.Decides.{nat_tests}
use Rattle.ot_forms.specs.Reading.{ended}
use Rattle.ot_parse.proofs.Lookups.{ended-other}
use Rattle.ot_parse.proofs.symbols.ended_word.Goals as goal
use Rattle.ot_logic.proofs.Elements.{drop-item}

pub loop-candidate-preserved : goal.loop-candidate-preserved
loop-candidate-preserved c =
    sym (ap (λ z. ended (map (λ c. (c.0.now, c.1.now)) z))
    (drop-item c.args.candidates.now c.loop-candidate.candidate-index c.candidate-item.result (omega arith)
    c.candidate-item.is)
    ∙ ended-other c.candidate-item.result.0.now c.candidate-item.result.1.now
    (map (λ c. (c.0.now, c.1.now)) (drop (c.loop-candidate.candidate-index + 1) c.args.candidates.now))
    (grind (arith, nat_tests, c.is_empty.ensures, c.if-is_empty.false)))
    ∙ c.loop-candidate.invariant
