use Rattle.std.proofs.Common.{◌≡◌, map, drop}
use Rattle.ot_forms.specs.Reading.{ended}
use Rattle.ot_parse.proofs.symbols.ended_word.Given as goal

abbrev pub invariant-loop-candidate : goal.invariant-loop-candidate
invariant-loop-candidate l = ended (map (λ c. (c.0.now, c.1.now)) (drop l.candidate-index l.candidates))
    ≡ ended (map (λ c. (c.0.now, c.1.now)) l.candidates)
