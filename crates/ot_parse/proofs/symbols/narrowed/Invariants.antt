use Rattle.std.proofs.Common.{◌≡◌, ◌++◌, map, drop}
use Rattle.ot_forms.specs.Reading.{narrowed}
use Rattle.ot_parse.proofs.symbols.narrowed.Given as goal

abbrev pub invariant-loop-candidate : goal.invariant-loop-candidate
invariant-loop-candidate l = map (λ c. (c.0.now, c.1.now)) l.narrower.items
    ++ narrowed l.byte (map (λ c. (c.0.now, c.1.now)) (drop l.candidate-index l.candidates))
    ≡ narrowed l.byte (map (λ c. (c.0.now, c.1.now)) l.candidates)
