use Rattle.std.proofs.Common.{◌≡◌, map, length}
use Rattle.ot_forms.specs.Reading.{sign_word_at, operators}
use Rattle.ot_parse.proofs.symbols.sign_word.Given as goal

abbrev pub invariant-bytes : goal.invariant-bytes
invariant-bytes l = sign_word_at (map (λ c. (c.0.now, c.1.now)) l.candidates.items) l.rest
    ≡ sign_word_at (operators l.notation) l.text

abbrev pub decreases-bytes : goal.decreases-bytes
decreases-bytes l = length l.rest
