use Rattle.std.proofs.Common.{◌≡◌, ◌≤◌, length, ◌+◌}
use Rattle.ot_theory.specs.Interpretations.{quote_len, longer}
use Rattle.ot_theory.proofs.quoted.quote_len.Given as goal

abbrev pub invariant-front : goal.invariant-front
invariant-front l = record {
  in_range : l.len + length l.rest ≤ length l.text;
  same : longer l.len (quote_len l.rest)
      ≡ quote_len l.text;
}

abbrev pub decreases-front : goal.decreases-front
decreases-front l = length l.rest
