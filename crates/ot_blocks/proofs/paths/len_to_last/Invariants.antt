use Rattle.std.proofs.Common.{◌≡◌, ◌+◌, ◌≤◌, ℕ, length, take}
use Rattle.std.specs.Prelude.{List, ◌==◌, not}
use Rattle.std.specs.List.{suffix_len}
use Rattle.ot_blocks.proofs.paths.len_to_last.Given as goal

-- none of the bytes that were passed is the byte
pub record Passed (bytes : List ℕ) (byte len : ℕ) : Type 0 where
  pub within : len ≤ length bytes
  pub rest : len + suffix_len (λ b. not (b == byte)) bytes ≡ length bytes + suffix_len (λ b. not (b == byte))
      (take len bytes)

abbrev pub invariant-back : goal.invariant-back
invariant-back l = Passed l.bytes l.byte l.len

abbrev pub decreases-back : goal.decreases-back
decreases-back l = l.len
