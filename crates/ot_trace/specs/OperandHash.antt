-- What the hash of a word's operands is made of, and near which one it is kept.
use Rattle.std.proofs.Common.{◌≡◌, ◌+◌, ◌*◌, ℕ, max, Bool, true, Option, Some, None, List, [], ◌∷◌, ap, nat_eq}
use Rattle.std.specs.Hash as fed
use Rattle.std.specs.Hash.{HashWrites}
use Rattle.std.specs.Cmp.Lexicographic.{pointwise}
use Rattle.std.proofs.lemmas.Slice.Eq.{bytes_eq-Decides}

-- whether two lists of operands are one
abbrev pub same_operands : List ℕ → List ℕ → Bool
same_operands = pointwise nat_eq

-- one operand or two are one number, others a list
abbrev pub operand_writes : List ℕ → HashWrites
operand_writes (a ∷ []) = fed.u32 a
operand_writes (a ∷ b ∷ []) = fed.u64 (a + b * 4294967296)
operand_writes is = fed.slice fed.u32 is

-- the greatest of one operand or two, near which the table keeps a step
abbrev pub greatest_operand : List ℕ → Option ℕ
greatest_operand (a ∷ []) = Some a
greatest_operand (a ∷ b ∷ []) = Some (max a b)
greatest_operand is = None

-- equal lists are hashed alike
pub operand_writes-alike : (is js : List ℕ) → same_operands is js ≡ true → operand_writes is ≡ operand_writes js
operand_writes-alike is js h = ap operand_writes ((bytes_eq-Decides is js).0 h)
