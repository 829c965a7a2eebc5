use Rattle.std.proofs.Common.{◌≡◌, [], ◌∷◌, ◌++◌, length, take}
use Rattle.std.specs.List.{flat_map}
use Rattle.ot_log_page.specs.declared.operand.Operand.TheVariants as operand
use Rattle.ot_log_words.specs.Listing.{constant_operands}
use Rattle.ot_log_words.proofs.definitions.constants_operands.Given as goal

abbrev pub invariant-loop-pair : goal.invariant-loop-pair
invariant-loop-pair l = l.operands.items ≡ (operand.Count (length l.pairs) ∷ [])
    ++ flat_map constant_operands (take l.pair-index l.pairs)
