use Rattle.std.proofs.Common.{◌≡◌, [], drop}
use Rattle.ot_log_rules.proofs.Freshness.{fresh_marks}
use Rattle.ot_log_rules.proofs.signature.Signature.may_define.Given as goal

abbrev pub invariant-loop-symbol : goal.invariant-loop-symbol
invariant-loop-symbol l = fresh_marks l.self l.premise.marks.keys [] l.symbols
    ≡ fresh_marks l.self l.premise.marks.keys l.before.keys (drop l.symbol-index l.symbols)
