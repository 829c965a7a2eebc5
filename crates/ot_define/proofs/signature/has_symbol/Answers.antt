use Rattle.std.proofs.Common.{◌∙◌}
use Rattle.ot_define.proofs.Keys.{found-symbol}
use Rattle.ot_define.proofs.signature.has_symbol.Goals as goal

pub returns : goal.returns
returns c = c.contains.ensures ∙ found-symbol c.args.symbol.now c.args.symbols.now.keys
