use Rattle.std.proofs.Common.{◌≡◌, take}
use Rattle.ot_link.specs.Running.{chain_of}
use Rattle.ot_link.proofs.blocks.longer_chain.Given as goal

abbrev pub invariant-each : goal.invariant-each
invariant-each l = chain_of l.longer.items ≡ chain_of (take l.name-index l.chain)
