use Rattle.std.proofs.Common.{refl}
use Rattle.ot_pretty.proofs.Finding.{finds-symbol}
use Rattle.ot_pretty.proofs.search.Search.add_symbol.Goals as goal

pub returns : goal.returns
returns c = λ s n m h. finds-symbol s n m _ _ (record { kind = c.args.kind; name = c.args.name }) h
    c.in_ok-insert.ensures.keys refl refl
