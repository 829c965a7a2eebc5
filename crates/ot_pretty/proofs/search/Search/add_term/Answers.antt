use Rattle.std.proofs.Common.{refl}
use Rattle.ot_pretty.proofs.Finding.{finds-term}
use Rattle.ot_pretty.proofs.search.Search.add_term.Goals as goal

pub returns : goal.returns
returns c = λ s n m h. finds-term s n m _ _ c.args.id h c.in_ok-insert.ensures.keys refl refl
