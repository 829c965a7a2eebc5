-- Numbers of a table stand for the same in one that grew.
use Rattle.ot_log_nodes.specs.Items.{HasTerm, term_at}
use Rattle.ot_log_nodes.proofs.ItemLemmas.{name-stays, type-stays, term-stays, still-name, still-type, still-term}
use Rattle.ot_log_nodes.proofs.MapLemmas.{variable-stays, still-variable}
use Rattle.ot_log_values.specs.Lists.{HasPair, pair_at}
use Rattle.ot_log_values.specs.Reading.{HasTypePair, type_pair_at, HasTermPair, term_pair_at, Stays}

pub term-still : Stays HasTerm term_at
term-still ts us e i h = (still-term ts us e i h, term-stays ts us e i h)

pub pair-still : Stays HasPair pair_at
pair-still ts us e p h = (
  (still-name ts us e p.0 h.0, still-variable ts us e p.1 h.1),
  (λ i. (name-stays ts us e p.0 h.0 i, variable-stays ts us e p.1 h.1 i)),
)

pub type_pair-still : Stays HasTypePair type_pair_at
type_pair-still ts us e p h = (
  (still-name ts us e p.0 h.0, still-type ts us e p.1 h.1),
  (λ i. (name-stays ts us e p.0 h.0 i, type-stays ts us e p.1 h.1 i)),
)

pub term_pair-still : Stays HasTermPair term_pair_at
term_pair-still ts us e p h = (
  (still-variable ts us e p.0 h.0, still-term ts us e p.1 h.1),
  (λ i. (variable-stays ts us e p.0 h.0 i, term-stays ts us e p.1 h.1 i)),
)
