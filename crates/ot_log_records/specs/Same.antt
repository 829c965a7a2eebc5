-- Sequents that are one but for the order of their hypotheses.
use Rattle.std.specs.Prelude.{◌≡◌}
use Rattle.ot_logic.specs.Lists.{IsSameSet, AreDistinct}
use Rattle.ot_logic.specs.Trees.{Alphabet, Sequent}

module _ {N : Type 0} (alphabet : Alphabet N) where
  -- two lists of one sequent, the hypotheses of each once
  pub record IsSame (q r : Sequent N) : Type 0 where
    pub hyps : IsSameSet q.hyps r.hyps
    pub concl : q.concl ≡ r.concl
    pub left : AreDistinct q.hyps
    pub right : AreDistinct r.hyps
