use Rattle.std.proofs.Common.{◌≡◌, List, ℕ, Some, slice_get, sym, subst}
use Rattle.std.specs.Prelude.{IfOk}
use Rattle.ot_logic.specs.Lists.{AreDistinct}
use Rattle.ot_lists.proofs.sequence.Sequences.append.Goals as goal

pub fill-requires-clause-distinct : goal.fill-requires-clause-distinct
fill-requires-clause-distinct c = subst AreDistinct (sym c.in_ok-middle.ensures.whole) c.requires.distinct

pub returns-clause-ok : goal.returns-clause-ok
returns-clause-ok c =
    subst (λ (l : List ℕ). IfOk c.fill.result (λ id. slice_get c.fill.new.self.lists id ≡ Some l))
    c.in_ok-middle.ensures.whole c.fill.ensures.ok
