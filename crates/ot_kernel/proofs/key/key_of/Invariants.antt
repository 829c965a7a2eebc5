use Rattle.std.specs.Prelude.{nat_eq}
use Rattle.std.specs.List.{list_any}
use Rattle.std.specs.Ordering.{nat_cmp}
use Rattle.std.specs.BTreeSet.{contains, IsOrdered}
use Rattle.std.proofs.Common.{◌≡◌, ℕ, take}
use Rattle.ot_kernel.specs.Keys.{class_at}
use Rattle.ot_kernel.proofs.key.key_of.Given as goal

abbrev pub invariant-loop-t : goal.invariant-loop-t
invariant-loop-t l =
    ((c : ℕ) → contains nat_cmp l.classes c
    ≡ list_any (λ i. nat_eq c (class_at l.terms.classes i)) (take l.t-index l.hyps)) × IsOrdered nat_cmp l.classes
