use Rattle.std.proofs.Common.{◌≡◌, drop}
use Rattle.std.specs.List.{list_all}
use Rattle.ot_logic.specs.Naming.{names}
use Rattle.ot_logic.specs.Rules.{has_type}
use Rattle.ot_kernel.specs.State.{type_at, terms_at}
use Rattle.ot_kernel.proofs.kernel.Kernel.have_type.Given as goal

abbrev pub invariant-loop-t : goal.invariant-loop-t
invariant-loop-t l =
    list_all (λ t. has_type names t (type_at l.self l.ty)) (terms_at l.self l.ts)
    ≡ list_all (λ t. has_type names t (type_at l.self l.ty)) (terms_at l.self (drop l.t-index l.ts))
