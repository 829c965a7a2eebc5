use Rattle.std.proofs.Common.{◌≡◌, ℕ, List, length, sym, subst}
use Rattle.ot_machine.specs.Meaning.{origin_of}
use Rattle.ot_log_values.proofs.Taking.{pair-list, pair-long}
use Rattle.ot_log_values.proofs.steps.two_elements.Goals as goal

pub elements-requires-clause-value : goal.elements-requires-clause-value
elements-requires-clause-value c = pair-list (origin_of c.args.session.now c.args.list) c.requires.pair

pub two-first-requires : goal.two-first-requires
two-first-requires c =
    let s = c.args.session.now in
    subst (λ (xs : List ℕ). length xs ≡ 2) (sym c.deref.ensures.value)
    (pair-long s (origin_of s c.args.list) c.in_ok-found.found.items c.requires.pair c.in_ok-found.ensures.made)
