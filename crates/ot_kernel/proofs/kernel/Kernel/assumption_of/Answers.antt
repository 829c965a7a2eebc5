use Rattle.std.specs.List.{All}
use Rattle.std.proofs.Common.{◌≡◌, ◌-◌, false, length, take, drop, sym, subst, ◌∙◌}
use Rattle.std.proofs.lemmas.List.{take_rest}
use Rattle.ot_logic.specs.Hol.{same_sequent}
use Rattle.ot_logic.specs.Naming.{names}
use Rattle.ot_kernel.specs.Spelled.{sequent_of}
use Rattle.ot_kernel.specs.State.{sequent_at}
use Rattle.ot_kernel.proofs.FirstPlaces.{found-behind}
use Rattle.ot_kernel.proofs.kernel.Kernel.assumption_of.Goals as goal

pub returns-clause-first : goal.returns-clause-first
returns-clause-first c =
    let now = c.args.self.now in
    let th = c.args.theorem.now in
    let ids = c.assumptions.result.now in
    let n = c.first_place-from.result in
    let none = subst (λ hyps. All (λ r. same_sequent names r (sequent_at now hyps th.concl) ≡ false)
    (take n now.assumptions)) c.deref.ensures.value c.first_place-from.ensures.none in
    c.first_same.ensures.first
    ∙ sym (found-behind now ids (take (length ids - n) (drop n ids)) n (sequent_of now.terms th)
    c.assumptions.ensures.sequents (take_rest ids n) none)
