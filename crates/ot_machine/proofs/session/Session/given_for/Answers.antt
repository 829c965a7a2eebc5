use Rattle.std.proofs.Common.{map, take, ap, subst, sym, ◌∙◌}
use Rattle.std.specs.List.{All}
use Rattle.std.specs.Prelude.{◌≡◌, false}
use Rattle.ot_kernel.specs.Candidates.{is_stronger}
use Rattle.ot_kernel.specs.State.{term_at, theorem_at}
use Rattle.ot_machine.specs.Contexts.{given_of}
use Rattle.ot_machine.specs.Discharge.{given_for}
use Rattle.ot_machine.proofs.Exported.{behind}
use Rattle.ot_machine.proofs.Taken.{stated, context-past}
use Rattle.ot_machine.proofs.session.Session.given_for.Goals as goal

pub returns-clause-first : goal.returns-clause-first
returns-clause-first c =
    let s = c.args.self.now in
    let q = stated (map (term_at s.kernel) c.args.hyps.now) (term_at s.kernel c.args.concl) in
    let gs = c.args.context.now.theorems.now in
    let n = c.first_within-place.result in
    let none = subst (λ ths. All (λ r. is_stronger r q ≡ false) (take n (map (theorem_at s.kernel) ths)))
    c.requires.context.candidates.theorems c.first_within-place.ensures.none in
    c.first_given.ensures.first ∙ ap (λ xs. given_for q (map (given_of s) xs)) (behind n gs)
    ∙ sym (context-past s q gs n none)
