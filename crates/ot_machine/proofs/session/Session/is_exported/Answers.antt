use Rattle.std.specs.List.{All}
use Rattle.std.proofs.Common.{false, map, take, ap, subst, ◌≡◌, ◌∙◌, sym}
use Rattle.ot_logic.specs.Naming.{names}
use Rattle.ot_logic.specs.Hol.{same_sequent}
use Rattle.ot_kernel.specs.State.{sequent_at, theorem_at}
use Rattle.ot_machine.specs.Meaning.{export_of, exported_by}
use Rattle.ot_machine.specs.Rows.{is_exported}
use Rattle.ot_machine.proofs.Exported.{behind, exported_from, not_exported}
use Rattle.ot_machine.proofs.session.Session.is_exported.Goals as goal
use Rattle.ot_machine.proofs.session.Session.is_exported.Goals.{After-concl-concl}

-- what is sought is the theorem
theorem-is : (c : After-concl-concl) → sequent_at c.args.self.now.kernel c.hyps-hyps.result.now c.concl-concl.result
    ≡ theorem_at c.args.self.now.kernel c.args.theorem
theorem-is c = λ i. record { hyps = c.hyps-hyps.ensures.hyps i; concl = c.concl-concl.ensures.concl i }

pub returns-in-Some : goal.returns-in-Some
returns-in-Some c =
    let s = c.args.self.now in
    let q = theorem_at s.kernel c.args.theorem in
    let es = c.args.exports.now in
    let qs = exported_by s.kernel es in
    let none = subst (λ p. All (λ r. same_sequent names p r ≡ false) (take c.in-Some.place qs))
    (theorem-is (goal.at.returns-in-Some c).After-concl-concl) (c.in-Some.ensures qs c.requires.placed).1 in
    c.is_among.ensures ∙ ap (λ xs. is_exported q (map (export_of s) xs)) (behind c.in-Some.place es)
    ∙ exported_from s q es c.in-Some.place none

pub returns-in-None : goal.returns-in-None
returns-in-None c =
    let s = c.args.self.now in
    let q = theorem_at s.kernel c.args.theorem in
    let es = c.args.exports.now in
    let qs = exported_by s.kernel es in
    sym (not_exported s q es (subst (λ p. All (λ r. same_sequent names p r ≡ false) qs)
    (theorem-is (goal.at.returns-in-None c).After-concl-concl) (c.in-None.ensures qs c.requires.placed)))
