use Rattle.std.proofs.Common.{sym, subst, ◌∙◌}
use Rattle.ot_kernel.specs.State.{term_at, theorem_at}
use Rattle.ot_machine.specs.Answers.{Makes}
use Rattle.ot_machine.specs.Rows.{theorem_entry}
use Rattle.ot_machine.specs.Contexts.{given_of}
use Rattle.ot_machine.specs.Meaning.{origin_of}
use Rattle.ot_machine.proofs.Staying.{stays-same}
use Rattle.ot_machine.proofs.Weakening.{supposing-there, supposing-lacking}
use Rattle.ot_machine.proofs.session.Session.with_hypothesis.Goals as goal

pub returns-then-has_hyp-clause-made : goal.returns-then-has_hyp-clause-made
returns-then-has_hyp-clause-made c =
    let s = c.args.self.now in
    supposing-there (term_at s.kernel c.args.hyp) (origin_of s c.args.step) (theorem_at s.kernel c.args.given.th)
    (origin_of s c.args.given.step) (sym c.has_hyp.ensures ∙ c.if-has_hyp.true)

pub returns-then-has_hyp-clause-stays : goal.returns-then-has_hyp-clause-stays
returns-then-has_hyp-clause-stays c = stays-same c.args.self.now c.requires.run

pub returns-clause-made : goal.returns-clause-made
returns-clause-made c =
    let s = c.args.self.now in
    let t = c.adding.new.self in
    subst (Makes t.kernel (λ g. theorem_entry (given_of t g)) c.adding.result)
    (sym (supposing-lacking (term_at s.kernel c.args.hyp) (origin_of s c.args.step)
    (theorem_at s.kernel c.args.given.th) (origin_of s c.args.given.step)
    (sym c.has_hyp.ensures ∙ c.if-has_hyp.false))) c.adding.ensures.made
