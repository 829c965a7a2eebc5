use Rattle.std.specs.Prelude.{map}
use Rattle.std.specs.List.{list_all}
use Rattle.std.proofs.Common.{sym, ap, ◌∙◌}
use Rattle.ot_kernel.specs.State.{term_at}
use Rattle.ot_machine.proofs.Kept.{kernel-stays}
use Rattle.ot_machine.proofs.Taken.{is_proposition, rule-refuses, rule-of}
use Rattle.ot_machine.proofs.Staying.{stays-on, stays-terms}
use Rattle.ot_machine.proofs.session.Session.is_proper.Goals as goal

pub returns-in_err-proposed-clause-stays : goal.returns-in_err-proposed-clause-stays
returns-in_err-proposed-clause-stays c =
    kernel-stays c.args.self.now c.is_proposition.new.self c.requires.run
    c.in_err-proposed.ensures.keeps c.in_err-proposed.ensures.same.basis

pub returns-then-not-proposed-clause-proper : goal.returns-then-not-proposed-clause-proper
returns-then-not-proposed-clause-proper c =
    let k = c.args.self.now.kernel in
    rule-refuses (map (term_at k) c.args.hyps.now) (term_at k c.args.concl)
    (sym c.in_ok-proposed.ensures.ok ∙ c.if-not-proposed.true)

pub returns-then-not-proposed-clause-stays : goal.returns-then-not-proposed-clause-stays
returns-then-not-proposed-clause-stays c =
    kernel-stays c.args.self.now c.is_proposition.new.self c.requires.run
    c.in_ok-proposed.ensures.keeps c.in_ok-proposed.ensures.same.basis

pub returns-clause-proper : goal.returns-clause-proper
returns-clause-proper c =
    let s = c.args.self.now in
    let t = record s { kernel = c.is_proposition.new.self } in
    let one =
    kernel-stays s c.is_proposition.new.self c.requires.run c.in_ok-proposed.ensures.keeps
    c.in_ok-proposed.ensures.same.basis in
    rule-of (map (term_at s.kernel) c.args.hyps.now) (term_at s.kernel c.args.concl) _
    (sym c.in_ok-proposed.ensures.ok ∙ c.if-not-proposed.false)
    (c.in_ok-are_propositions.ensures.are
    ∙ ap (list_all is_proposition) (stays-terms s t c.requires.run one c.args.hyps.now c.requires.hyps))

pub returns-in_err-are_propositions-clause-stays : goal.returns-in_err-are_propositions-clause-stays
returns-in_err-are_propositions-clause-stays c =
    let s = c.args.self.now in
    let one =
    kernel-stays s c.is_proposition.new.self c.requires.run c.in_ok-proposed.ensures.keeps
    c.in_ok-proposed.ensures.same.basis in
    stays-on one
    (kernel-stays (record s { kernel = c.is_proposition.new.self }) c.are_propositions.new.self one.is_run
    c.in_err-are_propositions.ensures.keeps c.in_err-are_propositions.ensures.same.basis)

pub returns-clause-stays : goal.returns-clause-stays
returns-clause-stays c =
    let s = c.args.self.now in
    let one =
    kernel-stays s c.is_proposition.new.self c.requires.run c.in_ok-proposed.ensures.keeps
    c.in_ok-proposed.ensures.same.basis in
    stays-on one
    (kernel-stays (record s { kernel = c.is_proposition.new.self }) c.are_propositions.new.self one.is_run
    c.in_ok-are_propositions.ensures.keeps c.in_ok-are_propositions.ensures.same.basis)
