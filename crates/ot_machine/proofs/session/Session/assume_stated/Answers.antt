use Rattle.std.proofs.Common.{◌≤◌, map, length, ap, sym, subst, ◌∙◌, arith}
use Rattle.std.proofs.lemmas.List.{length-map}
use Rattle.ot_logic.specs.declared.command.Cmd.TheVariants as words
use Rattle.ot_kernel.specs.State.{term_at}
use Rattle.ot_trace.specs.Origins.{Make, MoreOrigins, NoOrigins}
use Rattle.ot_machine.specs.Answers.{Makes}
use Rattle.ot_machine.specs.Rows.{given_as, theorem_entry, origin_at}
use Rattle.ot_machine.specs.Contexts.{given_of}
use Rattle.ot_machine.specs.Meaning.{run_of, article_of, entry_of, lists_of, Traces}
use Rattle.ot_machine.proofs.Staying.{traces-stay, stays-adds, adds-on}
use Rattle.ot_machine.proofs.Traced.{traces-on, two-origins, traced-article, traced-of, traced-origin}
use Rattle.ot_machine.proofs.Taken.{stated, assumed-same}
use Rattle.ot_machine.proofs.session.Session.assume_stated.Goals as goal
use Rattle.ot_machine.proofs.session.Session.assume_stated.Goals.{In_ok-step}

traced : (c : In_ok-step) → Traces c.args.self.now c.made_of.new.self
traced c =
    traces-on _ _ _ (traces-on _ _ _ c.in_ok-upper.ensures.kept c.in_ok-lower.ensures.kept)
    c.in_ok-step.ensures.kept

pub operand_at-requires-2-clause-of : goal.operand_at-requires-2-clause-of
operand_at-requires-2-clause-of c = traced-of c.args.self.now c.operand_at.new.self c.args.machine.now
    c.requires.of c.in_ok-upper.ensures.kept

pub assume_new-requires-clause-new : goal.assume_new-requires-clause-new
assume_new-requires-clause-new c =
    let there = traced (goal.at.assume_new-requires-clause-new c).In_ok-step in
    c.requires.new
    ∙ sym (λ i. given_as
    (stated (map (term_at (there.kernel i)) c.args.hyps.now) (term_at (there.kernel i) c.args.concl))
    (there.run i).assumptions)

pub returns-in_err-upper-clause-adds : goal.returns-in_err-upper-clause-adds
returns-in_err-upper-clause-adds c = stays-adds _ (traces-stay c.in_err-upper.ensures.kept)

pub returns-in_err-lower-clause-adds : goal.returns-in_err-lower-clause-adds
returns-in_err-lower-clause-adds c =
    stays-adds _ (traces-stay (traces-on _ _ _ c.in_ok-upper.ensures.kept c.in_err-lower.ensures.kept))

pub returns-in_err-step-clause-adds : goal.returns-in_err-step-clause-adds
returns-in_err-step-clause-adds c =
    let two = traces-on _ _ _ c.in_ok-upper.ensures.kept c.in_ok-lower.ensures.kept in
    stays-adds _ (traces-stay (traces-on _ _ _ two c.in_err-step.ensures.kept))

pub returns-clause-adds : goal.returns-clause-adds
returns-clause-adds c = adds-on _ _ (traces-stay (traced (goal.at.returns-clause-adds c).In_ok-step)) (λ e. e)
    c.assume_new.ensures.adds

pub returns-clause-made : goal.returns-clause-made
returns-clause-made c =
    let s = c.args.self.now in
    let m = c.args.machine.now in
    let u = c.assume_new.new.self in
    let stack = (article_of s m).stack in
    let le : 2 ≤ length stack =
    omega (arith, c.requires.there, m.stack.ok.0, length-map m.stack.items (entry_of s (lists_of s m))) in
    let one = c.in_ok-upper.ensures.kept in
    let two = c.in_ok-lower.ensures.kept in
    let upper = traced-origin c.operand_at.new.self c.operand_at-2.new.self one.is_run two c.in_ok-upper.upper
    c.in_ok-upper.ensures.inside ∙ c.in_ok-upper.ensures.made in
    let lower = c.in_ok-lower.ensures.made
    ∙ ap (λ a. origin_at 1 a.stack) (traced-article s c.operand_at.new.self m c.requires.of one) in
    let there = traced (goal.at.returns-clause-made c).In_ok-step in
    let origin = c.in_ok-step.ensures.made
    ∙ sym (ap (Make words.Axiom)
    (two-origins stack le ∙ (λ i. MoreOrigins (sym lower i) (MoreOrigins (sym upper i) NoOrigins)))) in
    let is = assumed-same _ _ _ _ _ _ _ _ (ap (λ k. map (term_at k) c.args.hyps.now) there.kernel)
    (ap (λ k. term_at k c.args.concl) there.kernel) origin there.run in
    subst (Makes u.kernel (λ g. (theorem_entry (given_of u g), run_of u)) c.assume_new.result) is
    c.assume_new.ensures.made
