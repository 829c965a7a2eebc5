use Rattle.std.specs.Prelude.{Ok, Err, MatchBool}
use Rattle.std.proofs.Common.{◌≡◌, refl, map, ap, sym, subst, ◌∙◌}
use Rattle.ot_logic.specs.Faults as faults
use Rattle.ot_kernel.specs.Axioms.{axiom_rule}
use Rattle.ot_kernel.specs.State.{term_at}
use Rattle.ot_machine.specs.declared.fault.Fault.TheVariants as code
use Rattle.ot_machine.specs.Answers.{Makes}
use Rattle.ot_machine.specs.Places.{top, origins_of}
use Rattle.ot_machine.specs.Rows.{theorem_entry}
use Rattle.ot_machine.specs.Contexts.{context_of, given_of}
use Rattle.ot_machine.specs.Meaning.{origin_of, run_of, article_of}
use Rattle.ot_machine.proofs.InContext.{context-kept, of_context-kept}
use Rattle.ot_machine.proofs.Kept.{article-kept, of-kept}
use Rattle.ot_machine.proofs.Refusals.{refuses-named}
use Rattle.ot_machine.proofs.Taken.{once, used-refused, used-same}
use Rattle.ot_machine.proofs.Staying.{stays-adds, adds-on, stays-origin, stays-term, stays-terms, terms-inside}
use Rattle.ot_machine.proofs.session.Session.axiom.Goals as goal

pub returns-then-not-proper-clause-made : goal.returns-then-not-proper-clause-made
returns-then-not-proper-clause-made c =
    let s = c.args.self.now in
    let hs = map (term_at s.kernel) c.args.hyps.now in
    let p = term_at s.kernel c.args.concl in
    let rule = subst (λ b. MatchBool b (axiom_rule hs p ≡ Ok (once hs p)) (axiom_rule hs p ≡ Err faults.NotBool))
    c.if-not-proper.true c.in_ok-proper.ensures.proper in
    refuses-named c.is_proper.new.self.kernel code.NotBool faults.NotBool _ (λ read. refl) tt
    (used-refused (context_of s c.args.context.now) (run_of s) hs p (origin_of s c.args.list_step)
    (origins_of (top 2 (article_of s c.args.machine.now).stack)) faults.NotBool rule)

pub returns-then-not-proper-clause-adds : goal.returns-then-not-proper-clause-adds
returns-then-not-proper-clause-adds c = stays-adds _ c.in_ok-proper.ensures.stays

pub proper_axiom-requires-clause-of : goal.proper_axiom-requires-clause-of
proper_axiom-requires-clause-of c =
    let stays = c.in_ok-proper.ensures.stays in
    of-kept c.args.self.now c.is_proper.new.self c.args.machine.now c.requires.of stays.grown stays.is_run

pub proper_axiom-requires-clause-context : goal.proper_axiom-requires-clause-context
proper_axiom-requires-clause-context c = of_context-kept c.args.self.now c.is_proper.new.self c.requires.of.run
    c.in_ok-proper.ensures.stays.grown c.args.context.now c.requires.context

pub proper_axiom-requires-clause-hyps : goal.proper_axiom-requires-clause-hyps
proper_axiom-requires-clause-hyps c = terms-inside c.args.self.now c.is_proper.new.self
    c.requires.of.run c.in_ok-proper.ensures.stays c.args.hyps.now c.requires.hyps

pub proper_axiom-requires-clause-proper : goal.proper_axiom-requires-clause-proper
proper_axiom-requires-clause-proper c =
    let s = c.args.self.now in
    let t = c.is_proper.new.self in
    let m = c.args.machine.now in
    let stays = c.in_ok-proper.ensures.stays in
    let hs = map (term_at s.kernel) c.args.hyps.now in
    let p = term_at s.kernel c.args.concl in
    let a = stays-terms s t c.requires.of.run stays c.args.hyps.now c.requires.hyps in
    let b = stays-term s t c.requires.of.run stays c.args.concl c.requires.concl in
    let rule = subst (λ b. MatchBool b (axiom_rule hs p ≡ Ok (once hs p)) (axiom_rule hs p ≡ Err faults.NotBool))
    c.if-not-proper.false c.in_ok-proper.ensures.proper in
    (λ j. axiom_rule (a j) (b j)) ∙ rule ∙ (λ j. Ok (once (sym a j) (sym b j)))

pub returns-clause-made : goal.returns-clause-made
returns-clause-made c =
    let s = c.args.self.now in
    let t = c.is_proper.new.self in
    let u = c.proper_axiom.new.self in
    let m = c.args.machine.now in
    let stays = c.in_ok-proper.ensures.stays in
    let same = used-same (context_of t c.args.context.now) (context_of s c.args.context.now) _ _ _ _ _ _ _ _ _ _
    (context-kept s t c.requires.of.run stays.grown c.args.context.now c.requires.context)
    (stays-terms s t c.requires.of.run stays c.args.hyps.now c.requires.hyps)
    (stays-term s t c.requires.of.run stays c.args.concl c.requires.concl)
    (stays-origin s t c.requires.of.run stays c.args.list_step c.requires.list_step)
    (ap (λ a. origins_of (top 2 a.stack)) (article-kept s t m c.requires.of stays.grown)) stays.run in
    subst (Makes u.kernel (λ g. (theorem_entry (given_of u g), run_of u)) c.proper_axiom.result) same
    c.proper_axiom.ensures.made

pub returns-clause-adds : goal.returns-clause-adds
returns-clause-adds c = adds-on _ _ c.in_ok-proper.ensures.stays (λ e. e) c.proper_axiom.ensures.adds
