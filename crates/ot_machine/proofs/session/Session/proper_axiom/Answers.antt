use Rattle.std.proofs.Common.{map, sym, subst}
use Rattle.ot_kernel.specs.State.{term_at}
use Rattle.ot_machine.specs.Answers.{Makes}
use Rattle.ot_machine.specs.Places.{top, origins_of}
use Rattle.ot_machine.specs.Rows.{theorem_entry}
use Rattle.ot_machine.specs.Contexts.{context_of, given_of}
use Rattle.ot_machine.specs.Meaning.{origin_of, run_of, article_of}
use Rattle.ot_machine.proofs.Taken.{used-given, used-there, used-assumes}
use Rattle.ot_machine.proofs.Staying.{stays-same, stays-adds}
use Rattle.ot_machine.proofs.Weakening.{with-run}
use Rattle.ot_machine.proofs.session.Session.proper_axiom.Goals as goal

pub returns-in-Some-clause-made : goal.returns-in-Some-clause-made
returns-in-Some-clause-made c =
    let s = c.args.self.now in
    let t = c.weakened.new.self in
    let is = used-given (context_of s c.args.context.now) (run_of s) (map (term_at s.kernel) c.args.hyps.now)
    (term_at s.kernel c.args.concl) (origin_of s c.args.list_step)
    (origins_of (top 2 (article_of s c.args.machine.now).stack)) c.requires.proper
    (given_of s c.in-Some.given) (rw c.in-Some.is at c.given_for.ensures.first) in
    subst (Makes t.kernel (λ g. (theorem_entry (given_of t g), run_of t)) c.weakened.result) (sym is)
    (with-run t.kernel (λ g. theorem_entry (given_of t g)) c.weakened.result _ (run_of s) (run_of t)
    c.weakened.ensures.stays.run c.weakened.ensures.made)

pub returns-in-Some-assumed-clause-made : goal.returns-in-Some-assumed-clause-made
returns-in-Some-assumed-clause-made c =
    let s = c.args.self.now in
    used-there (context_of s c.args.context.now) (run_of s) (map (term_at s.kernel) c.args.hyps.now)
    (term_at s.kernel c.args.concl) (origin_of s c.args.list_step)
    (origins_of (top 2 (article_of s c.args.machine.now).stack)) c.requires.proper
    (given_of s c.in-Some-assumed.given) (rw c.in_default.is at c.given_for.ensures.first)
    (rw c.in-Some-assumed.is at c.assumed.ensures.first)

pub returns-in-Some-clause-adds : goal.returns-in-Some-clause-adds
returns-in-Some-clause-adds c = stays-adds _ c.weakened.ensures.stays

pub returns-in-Some-assumed-clause-adds : goal.returns-in-Some-assumed-clause-adds
returns-in-Some-assumed-clause-adds c = stays-adds _ (stays-same c.args.self.now c.requires.of.run)

pub returns-clause-made : goal.returns-clause-made
returns-clause-made c =
    let s = c.args.self.now in
    let t = c.assume_stated.new.self in
    let is = used-assumes (context_of s c.args.context.now) (run_of s) (map (term_at s.kernel) c.args.hyps.now)
    (term_at s.kernel c.args.concl) (origin_of s c.args.list_step)
    (origins_of (top 2 (article_of s c.args.machine.now).stack)) c.requires.proper
    (rw c.in_default.is at c.given_for.ensures.first) (rw c.in_default-assumed.is at c.assumed.ensures.first) in
    subst (Makes t.kernel (λ g. (theorem_entry (given_of t g), run_of t)) c.assume_stated.result)
    (sym is) c.assume_stated.ensures.made
