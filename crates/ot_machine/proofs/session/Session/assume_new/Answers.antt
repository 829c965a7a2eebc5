use Rattle.std.specs.Prelude.{List, map}
use Rattle.std.proofs.Common.{refl, ◌∙◌}
use Rattle.ot_logic.specs.Names.{Name}
use Rattle.ot_logic.specs.Trees.{Tm}
use Rattle.ot_kernel.specs.State.{term_at}
use Rattle.ot_machine.specs.Meaning.{run_of, origin_of}
use Rattle.ot_machine.proofs.Staying.{stays-adds}
use Rattle.ot_machine.proofs.Refusals.{refuses-rule}
use Rattle.ot_machine.proofs.Stepped.{adds-with, stays-with, stays-beside, popped}
use Rattle.ot_machine.proofs.Assuming.{known-new, assumed-is_run, assumed-made, once-is, new-refused, kernel-nowhere}
use Rattle.ot_machine.proofs.session.Session.assume_new.Goals as goal
use Rattle.ot_machine.proofs.session.Session.assume_new.Goals.{Start}

-- what is assumed
abbrev Hyps : Start → List (Tm Name)
Hyps c = map (term_at c.args.self.now.kernel) c.args.hyps.now

abbrev P : Start → Tm Name
P c = term_at c.args.self.now.kernel c.args.concl

pub returns-in_err-push-clause-adds : goal.returns-in_err-push-clause-adds
returns-in_err-push-clause-adds c = stays-adds _ (stays-beside _ _ _ c.requires.run c.in_err-push.ensures.items refl)

pub returns-in-Ok : goal.returns-in-Ok
returns-in-Ok c =
    let at = (goal.at.returns-in-Ok c).Start in
    let s = c.args.self.now in
    let l = c.axiom.new.self in
    let keeps = c.axiom.ensures.keeps in
    let a = c.in-Ok.ensures.assumes in
    let new = known-new s.kernel.assumptions a.0
    (kernel-nowhere s (Hyps at) (P at) a.0 c.requires.run (once-is (Hyps at) (P at) a.0 a.1) c.requires.new) in
    record {
      made = assumed-made s l c.push.new.self s.definition_steps c.requires.run keeps a.0 c.args.step
          c.requires.step (a.4 ∙ new.1) a.5 c.in_ok-push.ensures.items refl (Hyps at) (P at) c.in-Ok.th a.1
          (a.3 ∙ new.0);
      theorem = a.2;
      step = c.requires.step;
      adds = adds-with s l c.push.new.self s.definition_steps c.requires.run keeps _ tt
          (assumed-is_run s l c.push.new.self s.definition_steps c.requires.run keeps a.0 c.args.step c.requires.step
          (a.4 ∙ new.1) a.5 c.in_ok-push.ensures.items refl);
    }

-- the step is taken off again
pub returns-in-Err : goal.returns-in-Err
returns-in-Err c =
    let at = (goal.at.returns-in-Err c).Start in
    let s = c.args.self.now in
    let l = c.axiom.new.self in
    let there = c.in-Err.ensures.assumes in
    let stays = stays-with s l c.pop.new.self s.definition_steps c.requires.run
    c.axiom.ensures.keeps there.0.basis
    (popped _ c.push.new.self _ _ c.in_ok-push.ensures.items c.pop.ensures.rest) refl in
    record {
      made = rw c.from.ensures
          (refuses-rule l _ _ (λ read. (
            (there.1 read).0,
            λ f q. new-refused (Hyps at) (P at) (origin_of s c.args.step) (run_of s) f ((there.1 read).1 f q),
          )));
      theorem = tt;
      step = tt;
      adds = stays-adds _ stays;
    }
