use Rattle.std.specs.Prelude.{List, [], map, Ok}
use Rattle.std.proofs.Common.{refl, ap, ◌∙◌}
use Rattle.ot_logic.specs.Names.{Name}
use Rattle.ot_logic.specs.Naming.{names}
use Rattle.ot_logic.specs.Trees.{Sequent, TyOp, Bound}
use Rattle.ot_logic.specs.Hol.{HasType, bool_ty, tys_of_vars}
use Rattle.ot_kernel.specs.State.{name_at, theorem_at}
use Rattle.ot_kernel.specs.Defining.{type_definition}
use Rattle.ot_machine.specs.OpenTypes.{first_origin, second_origin, open_entries}
use Rattle.ot_machine.specs.Meaning.{origin_of, run_of}
use Rattle.ot_machine.proofs.OpenAccepted.{is-accepted, opened-are, stated-made, stated-refused}
use Rattle.ot_machine.proofs.Stepped.{with_steps, stays-with, stays-beside}
use Rattle.ot_machine.proofs.Stepped.{defined-adds, defined-is, popped}
use Rattle.ot_machine.proofs.Staying.{stays-adds}
use Rattle.ot_machine.proofs.Refusals.{refuses-definition}
use Rattle.ot_machine.proofs.session.Session.accept_open_type.Goals as goal
use Rattle.ot_machine.proofs.session.Session.accept_open_type.Goals.{Start, After-sound}

-- ---- what is defined
abbrev N : Start → Name
N c = name_at c.args.self.now.kernel c.args.name

abbrev B : Start → Name
B c = name_at c.args.self.now.kernel c.args.abs

abbrev R : Start → Name
R c = name_at c.args.self.now.kernel c.args.rep

abbrev Vs : Start → List Name
Vs c = map (name_at c.args.self.now.kernel) c.args.variables.now

abbrev Q : Start → Sequent Name
Q c = theorem_at c.args.self.now.kernel c.args.premise

-- the premise is a proposition
typed : (c : After-sound) → HasType names (Q (goal.at.After-sound c).Start).concl (bool_ty names)
typed c = (c.sound.ensures.theorems c.args.premise (record { hyps = []; concl = Bound 0 })
    c.requires.operands.premise).sequent.concl

pub returns-in_err-push-clause-adds : goal.returns-in_err-push-clause-adds
returns-in_err-push-clause-adds c = stays-adds _ (stays-beside _ _ _ c.requires.run refl c.in_err-push.ensures.items)

pub returns-in-Ok : goal.returns-in-Ok
returns-in-Ok c =
    let at = goal.at.returns-in-Ok c in
    let s = c.args.self.now in
    let k = s.kernel in
    let l = c.define_type_5.new.self in
    let n = N at.Start in
    let b = B at.Start in
    let r = R at.Start in
    let vars = Vs at.Start in
    let q = Q at.Start in
    let j = c.args.definition in
    let o = origin_of s j in
    let a = c.in-Ok.ensures.defines in
    let ty = typed at.After-sound in
    let taken = is-accepted k.definitions n b r vars q.hyps o q.concl a.0 ty a.1 in
    let keeps = c.define_type_5.ensures.keeps in
    let closed = defined-is s l s.assumption_steps c.push.new.self c.requires.run keeps a.0 j c.requires.definition
    a.2 a.5 refl c.in_ok-push.ensures.items (λ ds. type_definition names ds n b r vars q) _ taken.accepted refl in
    let are = opened-are k l a.0 taken.first taken.second c.in-Ok.theorems.abs_open c.in-Ok.theorems.rep_open
    taken.are taken.two a.3 (ap (λ x. x.abs_open) a.4) (ap (λ x. x.rep_open) a.4) in
    let new = TyOp n (tys_of_vars names vars) in
    record {
      made = stated-made s c.requires.run n b r vars q j ty a.0 _ a.1 closed
          ∙ (λ i. Ok (
            open_entries (first_origin o b r new q.concl) (second_origin o b r new q.concl) (are.0 i) (are.1 i),
            run_of (with_steps s l s.assumption_steps c.push.new.self c.requires.run keeps),
          ));
      first = are.2;
      second = are.3;
      adds = defined-adds s l s.assumption_steps c.push.new.self c.requires.run keeps a.0 j c.requires.definition a.2
          a.5 refl c.in_ok-push.ensures.items _ tt;
    }

-- the step is taken off again
pub returns-in-Err : goal.returns-in-Err
returns-in-Err c =
    let at = goal.at.returns-in-Err c in
    let s = c.args.self.now in
    let l = c.define_type_5.new.self in
    let there = c.in-Err.ensures.defines in
    let stays = stays-with s l s.assumption_steps c.pop.new.self c.requires.run
    c.define_type_5.ensures.keeps there.0.basis refl
    (popped _ c.push.new.self _ _ c.in_ok-push.ensures.items c.pop.ensures.rest) in
    record {
      made = rw c.from.ensures
          (refuses-definition l _ _ (
            there.1.0,
            λ f p. stated-refused s c.requires.run (N at.Start) (B at.Start) (R at.Start) (Vs at.Start)
                (Q at.Start) c.args.definition (typed at.After-sound) f (there.1.1 f p),
          ) c.in-Err.ensures.symbols);
      first = tt;
      second = tt;
      adds = stays-adds _ stays;
    }
