use Rattle.std.specs.Prelude.{List, map}
use Rattle.std.proofs.Common.{refl}
use Rattle.ot_logic.specs.Names.{Name}
use Rattle.ot_logic.specs.Trees.{Definition}
use Rattle.ot_logic.specs.Naming.{names}
use Rattle.ot_kernel.specs.State.{name_at, theorem_at}
use Rattle.ot_kernel.specs.Defining.{Defining, type_definition}
use Rattle.ot_machine.proofs.Defined.{type-theorems}
use Rattle.ot_machine.proofs.Stepped.{stays-with, stays-beside}
use Rattle.ot_machine.proofs.Stepped.{defined-adds, defined-is, refused-definition, popped}
use Rattle.ot_machine.proofs.Staying.{stays-adds}
use Rattle.ot_machine.proofs.session.Session.accept_type.Goals as goal
use Rattle.ot_machine.proofs.session.Session.accept_type.Goals.{Start}

-- what is defined
abbrev Rule : Start → List (Definition Name) → Defining names
Rule c ds =
    let k = c.args.self.now.kernel in
    type_definition names ds (name_at k c.args.name) (name_at k c.args.abs) (name_at k c.args.rep)
    (map (name_at k) c.args.variables.now) (theorem_at k c.args.premise)

pub returns-in_err-push-clause-adds : goal.returns-in_err-push-clause-adds
returns-in_err-push-clause-adds c = stays-adds _ (stays-beside _ _ _ c.requires.run refl c.in_err-push.ensures.items)

pub returns-in-Ok : goal.returns-in-Ok
returns-in-Ok c =
    let s = c.args.self.now in
    let k = s.kernel in
    let l = c.define_type.new.self in
    let keeps = c.define_type.ensures.keeps in
    let a = c.in-Ok.ensures.defines in
    let theorems = type-theorems k l (name_at k c.args.name) (name_at k c.args.abs) (name_at k c.args.rep)
    (map (name_at k) c.args.variables.now) (theorem_at k c.args.premise) a.0 c.in-Ok.theorems.0 c.in-Ok.theorems.1
    a.1 a.3 a.4 a.5 in
    record {
      made = defined-is s l s.assumption_steps c.push.new.self c.requires.run keeps a.0
          c.args.definition c.requires.definition a.2 a.6 refl c.in_ok-push.ensures.items
          (Rule (goal.at.returns-in-Ok c).Start) _ a.1 theorems.0;
      first = theorems.1;
      second = theorems.2;
      adds = defined-adds s l s.assumption_steps c.push.new.self c.requires.run keeps a.0
          c.args.definition c.requires.definition a.2 a.6 refl c.in_ok-push.ensures.items _ tt;
    }

-- the step is taken off again
pub returns-in-Err : goal.returns-in-Err
returns-in-Err c =
    let s = c.args.self.now in
    let l = c.define_type.new.self in
    let there = c.in-Err.ensures.defines in
    let stays = stays-with s l s.assumption_steps c.pop.new.self c.requires.run
    c.define_type.ensures.keeps there.0.basis refl
    (popped _ c.push.new.self _ _ c.in_ok-push.ensures.items c.pop.ensures.rest) in
    record {
      made = rw c.from.ensures
          (refused-definition s l c.requires.run (Rule (goal.at.returns-in-Err c).Start) c.args.definition _
          there.1
          c.in-Err.ensures.symbols);
      first = tt;
      second = tt;
      adds = stays-adds _ stays;
    }
