use Rattle.std.proofs.Common.{arith}
use Rattle.ot_trace.proofs.EnterLemmas.{entered, Entered}
use Rattle.ot_trace.proofs.trace.Trace.add.Goals as goal

-- what the insert leaves
left : (c : goal.In_ok-index) → Entered c.args.self.now c.args.step c.insert_full.new.self.entries c.in_ok-index.index
left c = entered c.self.inside.steps c.args.self.now c.self.view_is c.self.invariant.0 c.args.step c.requires.inside
    c.requires.symbols c.insert_full.new.self.entries c.in_ok-index.ensures.entries c.in_ok-index.index
    c.in_ok-index.ensures.index

pub invariant_of-self-2 : goal.invariant_of-self-2
invariant_of-self-2 c =
    ((left c).sound, omega (arith, c.in_ok-index.ensures.len, c.in_ok-unless_full.ensures.ok, c.len.ensures))

pub returns-clause-ok : goal.returns-clause-ok
returns-clause-ok c = (left c).found

pub returns-clause-grown : goal.returns-clause-grown
returns-clause-grown c = (left c).grown

pub returns-clause-once : goal.returns-clause-once
returns-clause-once c = (left c).sound.injective
