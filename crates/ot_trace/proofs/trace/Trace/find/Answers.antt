use Rattle.std.proofs.Common.{sym, subst, arith}
use Rattle.ot_logic.specs.Interned.{IsSound}
use Rattle.ot_logic.proofs.InternedLemmas.{found}
use Rattle.ot_trace.specs.Trace.{origin_of, IsBelow, HasSymbols}
use Rattle.ot_trace.proofs.TraceLemmas.{step_eq, laws}
use Rattle.ot_trace.proofs.EnterLemmas.{not_entered}
use Rattle.ot_trace.proofs.trace.Trace.find.Goals as goal

pub returns-in-Some-clause-some : goal.returns-in-Some-clause-some
returns-in-Some-clause-some c =
    let sound = subst (IsSound origin_of IsBelow (λ ts s u. HasSymbols ts s) c.self.inside.steps.entries)
    c.self.view_is c.self.invariant.0 in
    found origin_of IsBelow (λ ts s u. HasSymbols ts s) step_eq laws _ c.args.self.now sound c.args.step.now
    c.in-Some.index (sym c.in-Some.ensures.index)

pub returns-in-None-clause-none : goal.returns-in-None-clause-none
returns-in-None-clause-none c = not_entered c.self.inside.steps c.args.self.now c.self.view_is c.self.invariant.0
    c.args.step.now c.requires.inside c.requires.symbols (sym c.in-None.ensures.index)

pub overflow_cast-result : goal.overflow_cast-result
overflow_cast-result c = omega (arith, c.in-Some.ensures.within, c.self.invariant.1)
