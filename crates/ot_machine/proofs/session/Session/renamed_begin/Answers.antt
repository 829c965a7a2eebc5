use Rattle.std.proofs.Common.{sym, subst}
use Rattle.ot_logic.specs.Naming.{names}
use Rattle.ot_interp.specs.Interpretation.{renamed}
use Rattle.ot_kernel.specs.State.{name_at}
use Rattle.ot_trace.specs.Trace.{origin_at}
use Rattle.ot_machine.specs.Contexts.{context_of}
use Rattle.ot_machine.specs.Stays.{MakesStep}
use Rattle.ot_machine.proofs.Traced.{traces-none}
use Rattle.ot_machine.proofs.RenamedLists.{begin-renamed}
use Rattle.ot_machine.proofs.session.Session.renamed_begin.Goals as goal

pub begun_with-requires-clause-begun : goal.begun_with-requires-clause-begun
begun_with-requires-clause-begun c = (c.in-Some.name, c.in-Some.ensures.some)

pub returns-in-Some : goal.returns-in-Some
returns-in-Some c =
    let s = c.args.self.now in
    let f = renamed names (context_of s c.args.context.now).interpretation.constants in
    let same = begin-renamed (name_at s.kernel) f (origin_at s.trace c.args.pair) c.in-Some.name
    c.constant_named-named.result c.in-Some.ensures.some c.constant_named-named.ensures.renamed in
    subst (λ o. MakesStep c.begun_with.result o s c.begun_with.new.self) same c.begun_with.ensures

pub returns-in-None : goal.returns-in-None
returns-in-None c =
    let s = c.args.self.now in
    record {
      made = sym (c.in-None.ensures.none (renamed names (context_of s c.args.context.now).interpretation.constants));
      inside = c.requires.inside;
      kept = traces-none s c.requires.run;
    }
