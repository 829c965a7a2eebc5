use Rattle.std.proofs.Common.{◌<◌, length, map, ap, sym, subst, ◌∙◌}
use Rattle.std.specs.List.{All}
use Rattle.ot_logic.specs.declared.command.Cmd.TheVariants as words
use Rattle.ot_trace.specs.Origins.{Define, NoOrigins, MoreOrigins}
use Rattle.ot_trace.specs.Trace.{origin_at}
use Rattle.ot_machine.proofs.Traced.{traces-on, traced-origin}
use Rattle.ot_machine.proofs.session.Session.list_defining.Goals as goal

pub defining_step-requires-clause-defined : goal.defining_step-requires-clause-defined
defining_step-requires-clause-defined c = subst (All (λ i. i < length c.renamed_list.new.self.trace))
    (sym c.deref.ensures.value) c.in_ok-list.ensures.symbol_steps

pub defining_step-requires-clause-symbols : goal.defining_step-requires-clause-symbols
defining_step-requires-clause-symbols c = ap (map (origin_at c.renamed_list.new.self.trace)) c.deref.ensures.value
    ∙ c.in_ok-list.ensures.symbols

pub returns : goal.returns
returns c =
    let s = c.args.self.now in
    let u = c.renamed_list.new.self in
    let one = c.in_ok-list.ensures.kept in
    let premise = traced-origin s u c.requires.run one c.args.premise_step c.requires.premise_step in
    record {
      made = c.in_ok-defining_step.ensures.made
          ∙ (λ i. Define words.DefineConstList
          (MoreOrigins (c.in_ok-list.ensures.made i) (MoreOrigins (premise i) NoOrigins)));
      inside = c.in_ok-defining_step.ensures.inside;
      kept = traces-on s u c.defining_step.new.self one c.in_ok-defining_step.ensures.kept;
    }
