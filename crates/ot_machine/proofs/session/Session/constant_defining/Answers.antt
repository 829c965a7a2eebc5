use Rattle.std.proofs.Common.{◌∷◌, [], ap, sym, ◌∙◌}
use Rattle.ot_logic.specs.declared.command.Cmd.TheVariants as words
use Rattle.ot_trace.specs.Origins.{Named, Define, NoOrigins, MoreOrigins, constant_origin}
use Rattle.ot_machine.proofs.Traced.{traces-on, traced-origin, origin-number}
use Rattle.ot_machine.proofs.session.Session.constant_defining.Goals as goal

pub defining_step-requires-clause-symbols : goal.defining_step-requires-clause-symbols
defining_step-requires-clause-symbols c =
    ap (λ o. o ∷ []) (c.in_ok-name_step.ensures.symbol ∙ ap constant_origin (sym c.in_ok-name_step.ensures.name))

pub returns-clause-symbol : goal.returns-clause-symbol
returns-clause-symbol c =
    let s = c.args.self.now in
    let one = c.in_ok-name_step.ensures.kept in
    traced-origin c.symbol_steps.new.self c.defining_step.new.self one.is_run c.in_ok-definition.ensures.kept
    c.in_ok-name_step.symbol c.in_ok-name_step.ensures.symbol_step
    ∙ origin-number s c.symbol_steps.new.self one c.in_ok-name_step.symbol (constant_origin (Named c.args.name))
    c.in_ok-name_step.ensures.symbol

pub returns-clause-definition : goal.returns-clause-definition
returns-clause-definition c =
    let s = c.args.self.now in
    let one = c.in_ok-name_step.ensures.kept in
    let name = origin-number s c.symbol_steps.new.self one c.in_ok-name_step.name_step (Named c.args.name)
    c.in_ok-name_step.ensures.name in
    let term = traced-origin s c.symbol_steps.new.self c.requires.run one c.args.term_step c.requires.term_step in
    c.in_ok-definition.ensures.made
    ∙ (λ i. Define words.DefineConst (MoreOrigins (name i) (MoreOrigins (term i) NoOrigins)))

pub returns-clause-kept : goal.returns-clause-kept
returns-clause-kept c = traces-on c.args.self.now c.symbol_steps.new.self c.defining_step.new.self
    c.in_ok-name_step.ensures.kept c.in_ok-definition.ensures.kept
