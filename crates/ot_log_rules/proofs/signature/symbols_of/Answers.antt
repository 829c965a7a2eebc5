use Rattle.std.specs.List.{All}
use Rattle.std.proofs.Common.{ℕ, map, subst, sym, ap, ◌∙◌}
use Rattle.std.proofs.lemmas.Result.{IfOk-weaker}
use Rattle.ot_log_nodes.specs.declared.node.VariableNode.{VariableNode}
use Rattle.ot_logic.specs.Naming.{names}
use Rattle.ot_logic.specs.Hol.{defined}
use Rattle.ot_log_rules.specs.Definitions.{definition_at, HasDefinition}
use Rattle.ot_log_rules.specs.declared.definition.Definition.{Definition}
use Rattle.ot_log_rules.specs.Symbols.{IsSymbolMark, symbol_of}
use Rattle.ot_log_rules.specs.declared.parts.Mark.TheVariants as mark
use Rattle.ot_log_rules.proofs.Freshness.{constants-are, constants-marked}
use Rattle.ot_log_rules.proofs.signature.symbols_of.Goals as goal

pub returns-in-Constants-clause-are : goal.returns-in-Constants-clause-are
returns-in-Constants-clause-are c =
    let ts = c.args.nodes.now in
    IfOk-weaker c.constant_marks.result _ _
    (λ v e. ap (map (symbol_of ts))
    (e ∙ ap (map (λ (p : ℕ × VariableNode). mark.Constant p.0)) c.deref.ensures.value)
    ∙ constants-are ts c.in-Constants.pairs.items
    ∙ sym (ap (λ (d : Definition). defined names (definition_at ts d)) c.in-Constants.is))
    c.constant_marks.ensures

pub returns-in-Constants-clause-marks : goal.returns-in-Constants-clause-marks
returns-in-Constants-clause-marks c =
    let ts = c.args.nodes.now in
    let has = subst (HasDefinition ts) c.in-Constants.is c.requires in
    IfOk-weaker c.constant_marks.result _ _
    (λ v e. subst (All (IsSymbolMark ts))
    (sym (e ∙ ap (map (λ (p : ℕ × VariableNode). mark.Constant p.0)) c.deref.ensures.value))
    (constants-marked ts c.in-Constants.pairs.items has.0)) c.constant_marks.ensures
