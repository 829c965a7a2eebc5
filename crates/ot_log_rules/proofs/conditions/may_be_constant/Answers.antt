use Rattle.std.proofs.Common.{[], ◌&&◌, sym, ◌∙◌}
use Rattle.std.proofs.lemmas.List.Elements.{All-nil, All-cons}
use Rattle.ot_logic.specs.Naming.{names}
use Rattle.ot_log_format.specs.Steps.{all_defined, all_used}
use Rattle.ot_laws.proofs.Typing.{type_of-is}
use Rattle.ot_log_nodes.specs.Items.{name_at, type_at, term_at}
use Rattle.ot_log_rules.specs.Symbols.{IsSymbolMark}
use Rattle.ot_log_rules.specs.declared.parts.Mark.TheVariants as mark
use Rattle.ot_log_rules.proofs.Freshness.{symbols-in}
use Rattle.ot_log_rules.proofs.Checked.{passes-const}
use Rattle.ot_log_rules.proofs.conditions.may_be_constant.Goals as goal

pub may_define-requires-clause-symbols : goal.may_define-requires-clause-symbols
may_define-requires-clause-symbols c = All-cons (IsSymbolMark c.args.nodes.now) (mark.Constant c.args.name) []
    c.requires.name (All-nil (IsSymbolMark c.args.nodes.now))

pub may_define-requires-clause-premise : goal.may_define-requires-clause-premise
may_define-requires-clause-premise c = c.in_ok-premise.ensures.has

pub returns : goal.returns
returns c = λ dl sig.
    let ts = c.args.nodes.now in
    let t = term_at ts c.args.term in
    let fresh = c.in_ok-fresh.ensures dl _ sig (symbols-in ts t c.in_ok-premise.premise c.in_ok-premise.ensures) in
    let closed = c.is_closed_but-closed.ensures t c.in_ok-premise.ensures in
    let kept =
    c.in_ok-kept.ensures t c.in_ok-premise.ensures (type_of-is names t (type_at ts c.args.ty) c.requires.typed) in
    (λ i. fresh i && (closed i && kept i))
    ∙ sym (passes-const (all_defined names dl) (all_used names dl) (name_at ts c.args.name) t)
