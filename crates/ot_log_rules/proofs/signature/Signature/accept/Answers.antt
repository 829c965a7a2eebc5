use Rattle.indexmap.specs.IndexSet.{insert_all}
use Rattle.std.proofs.Common.{map, ap, ◌∙◌}
use Rattle.ot_log_rules.specs.Definitions.{definition_at}
use Rattle.ot_log_rules.specs.Statements.{sequent_at}
use Rattle.ot_log_rules.specs.Symbols.{mark_eq}
use Rattle.ot_log_rules.proofs.Freshness.{signature-more, on_ok-both}
use Rattle.ot_log_rules.proofs.signature.Signature.accept.Goals as goal

pub returns-clause-ok : goal.returns-clause-ok
returns-clause-ok c =
    let ts = c.args.nodes.now in
    let s = c.args.self.now in
    on_ok-both c.add.result
    (λ defs uses dl sig are. signature-more ts c.primitives.ensures.once dl
    (definition_at ts c.args.definition.now) s c.add.new.self sig c.in_ok-symbols.symbols.items
    c.in_ok-occurring.occurring (map (sequent_at ts) c.args.made.now)
    c.in_ok-symbols.ensures.marks c.in_ok-symbols.ensures.are c.in_ok-occurring.ensures are
    (defs ∙ ap (insert_all mark_eq s.defined.keys) c.deref.ensures.value)
    (uses ∙ ap (insert_all mark_eq s.used.keys) c.as_slice.ensures.keys))
    c.add.ensures.defined c.add.ensures.used
