use Rattle.std.proofs.Common.{[], refl, ap, sym, ◌∙◌}
use Rattle.std.proofs.lemmas.List.{append-nil}
use Rattle.ot_term.specs.TermTable.{term_at}
use Rattle.ot_term.specs.Symbols.{constant_of}
use Rattle.ot_term.proofs.Gathering.{node_tree}
use Rattle.ot_term.proofs.GatherLemmas.{flat_next, no_constant}
use Rattle.ot_term.proofs.table.Terms.add_constants.Goals as goal
use Rattle.ot_term.proofs.table.Terms.add_constants.Goals.{in-Const+in_ok-push, in_default}

pub loop-id-preserved : goal.loop-id-preserved
loop-id-preserved c =
    let t = c.args.self.now in
    elim c.match-node.branch [
      | in-Const+in_ok-push w ↦
          let root = node_tree t.types t.terms c.id-item.result c.node.result.now _ c.node.ensures.tree
          w.in-Const.is in
          rw w.symbols-is
          (flat_next (λ i. constant_of (term_at t.terms i)) c.args.symbols.now.items c.args.ids.now
          c.loop-id.id-index c.id-item.result c.loop-id-test.true c.id-item.is c.loop-id.symbols.items
          w.push.new.self.items _ c.loop-id.invariant (ap constant_of root) w.in_ok-push.ensures.items)
      | in_default w ↦
          let root = node_tree t.types t.terms c.id-item.result c.node.result.now c.node.result.now
          c.node.ensures.tree refl in
          let none = no_constant t.types t.terms c.node.result.now w.in_default.not-Const in
          rw w.symbols-is
          (flat_next (λ i. constant_of (term_at t.terms i)) c.args.symbols.now.items c.args.ids.now
          c.loop-id.id-index c.id-item.result c.loop-id-test.true c.id-item.is c.loop-id.symbols.items
          c.loop-id.symbols.items [] c.loop-id.invariant (ap constant_of root ∙ none) (sym (append-nil _)))
    ]
