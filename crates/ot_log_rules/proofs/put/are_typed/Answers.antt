use Rattle.std.specs.Prelude.{◌&&◌}
use Rattle.std.specs.List.{list_all}
use Rattle.std.proofs.Common.{ℕ, ◌+◌, Bool, drop, sym, ap, ◌∙◌, subst}
use Rattle.ot_logic.specs.Names.{Name}
use Rattle.ot_logic.specs.Naming.{names}
use Rattle.ot_logic.specs.Trees.{Tm, Variable}
use Rattle.ot_logic.specs.Rules.{has_type}
use Rattle.ot_logic.proofs.TableLemmas.{Extends-trans}
use Rattle.ot_log_nodes.specs.Items.{HasTerm, term_at}
use Rattle.ot_log_nodes.specs.Changing.{variable_at, term_map, HasVariable}
use Rattle.ot_log_nodes.specs.declared.node.VariableNode.{VariableNode}
use Rattle.ot_log_nodes.proofs.ItemLemmas.{still-term, type-stays, term-stays}
use Rattle.ot_log_nodes.proofs.MapLemmas.{still-variable}
use Rattle.ot_log_rules.proofs.Numbers.{all-next_map, entry-at}
use Rattle.ot_log_rules.proofs.put.are_typed.Goals as goal

pub is_typed-requires-clause-variable : goal.is_typed-requires-clause-variable
is_typed-requires-clause-variable c =
    let ts = c.args.nodes.now in
    let p : VariableNode × ℕ = (c.in-Some.variable.now, c.in-Some.term.now) in
    let at = entry-at c.args.terms.now.entries c.loop-i.i p c.in-Some.ensures.entry in
    let here = subst (λ (q : VariableNode × ℕ). HasVariable ts q.0 × HasTerm ts q.1) (sym at.1)
    (c.requires.terms c.loop-i.i p at.0) in
    still-variable ts c.loop-i.nodes c.loop-i.invariant.extends c.in-Some.variable.now here.0

pub is_typed-requires-clause-term : goal.is_typed-requires-clause-term
is_typed-requires-clause-term c =
    let ts = c.args.nodes.now in
    let p : VariableNode × ℕ = (c.in-Some.variable.now, c.in-Some.term.now) in
    let at = entry-at c.args.terms.now.entries c.loop-i.i p c.in-Some.ensures.entry in
    let here = subst (λ (q : VariableNode × ℕ). HasVariable ts q.0 × HasTerm ts q.1) (sym at.1)
    (c.requires.terms c.loop-i.i p at.0) in
    still-term ts c.loop-i.nodes c.loop-i.invariant.extends c.in-Some.term.now here.1

pub returns-then-not-typed-clause-ok : goal.returns-then-not-typed-clause-ok
returns-then-not-typed-clause-ok c =
    let ts = c.args.nodes.now in
    let us = c.loop-i.nodes in
    let es = c.args.terms.now.entries in
    let p : VariableNode × ℕ = (c.in-Some.variable.now, c.in-Some.term.now) in
    let at = entry-at es c.loop-i.i p c.in-Some.ensures.entry in
    let here = subst (λ (q : VariableNode × ℕ). HasVariable ts q.0 × HasTerm ts q.1) (sym at.1)
    (c.requires.terms c.loop-i.i p at.0) in
    let term = term-stays ts us c.loop-i.invariant.extends p.1 here.1 in
    let ty = type-stays ts us c.loop-i.invariant.extends p.0.ty here.0.1 in
    let test = c.in_ok-typed.ensures.ok ∙ (λ j. has_type names (term j) (ty j)) in
    let fits : Variable Name × Tm Name → Bool = λ q. has_type names q.1 q.0.ty in
    let rest = list_all fits (term_map ts (drop (c.loop-i.i + 1) es)) in
    sym (c.loop-i.invariant.all ∙ all-next_map fits (λ (q : VariableNode × ℕ). (variable_at ts q.0, term_at ts q.1))
    es c.loop-i.i p c.in_ok-typed.typed at.0 at.1 test ∙ ap (λ b. b && rest) c.if-not-typed.true)

pub loop-i-preserved : goal.loop-i-preserved
loop-i-preserved c =
    let ts = c.args.nodes.now in
    let us = c.loop-i.nodes in
    let es = c.args.terms.now.entries in
    let p : VariableNode × ℕ = (c.in-Some.variable.now, c.in-Some.term.now) in
    let at = entry-at es c.loop-i.i p c.in-Some.ensures.entry in
    let here = subst (λ (q : VariableNode × ℕ). HasVariable ts q.0 × HasTerm ts q.1) (sym at.1)
    (c.requires.terms c.loop-i.i p at.0) in
    let term = term-stays ts us c.loop-i.invariant.extends p.1 here.1 in
    let ty = type-stays ts us c.loop-i.invariant.extends p.0.ty here.0.1 in
    let test = c.in_ok-typed.ensures.ok ∙ (λ j. has_type names (term j) (ty j)) in
    let fits : Variable Name × Tm Name → Bool = λ q. has_type names q.1 q.0.ty in
    let rest = list_all fits (term_map ts (drop (c.loop-i.i + 1) es)) in
    record {
      extends = Extends-trans c.loop-i.invariant.extends c.in_ok-typed.ensures.extends;
      known = c.in_ok-typed.ensures.known;
      all = c.loop-i.invariant.all
          ∙ all-next_map fits (λ (q : VariableNode × ℕ). (variable_at ts q.0, term_at ts q.1)) es c.loop-i.i p
          c.in_ok-typed.typed at.0 at.1 test ∙ ap (λ b. b && rest) c.if-not-typed.false;
    }
