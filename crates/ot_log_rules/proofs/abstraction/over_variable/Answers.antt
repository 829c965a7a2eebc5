use Rattle.std.proofs.Common.{ℕ, List, ap, subst, refl, ◌∙◌}
use Rattle.ot_logic.specs.Names.{Name}
use Rattle.ot_logic.specs.Naming.{names}
use Rattle.ot_logic.specs.Trees.{Tm, Abs}
use Rattle.ot_logic.specs.Hol.{fun_ty, close, equation, is_free_in_some}
use Rattle.ot_logic.proofs.TableLemmas.{Extends-trans}
use Rattle.ot_log_nodes.specs.Items.{IsTerm}
use Rattle.ot_log_nodes.specs.Changing.{variable_at}
use Rattle.ot_log_nodes.proofs.ItemLemmas.{type-stays, term-stays, still-type, still-term}
use Rattle.ot_log_nodes.proofs.MapLemmas.{variable-stays}
use Rattle.ot_log_rules.specs.Statements.{terms_at}
use Rattle.ot_log_rules.proofs.Cases.{abs_thm-refused, abs_thm-free, abs_thm-made}
use Rattle.ot_log_rules.proofs.abstraction.over_variable.Goals as goal

pub returns-in_default-clause-gives : goal.returns-in_default-clause-gives
returns-in_default-clause-gives c =
    abs_thm-refused c.args.nodes.now (variable_at c.args.nodes.now c.args.v) c.args.a.now c.in_default.ensures

pub returns-then-free-clause-gives : goal.returns-then-free-clause-gives
returns-then-free-clause-gives c =
    let ts = c.args.nodes.now in
    let v = variable_at ts c.args.v in
    abs_thm-free ts v c.args.a.now c.in-Some.equation c.in_ok-free.free c.in-Some.ensures (c.in_ok-free.ensures.ok
    ∙ ap (λ (is : List ℕ). is_free_in_some names v (terms_at ts is)) c.deref.ensures.value) c.if-free.true

pub equation_of_abstractions-requires-clause-sides : goal.equation_of_abstractions-requires-clause-sides
equation_of_abstractions-requires-clause-sides c =
    let ts = c.args.nodes.now in
    let us = c.is_free_in_some.new.nodes in
    let e = c.in_ok-free.ensures.extends in
    let s = c.in-Some.equation in
    record {
      left = still-term ts us e s.left c.in-Some.ensures.left;
      right = still-term ts us e s.right
          c.in-Some.ensures.right;
      ty = still-type ts us e s.ty c.in-Some.ensures.ty;
    }

pub returns-clause-gives : goal.returns-clause-gives
returns-clause-gives c =
    let ts = c.args.nodes.now in
    let us = c.is_free_in_some.new.nodes in
    let vs = c.equation_of_abstractions.new.nodes in
    let e = c.in_ok-free.ensures.extends in
    let f = c.in_ok-concl.ensures.extends in
    let s = c.in-Some.equation in
    let v = variable_at ts c.args.v in
    let variable = variable-stays ts us e c.args.v c.requires.v in
    let ty = type-stays ts us e s.ty c.in-Some.ensures.ty in
    let left = term-stays ts us e s.left c.in-Some.ensures.left in
    let right = term-stays ts us e s.right c.in-Some.ensures.right in
    let made = subst (λ (t : Tm Name). IsTerm vs c.in_ok-concl.concl t)
    (λ i. equation names (fun_ty names (variable i).ty (ty i))
    (Abs (variable i).ty (close names (variable i) (left i)))
    (Abs (variable i).ty (close names (variable i) (right i)))) c.in_ok-concl.ensures.ok in
    abs_thm-made ts v c.args.a.now vs (Extends-trans e f) c.requires.a s c.in_ok-free.free
    (record { hyps = c.in_ok-hyps.hyps; concl = c.in_ok-concl.concl }) c.in-Some.ensures
    (c.in_ok-free.ensures.ok ∙ ap (λ (is : List ℕ). is_free_in_some names v (terms_at ts is)) c.deref.ensures.value)
    c.if-free.false (c.in_ok-hyps.ensures.items ∙ c.deref-2.ensures.value) c.in_ok-concl.concl refl made
