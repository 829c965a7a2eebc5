use Rattle.std.proofs.Common.{◌∙◌, Some, refl, sym, ap, subst}
use Rattle.std.proofs.lemmas.Result.{IfOk-weaker}
use Rattle.ot_log_nodes.specs.Items.{TermItem}
use Rattle.ot_log_nodes.specs.Changing.{changing, HasChange}
use Rattle.ot_log_nodes.specs.declared.table.change.Done.{Done}
use Rattle.ot_log_nodes.proofs.ItemLemmas.{has-type, still-name}
use Rattle.ot_log_nodes.proofs.MapLemmas.{still-change, done-now}
use Rattle.ot_log_nodes.proofs.ChangeLemmas.{closed-variable, other-variable, put-variable, free-variable, done-retyped}
use Rattle.ot_log_nodes.proofs.table.Nodes.change_free.Goals as goal
use Rattle.ot_logic.proofs.Results.{on_ok}

pub returns-then-eq-clause-ok : goal.returns-then-eq-clause-ok
returns-then-eq-clause-ok c =
    IfOk-weaker c.bound.result _ _
    (λ r h. h ∙ ap (λ u. Some (TermItem u))
    (closed-variable c.args.self.now c.primitives.ensures.once c.args.change.now c.args.v c.in-Close.w
    c.args.depth c.in-Close.is c.requires.change c.requires.v (sym c.eq.ensures ∙ c.if-eq.true)))
    c.bound.ensures.ok

pub returns-then-eq-clause-done : goal.returns-then-eq-clause-done
returns-then-eq-clause-done c =
    on_ok c.bound.result (done-now c.args.self.now c.bound.new.self c.bound.ensures.extends c.args.change.now
    c.args.done.now c.requires.change c.requires.done)

pub returns-then-eq-clause-change : goal.returns-then-eq-clause-change
returns-then-eq-clause-change c =
    on_ok c.bound.result
    (still-change c.args.self.now c.bound.new.self c.bound.ensures.extends c.args.change.now c.requires.change)

pub returns-else-eq-clause-ok : goal.returns-else-eq-clause-ok
returns-else-eq-clause-ok c =
    other-variable c.args.self.now c.primitives.ensures.once c.args.change.now c.args.v c.in-Close.w c.args.depth
    c.args.id c.in-Close.is c.requires.change c.requires.v (sym c.eq.ensures ∙ c.if-eq.false) c.requires.id

pub free-requires-clause-name : goal.free-requires-clause-name
free-requires-clause-name c = still-name c.args.self.now c.inst.new.self c.in_ok-ty-in-Put.ensures.extends
    c.args.v.name c.requires.v.0

pub free-requires-clause-ty : goal.free-requires-clause-ty
free-requires-clause-ty c = has-type c.inst.new.self c.in_ok-ty-in-Put.ty _ c.in_ok-ty-in-Put.ensures.ok

pub returns-in-Some-clause-ok : goal.returns-in-Some-clause-ok
returns-in-Some-clause-ok c =
    let ts = c.args.self.now in
    let us = c.inst.new.self in
    put-variable ts us c.in_ok-ty-in-Put.ensures.extends c.primitives-in-Put.ensures.once c.args.change.now c.args.v
    c.in-Put.types.entries c.in-Put.terms.entries (ap (changing ts) c.in-Put.is)
    (subst (HasChange ts) c.in-Put.is c.requires.change).1
    c.requires.v c.in_ok-ty-in-Put.ty c.in_ok-ty-in-Put.ensures.ok c.args.depth c.in-Some.term.now
    (sym c.in-Some.ensures.value)

pub returns-in-Some-clause-done : goal.returns-in-Some-clause-done
returns-in-Some-clause-done c =
    done-retyped c.args.self.now c.inst.new.self c.in_ok-ty-in-Put.ensures.extends c.args.change.now c.in-Put.types
    c.in-Put.terms c.args.done.now (record { types = c.inst.new.done; terms = c.args.done.now.terms }) c.in-Put.is
    c.requires.change c.requires.done refl c.in_ok-ty-in-Put.ensures.done

pub returns-in-Some-clause-change : goal.returns-in-Some-clause-change
returns-in-Some-clause-change c = still-change c.args.self.now c.inst.new.self c.in_ok-ty-in-Put.ensures.extends
    c.args.change.now c.requires.change

pub returns-in-None-clause-ok : goal.returns-in-None-clause-ok
returns-in-None-clause-ok c =
    let ts = c.args.self.now in
    let us = c.inst.new.self in
    let tree = free-variable ts us c.in_ok-ty-in-Put.ensures.extends c.primitives-in-Put.ensures.once
    c.args.change.now c.args.v c.in-Put.types.entries c.in-Put.terms.entries (ap (changing ts) c.in-Put.is)
    (subst (HasChange ts) c.in-Put.is c.requires.change).1
    c.requires.v c.in_ok-ty-in-Put.ty c.in_ok-ty-in-Put.ensures.ok c.args.depth (sym c.in-None.ensures.value) in
    IfOk-weaker c.free.result _ _ (λ r h. h ∙ ap (λ u. Some (TermItem u)) tree) c.free.ensures.ok

pub returns-in-None-clause-done : goal.returns-in-None-clause-done
returns-in-None-clause-done c =
    let us = c.inst.new.self in
    let done : Done = record { types = c.inst.new.done; terms = c.args.done.now.terms } in
    let h = done-retyped c.args.self.now us c.in_ok-ty-in-Put.ensures.extends c.args.change.now c.in-Put.types
    c.in-Put.terms c.args.done.now done c.in-Put.is c.requires.change c.requires.done refl
    c.in_ok-ty-in-Put.ensures.done in
    on_ok c.free.result (done-now us c.free.new.self c.free.ensures.extends c.args.change.now done
    (still-change c.args.self.now us c.in_ok-ty-in-Put.ensures.extends c.args.change.now c.requires.change) h)

pub returns-in-None-clause-change : goal.returns-in-None-clause-change
returns-in-None-clause-change c =
    let us = c.inst.new.self in
    on_ok c.free.result (still-change us c.free.new.self c.free.ensures.extends c.args.change.now
    (still-change c.args.self.now us c.in_ok-ty-in-Put.ensures.extends c.args.change.now c.requires.change))
