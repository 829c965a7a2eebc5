use Rattle.std.specs.Global.{Vec}
use Rattle.std.proofs.Common.{◌↔◌, ℕ, List, sym, subst}
use Rattle.std.proofs.lemmas.Result.{IfOk-weaker}
use Rattle.ot_logic.specs.Lists.{IsMember, AreDistinct}
use Rattle.ot_lists.specs.Variables.{variable_by}
use Rattle.ot_lists.specs.declared.list.Key.{Key}
use Rattle.ot_class.specs.Class.{class_at}
use Rattle.ot_class.proofs.Freeing.{types-free, types-once}
use Rattle.ot_class.proofs.table.Classes.types_of.Goals as goal

pub returns-clause-free : goal.returns-clause-free
returns-clause-free c =
    IfOk-weaker c.types_named.result _ _
    (λ (types : Vec ℕ) are t.
    let there = subst (λ (ks : List Key). IsMember (record { name = c.args.name; ty = t }) ks
    ↔ IsMember (variable_by c.args.name t) (class_at c.args.self.now c.args.id).frees) (sym c.as_slice.ensures.value)
    (c.in_ok-keys.ensures.free (record { name = c.args.name; ty = t })) in
    let among = types-free c.args.name c.as_slice.result.now t in
    subst (λ (ts : List ℕ). IsMember t ts ↔ IsMember (variable_by c.args.name t) (class_at c.args.self.now c.args.id).frees)
    (sym are) (λ m. there.0 (among.0 m), λ m. among.1 (there.1 m)))
    c.types_named.ensures

pub returns-clause-once : goal.returns-clause-once
returns-clause-once c =
    IfOk-weaker c.types_named.result _ _
    (λ (types : Vec ℕ) are.
    subst AreDistinct (sym are) (types-once c.args.name c.as_slice.result.now
    (subst AreDistinct (sym c.as_slice.ensures.value) c.in_ok-keys.ensures.once)))
    c.types_named.ensures
