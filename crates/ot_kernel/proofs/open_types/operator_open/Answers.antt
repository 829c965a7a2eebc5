use Rattle.std.proofs.Common.{List, ℕ, ap, sym, subst, ◌∙◌}
use Rattle.std.specs.List.{list_all}
use Rattle.ot_logic.specs.Hol.{is_shallow_sequent}
use Rattle.ot_logic.specs.Naming.{numbers}
use Rattle.ot_logic.specs.Trees.{Tm, Sequent}
use Rattle.ot_kernel.specs.Proved.{DerivesOpen}
use Rattle.ot_kernel.proofs.Premises.{theorems_from, open_from, deepest_from}
use Rattle.ot_kernel.proofs.open_types.operator_open.Goals as goal

pub open_theorems-requires-clause-limit : goal.open_theorems-requires-clause-limit
open_theorems-requires-clause-limit c =
    sym (ap (list_all (is_shallow_sequent numbers))
    (theorems_from c.args.terms.now _ c.parts-p.result.0 c.parts-p.result.1 c.parts-p.ensures c.args.op c.args.abs
    c.args.rep c.args.vars.now)) ∙ c.requires.limit

pub returns-clause-derives : goal.returns-clause-derives
returns-clause-derives c =
    let m = c.args.terms.now in
    let opened = open_from m _ c.parts-p.result.0 c.parts-p.result.1 c.parts-p.ensures 3 4 c.args.op c.args.abs
    c.args.rep c.args.vars.now in
    let deep = deepest_from m _ c.parts-p.result.0 c.parts-p.result.1 c.parts-p.ensures 4 in
    subst (λ (z : Tm ℕ × List (Sequent ℕ)). DerivesOpen c.open_theorems.result z.0 z.1
    c.open_theorems.new.terms.terms) (λ j. (sym deep j, sym opened j)) c.open_theorems.ensures.derives
