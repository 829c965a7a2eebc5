use Rattle.std.proofs.Common.{List, ℕ, sym, subst}
use Rattle.ot_logic.specs.Trees.{Sequent}
use Rattle.ot_kernel.specs.Proved.{DerivesBoth}
use Rattle.ot_kernel.proofs.Premises.{theorems_from}
use Rattle.ot_kernel.proofs.type_operators.operator_theorems.Goals as goal

pub returns-clause-derives : goal.returns-clause-derives
returns-clause-derives c =
    let same = theorems_from c.args.terms.now _ c.parts-p.result.0 c.parts-p.result.1 c.parts-p.ensures c.args.op
    c.args.abs c.args.rep c.args.vars.now in
    subst (λ (qs : List (Sequent ℕ)). DerivesBoth c.type_theorems.result qs c.type_theorems.new.terms.terms)
    (sym same) c.type_theorems.ensures.derives
