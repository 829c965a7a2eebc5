use Rattle.std.proofs.lemmas.Result.{on_ok_weaker}
use Rattle.ot_pretty.proofs.Roots.{constant-adds, list-adds, operator-adds}
use Rattle.ot_pretty.proofs.symbols.add_definition.Goals as goal

pub returns-in-Con : goal.returns-in-Con
returns-in-Con c =
    on_ok_weaker c.add_theorem.result
    (constant-adds c.args.kernel.now c.args.roots.now.items c.add_theorem.new.roots.items c.args.definition.now
    c.in-Con.name c.in-Con.th c.in-Con.is c.requires) c.add_theorem.ensures

pub returns-in-List : goal.returns-in-List
returns-in-List c =
    on_ok_weaker c.add_theorems.result
    (list-adds c.args.kernel.now c.args.roots.now.items c.add_theorems.new.roots.items c.args.definition.now
    c.in-List.names c.in-List.vars c.in-List.premise c.in-List.th c.in-List.is c.requires)
    c.add_theorems.ensures

pub returns-in-TyOp : goal.returns-in-TyOp
returns-in-TyOp c =
    on_ok_weaker c.add_theorems-in-TyOp.result
    (operator-adds c.args.kernel.now c.args.roots.now.items c.add_theorems-in-TyOp.new.roots.items
    c.args.definition.now c.in-TyOp.name c.in-TyOp.abs c.in-TyOp.rep c.in-TyOp.vars c.in-TyOp.premise
    c.in-TyOp.abs_th c.in-TyOp.rep_th c.in-TyOp.is
    c.requires)
    c.add_theorems-in-TyOp.ensures
