use Rattle.ot_term.proofs.Equations.{made-equality}
use Rattle.ot_term.proofs.table.Terms.made_equality.Goals as goal

pub returns-clause-ok : goal.returns-clause-ok
returns-clause-ok c =
    made-equality c.args.self.now c.type_bool.new.self c.type_fun.new.self c.type_fun-2.new.self c.constant.new.self
    c.args.ty c.in_ok-truth.truth c.in_ok-test.test c.in_ok-relation.relation c.in_ok-constant.constant
    c.type_bool.ensures.grown.grows c.type_fun.ensures.grown.grows c.type_fun-2.ensures.grown.grows
    c.constant.ensures.types c.requires
    c.in_ok-truth.ensures.ok c.in_ok-test.ensures.ok c.in_ok-relation.ensures.ok c.in_ok-constant.ensures.ok
