use Rattle.std.specs.List.{list_all}
use Rattle.std.proofs.Common.{refl, sym, ap, ◌∙◌}
use Rattle.ot_logic.specs.Hol.{bool_ty}
use Rattle.ot_logic.specs.Naming.{names}
use Rattle.ot_logic.specs.Rules.{has_type}
use Rattle.ot_kernel.proofs.Growth.{hyps-Extends}
use Rattle.ot_kernel.proofs.Supposed.{tests_hypotheses}
use Rattle.ot_kernel.proofs.kernel.Kernel.are_propositions.Goals as goal

pub returns-clause-are : goal.returns-clause-are
returns-clause-are c =
    let was = c.in_ok-boolean.ensures in
    sym (tests_hypotheses c.boolean.new.self c.in_ok-boolean.boolean was.ok c.args.ts.now _ c.have_type.result
    c.have_type.ensures refl)
    ∙ ap (list_all (λ t. has_type names t (bool_ty names)))
    (hyps-Extends c.args.self.now.terms c.boolean.new.self.terms was.keeps.terms c.args.ts.now c.requires)
