use Rattle.std.specs.List.{flat_map}
use Rattle.std.proofs.Common.{map, subst, ap, ◌∙◌, arith}
use Rattle.std.proofs.lemmas.List.{take_all}
use Rattle.ot_logic.specs.Hol.{used}
use Rattle.ot_logic.specs.Naming.{names}
use Rattle.ot_kernel.specs.Definitions.{definition_at}
use Rattle.ot_pretty.specs.Run.{HasMoreTerms}
use Rattle.ot_pretty.proofs.Roots.{adds-nothing, definitions-more, take-item}
use Rattle.ot_pretty.proofs.symbols.add_definitions.Goals as goal

pub loop-definition-init : goal.loop-definition-init
loop-definition-init c = adds-nothing c.args.kernel.now c.args.roots.now.items

pub loop-definition-preserved : goal.loop-definition-preserved
loop-definition-preserved c =
    definitions-more c.args.kernel.now c.args.roots.now.items c.loop-definition.roots.items
    c.add_definition.new.roots.items c.definitions-definitions.result.now c.loop-definition.definition-index
    c.definition-item.result
    (take-item c.definitions-definitions.result.now c.loop-definition.definition-index c.definition-item.result
    c.loop-definition-test.true c.definition-item.is) c.loop-definition.invariant c.in_ok-add_definition.ensures

pub returns : goal.returns
returns c =
    subst (λ ds. HasMoreTerms c.args.kernel.now c.args.roots.now.items c.loop-definition.roots.items
    (flat_map (used names) ds))
    (ap (map (definition_at c.args.kernel.now))
    (take_all c.loop-definition.definition-index c.definitions-definitions.result.now (omega arith))
    ∙ c.definitions-definitions.ensures.definitions) c.loop-definition.invariant
