use Rattle.ot_logic.specs.Hol.{bool_ty}
use Rattle.ot_logic.specs.Naming.{names}
use Rattle.ot_pretty.proofs.Relations.{not-range}
use Rattle.ot_pretty.proofs.nodes.is_relation_type.Goals as goal

pub returns-in_default-function_parts : goal.returns-in_default-function_parts
returns-in_default-function_parts c = not-range _ _ _ (bool_ty names) (bool_ty names) (bool_ty names)
    c.in-Some.ensures.parts c.in_default-function_parts.ensures.none
