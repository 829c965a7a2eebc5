use Rattle.std.proofs.Common.{map, sym, ap, ◌∙◌}
use Rattle.ot_kernel.specs.State.{name_at, theorem_at}
use Rattle.ot_kernel.specs.Definitions.{definition_at}
use Rattle.ot_text.specs.Sections.{head_text}
use Rattle.ot_text.proofs.Putting.{then, same-text}
use Rattle.ot_text.proofs.Separating.{type-pieces}
use Rattle.ot_print.proofs.definitions.put_head.Goals as goal

pub returns-in-TyOp : goal.returns-in-TyOp
returns-in-TyOp c =
    let s = c.args.kernel.now in
    let d = c.in-TyOp in
    same-text (type-pieces (name_at s d.name) (name_at s d.abs) (name_at s d.rep) (map (name_at s) d.vars.items)
    (theorem_at s d.premise) ∙ ap (λ t. head_text (definition_at s t)) (sym d.is))
    (then (then
    (then (then (then
    (then (then (then c.put-in-TyOp.ensures c.put_name-in-TyOp.ensures) c.put-in-TyOp-2.ensures)
    (rw c.as_slice-in-TyOp.ensures.value at c.put_names.ensures)) c.put-in-TyOp-3.ensures)
    c.put_name-in-TyOp-2.ensures) c.put-in-TyOp-4.ensures) c.put_name-in-TyOp-3.ensures)
    c.put_premise-in-TyOp.ensures)
