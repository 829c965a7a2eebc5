use Rattle.std.proofs.Common.{map, ◌+◌, ◌*◌}
use Rattle.ot_logic.specs.Naming.{names}
use Rattle.ot_logic.specs.Hol.{depth_ty, depth_all}
use Rattle.ot_logic.specs.PlainTrees.{tys_of}
use Rattle.ot_text.specs.Texts.{spaced_text}
use Rattle.ot_text.specs.Pages.{printed}
use Rattle.ot_text.proofs.Putting.{Puts}
use Rattle.ot_text.proofs.types.+types.Given as goal

abbrev pub decreases-put_type : goal.decreases-put_type
decreases-put_type g l = 3 * depth_ty names (g.T.Types.type_at l.table.now l.ty.now)

abbrev pub decreases-put_operator : goal.decreases-put_operator
decreases-put_operator g l = 3 * depth_all names (tys_of (map (g.T.Types.type_at l.table.now) l.args.now)) + 2

abbrev pub decreases-put_types : goal.decreases-put_types
decreases-put_types g l = 3 * depth_all names (tys_of (map (g.T.Types.type_at l.table.now) l.types.now)) + 1

abbrev pub invariant-put_types-loop-ty : goal.invariant-put_types-loop-ty
invariant-put_types-loop-ty g l = Puts (λ ts. spaced_text (tys_of (map (g.T.Types.type_at l.table) ts))) l.types
    l.ty-index (printed l.initial.page) (printed l.page)
