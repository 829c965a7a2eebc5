use Rattle.std.proofs.Common.{◌∙◌, ap, refl, map, arith}
use Rattle.std.proofs.lemmas.List.{length-map}
use Rattle.ot_logic.specs.Naming.{names}
use Rattle.ot_kernel.specs.State.{type_at}
use Rattle.ot_match.specs.Walk.{walk_types}
use Rattle.ot_logic.specs.PlainTrees.{type_of_tree, tys_of}
use Rattle.ot_match.specs.Found.{types_of}
use Rattle.ot_match.proofs.Holding.{other_lengths, types_row}
use Rattle.ot_match.proofs.types.+types.Goals as goal

pub match_types-returns-then-len-ids-clause-walk : goal.match_types-returns-then-len-ids-clause-walk
match_types-returns-then-len-ids-clause-walk t c =
    let k = c.args.kernel.now in
    let s = types_of k c.args.types.now.items in
    let left = length-map c.args.patterns.now.items type_of_tree in
    let right = length-map c.args.ids.now (type_at k) in
    ap (λ us. walk_types names (tys_of (map type_of_tree c.args.patterns.now.items)) us s)
    (types_row k c.args.ids.now)
    ∙ other_lengths (map type_of_tree c.args.patterns.now.items) (map (type_at k) c.args.ids.now) tys_of refl
    (λ x xs. refl) (λ e. omega (arith, e, left, right, c.len.ensures, c.if-len-ids.true)) s
