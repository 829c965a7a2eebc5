use Rattle.std.specs.Prelude.{◌==◌}
use Rattle.std.proofs.Common.{◌&&◌, length, ◌∙◌}
use Rattle.ot_define.proofs.Keys.{distinct-keys}
use Rattle.ot_define.proofs.lists.are_pairs.Goals as goal

pub returns : goal.returns
returns c =
    let vars = c.in_ok-vars_differ.ensures ∙ distinct-keys c.args.terms.now.types
    c.types-types.ensures.table.types.injective c.args.vars.now c.requires in
    λ i. c.in_ok-names_differ.ensures i && vars i && (length c.args.hyps.now == length c.args.vars.now)
