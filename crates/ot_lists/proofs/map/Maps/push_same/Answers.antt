use Rattle.std.proofs.Common.{◌++◌, [], Some, sym, ap, ◌∙◌}
use Rattle.std.proofs.lemmas.List.{append-nil}
use Rattle.std.proofs.lemmas.Option.{slice_get-get_or}
use Rattle.ot_lists.specs.Maps.{map_at}
use Rattle.ot_lists.proofs.Runs.{kept}
use Rattle.ot_lists.proofs.map.Maps.push_same.Goals as goal

pub returns-then-count-eq0-clause-ok : goal.returns-then-count-eq0-clause-ok
returns-then-count-eq0-clause-ok c =
    let l = map_at c.args.self.now c.args.front in
    slice_get-get_or c.args.self.now c.args.front [] c.requires ∙ ap Some (sym (append-nil l))
    ∙ ap (λ n. Some (l ++ kept c.args.start n)) (sym c.if-count-eq0.true)
