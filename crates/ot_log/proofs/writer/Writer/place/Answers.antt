use Rattle.std.proofs.Common.{sym, subst, ◌<◌}
use Rattle.ot_log.proofs.Placed.{read-place}
use Rattle.ot_log.proofs.writer.Writer.place.Goals as goal

pub returns-clause-placed : goal.returns-clause-placed
returns-clause-placed c =
    c.requires.writer.placed c.args.id c.in-Some.place
    (read-place c.args.self.now.places.items _ c.args.id _ _ c.index.ensures c.index-2.ensures c.in-Some.is
    (subst (λ n. c.args.id < n) (sym c.requires.writer.long) c.requires.inside))
