use Rattle.std.proofs.Common.{refl}
use Rattle.ot_write.specs.Emitting.{given}
use Rattle.ot_write.proofs.Keys.{read-at}
use Rattle.ot_write.proofs.Moving.{opened-some, opened-none, cheaper-same}
use Rattle.ot_write.proofs.writer.Writer.open.Goals as goal

pub returns-in-Some-clause-moves : goal.returns-in-Some-clause-moves
returns-in-Some-clause-moves c =
    let g = given c.args.names.now c.args.trace.now c.args.counts.now in
    opened-some g _ _ c.requires.ready.keys c.args.id c.requires.inside _
    (read-at _ _ _ _ c.index-at.ensures c.index.ensures) c.recall.result c.args.self.now c.recall.new.self _
    c.in-Some.key refl c.in-Some.is (c.recall.ensures.moves g)

pub returns-in-Some-clause-cheaper : goal.returns-in-Some-clause-cheaper
returns-in-Some-clause-cheaper c = cheaper-same c.recall.result _ _ _

pub returns-in-None-clause-moves : goal.returns-in-None-clause-moves
returns-in-None-clause-moves c =
    let g = given c.args.names.now c.args.trace.now c.args.counts.now in
    opened-none g _ _ c.requires.ready.keys c.args.id c.requires.inside _
    (read-at _ _ _ _ c.index-at.ensures c.index.ensures) c.begin.result c.args.self.now c.begin.new.self _ _ refl
    c.in-None.is c.begin.ensures.moves
