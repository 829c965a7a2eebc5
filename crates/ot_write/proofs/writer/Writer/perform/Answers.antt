use Rattle.std.proofs.Common.{subst, sym, refl, OnOk}
use Rattle.ot_trace.specs.Trace.{origin_at}
use Rattle.ot_write.specs.Emitting.{given, perform, close, Replaces}
use Rattle.ot_write.proofs.Moving.{at-once}
use Rattle.ot_write.proofs.writer.Writer.perform.Goals as goal

pub returns-in-Close-clause-moves : goal.returns-in-Close-clause-moves
returns-in-Close-clause-moves c =
    let g = given c.args.names.now c.args.trace.now c.args.counts.now in
    subst (λ k. OnOk c.close.result
    (Replaces g c.args.self.now c.close.new.self c.args.work.now.items c.args.work.now.items (perform g k)))
    (sym c.in-Close.is)
    (at-once c.close.result g _ c.close.new.self _ (close g (origin_at g.trees c.in-Close.id))
    (close g (origin_at g.trees c.in-Close.id)) (λ t. refl) (c.close.ensures.moves c.args.names.now))
