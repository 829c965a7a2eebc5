use Rattle.std.proofs.Common.{subst, sym, refl, OnOk}
use Rattle.ot_machine.specs.Meaning.{origin_of}
use Rattle.ot_log.specs.Ready.{Knows}
use Rattle.ot_log.specs.Working.{CanDo, close, Replaces}
use Rattle.ot_log_words.proofs.Defining.{on-ok}
use Rattle.ot_log.proofs.writer.Writer.perform.Goals as goal

pub close-requires-clause-ready : goal.close-requires-clause-ready
close-requires-clause-ready c =
    let s = c.args.session.now in
    subst (λ k. Knows s c.args.self.now (CanDo s k)) c.in-Close.is c.requires.ready

pub returns-in-Close-clause-moves : goal.returns-in-Close-clause-moves
returns-in-Close-clause-moves c =
    let s = c.args.session.now in
    subst (λ k. OnOk c.close.result
    (Replaces s c.args.self.now c.close.new.self c.args.work.now.items c.args.work.now.items k))
    (sym c.in-Close.is)
    (on-ok c.close.result (λ m. λ max x h. (close (origin_of s c.in-Close.id) x, m max x h, refl, λ a b. b))
    c.close.ensures.moves)

pub returns-in-Write-clause-moves : goal.returns-in-Write-clause-moves
returns-in-Write-clause-moves c =
    let s = c.args.session.now in
    subst (λ k. OnOk c.ask.result
    (Replaces s c.args.self.now c.args.self.now c.args.work.now.items c.ask.new.work.items k))
    (sym c.in-Write.is) c.ask.ensures.moves
