use Rattle.std.proofs.Common.{refl}
use Rattle.ot_scan.proofs.Held.{part-taken}
use Rattle.ot_scan.proofs.lines.Lines.take_piece.Goals as goal

pub returns : goal.returns
returns c =
    let old = c.self.inside in
    let done = part-taken c.args.self.now old.buffer old.max_bytes old.start old.end old.limit old.number c.args.len old.ended
    c.self.view_is c.self.invariant c.requires.within c.requires.limited in
    ((refl, λ _. tt, done.1), record { piece = done.0; taken = tt })
