use Rattle.std.proofs.Common.{◌≡◌}
use Rattle.ot_kernel.specs.State.{sequent_at, theorem_at}
use Rattle.ot_kernel.proofs.Later.{held_of}
use Rattle.ot_kernel.proofs.Placed.{placed_more, placed_still}
use Rattle.ot_kernel.proofs.kernel.Kernel.note_theorem.Goals as goal

pub returns-clause-more : goal.returns-clause-more
returns-clause-more c = λ qs e h.
    let is : sequent_at c.args.self.now c.hyps.result.now c.concl.result ≡ theorem_at c.args.self.now c.args.th =
    λ i. record { hyps = c.hyps.ensures.hyps i; concl = c.concl.ensures.concl i } in
    placed_more c.self.inside.names c.self.inside.terms (held_of c.self.inside) c.args.self.now c.self.view_is
    c.self.invariant qs c.args.places.now c.note.new.self c.hyps.result.now c.concl.result c.in_ok-key.key
    c.args.place c.hyps.ensures.inside c.concl.ensures.inside c.in_ok-key.ensures e c.in_ok-note.ensures.ok
    (theorem_at c.args.self.now c.args.th) is h

pub returns-clause-still : goal.returns-clause-still
returns-clause-still c = λ qs e h.
    placed_still c.self.inside.names c.self.inside.terms (held_of c.self.inside) c.args.self.now c.self.view_is
    c.self.invariant qs c.args.places.now c.note.new.self c.hyps.result.now c.concl.result c.in_ok-key.key
    c.args.place c.hyps.ensures.inside c.concl.ensures.inside c.in_ok-key.ensures e c.in_ok-note.ensures.ok h
