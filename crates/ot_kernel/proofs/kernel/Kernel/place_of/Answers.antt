use Rattle.ot_kernel.proofs.Later.{held_of}
use Rattle.ot_kernel.proofs.Placed.{is_first}
use Rattle.ot_kernel.proofs.kernel.Kernel.place_of.Goals as goal

pub returns-in-Ok : goal.returns-in-Ok
returns-in-Ok c = λ qs h. is_first c.self.inside.names c.self.inside.terms (held_of c.self.inside) c.args.self.now
    c.self.view_is c.self.invariant qs c.args.places.now h c.args.hyps.now c.args.concl c.in-Ok.key c.requires.hyps
    c.requires.concl c.in-Ok.ensures c.get.result c.get.ensures
