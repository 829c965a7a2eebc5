use Rattle.ot_kernel.proofs.ByClass.{adds-class}
use Rattle.ot_kernel.proofs.membership.add_class.Goals as goal

pub returns : goal.returns
returns c =
    adds-class c.args.terms.now c.class.ensures.table c.args.t c.class.result c.args.classes.now.keys
    c.insert.new.self.keys c.class.ensures.class
    (λ q. c.in_ok-insert.ensures.updates.0 q)
