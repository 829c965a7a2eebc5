use Rattle.ot_log_order.proofs.Pushing.{pushed}
use Rattle.ot_log_order.proofs.pieces.push.Goals as goal

pub returns : goal.returns
returns c = λ ts h. pushed ts c.args.piece c.args.pieces.now.items c.push.new.self.items h c.in_ok-push.ensures.items
