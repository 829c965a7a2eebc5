use Rattle.ot_verify.proofs.Logging.{log-kept, met}
use Rattle.ot_verify.proofs.log.Log.intern.Goals as goal

pub invariant_of-self : goal.invariant_of-self
invariant_of-self c = log-kept c.self.inside c.name.new.self c.name.ensures.extends c.self.invariant

pub returns-clause-meets : goal.returns-clause-meets
returns-clause-meets c = met c.self.inside c.name.new.self c.args.self.now c.self.view_is c.name.ensures.extends
    c.self.invariant
