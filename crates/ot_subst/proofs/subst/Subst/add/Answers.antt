use Rattle.ot_subst.specs.Substitution.{with_pair}
use Rattle.ot_subst.proofs.Pairs.{fits_pair, fits_either}
use Rattle.ot_subst.proofs.subst.Subst.add.Goals as goal

pub returns-clause-fits : goal.returns-clause-fits
returns-clause-fits c h =
    fits_either c.insert.result c.args.terms.now c.args.self.now c.insert.new.self
    (with_pair c.args.self.now c.args.v c.args.t) c.insert.ensures.ok c.insert.ensures.err h
    (fits_pair c.args.terms.now c.args.self.now c.args.v c.args.t c.requires.variable c.requires.term c.requires.typed
    h)
