use Rattle.std.proofs.Common.{ap}
use Rattle.ot_parse.specs.Values.{meant_of}
use Rattle.ot_parse.specs.ReadLines.{kept_of, sequent_meant}
use Rattle.ot_parse.proofs.WholeLines.{wrong-sequent}
use Rattle.ot_parse.proofs.reader.sequent.Goals as goal

pub returns-in-Wrong-default : goal.returns-in-Wrong-default
returns-in-Wrong-default c =
    wrong-sequent (sequent_meant (kept_of c.args.hyps) (meant_of c.args.concl)) c.in-Wrong-default.place
    c.in-Wrong-default.fault c.wrong_at.result
    (ap (λ h. sequent_meant (kept_of h) (meant_of c.args.concl)) c.in-Wrong-default.is-0) c.wrong_at.ensures

pub returns-in-Terms-Wrong : goal.returns-in-Terms-Wrong
returns-in-Terms-Wrong c =
    wrong-sequent (sequent_meant (kept_of c.args.hyps) (meant_of c.args.concl)) c.in-Terms-Wrong.place
    c.in-Terms-Wrong.fault c.wrong_at-in-Terms-Wrong.result
    (λ i. sequent_meant (kept_of (c.in-Terms-Wrong.is-0 i)) (meant_of (c.in-Terms-Wrong.is-1 i)))
    c.wrong_at-in-Terms-Wrong.ensures
