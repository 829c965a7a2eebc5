use Rattle.std.specs.Prelude.{IfSome}
use Rattle.std.proofs.Common.{subst}
use Rattle.std.proofs.lemmas.Result.{on_ok_weaker}
use Rattle.ot_kernel.specs.Classes.{AreClassesOf}
use Rattle.ot_kernel.proofs.ByClass.{classes-more}
use Rattle.ot_kernel.proofs.membership.add_term.Goals as goal

pub returns-in-Some : goal.returns-in-Some
returns-in-Some c =
    on_ok_weaker c.add_class.result
    (λ adds us are. classes-more c.args.terms.now c.args.t us c.in-Some.known.keys c.add_class.new.classes.keys adds
    (subst (λ o. IfSome o (λ s. AreClassesOf c.args.terms.now us s.keys)) c.in-Some.is are))
    c.add_class.ensures
