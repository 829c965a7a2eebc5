use Rattle.std.specs.Prelude.{Err}
use Rattle.std.proofs.Common.{refl, subst}
use Rattle.ot_logic.specs.Naming.{names}
use Rattle.ot_logic.specs.Trees.{Bound}
use Rattle.ot_log_format.specs.State.{makes_term}
use Rattle.ot_verify.specs.Logged.{MadeBy}
use Rattle.ot_verify.proofs.Recording.{answered-then, answered-stop, made-settled}
use Rattle.ot_verify.proofs.records.bound.Goals as goal

pub returns-in-Err-clause-recorded : goal.returns-in-Err-clause-recorded
returns-in-Err-clause-recorded g c =
    answered-stop refl _ (Err c.in-Err.fault) refl
    (c.in-Err.ensures.answered c.args.log.now.state)

pub returns-clause-recorded : goal.returns-clause-recorded
returns-clause-recorded g c =
    let st = c.args.log.now.state in
    let now = c.bound-made.new.self.state in
    let made = c.bound-made.result in
    rw c.settle.ensures
    (answered-then refl _ (c.in-Ok.ensures.answered st)
    (λ k is. made-settled refl made
    (subst (λ k. MadeBy made (makes_term names (Bound k)) st now) is c.bound-made.ensures)))
