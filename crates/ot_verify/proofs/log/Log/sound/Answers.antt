use Rattle.std.proofs.Common.{subst}
use Rattle.ot_logic.specs.Naming.{names}
use Rattle.ot_log_format.specs.Sound.{IsProved}
use Rattle.ot_verify.specs.Logged.{LogView}
use Rattle.ot_verify.proofs.log.Log.sound.Goals as goal
use Rattle.ot_logic.proofs.Members.{IsMember-at}

pub returns : goal.returns
returns c =
    let s = c.self.invariant.log.sound in
    subst (λ (l : LogView). IsProved names l.state) c.self.view_is (record {
      accepted = s.accepted;
      assumptions = λ i q e. (s.assumptions q (IsMember-at _ i q e)).0;
      results = λ i q e. s.results q (IsMember-at _ i q e);
    })
