use Rattle.std.proofs.Common.{ap, ◌++◌}
use Rattle.std.specs.Prelude.{codes}
use Rattle.ot_log_rules.specs.Accepting.{accepted_at}
use Rattle.ot_text.specs.Sections.{head_text, theorems_text}
use Rattle.ot_text.proofs.Putting.{then, same-text}
use Rattle.ot_log_text.proofs.definitions.put_accepted.Goals as goal

pub returns : goal.returns
returns c =
    same-text
    (ap (λ qs. head_text (accepted_at c.args.nodes.now c.args.accepted.now) ++ codes " : " ++ theorems_text qs)
    c.requires.are)
    (then (then c.put_head.ensures c.put.ensures) (rw c.as_slice.ensures.value at c.put_theorems.ensures))
