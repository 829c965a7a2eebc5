use Rattle.std.proofs.lemmas.Result.{on_ok_weaker}
use Rattle.ot_logic.proofs.Spelling.{joined-parts}
use Rattle.ot_logic.proofs.name.push_components.Goals as goal

pub returns-in_ok-push_component-in-len1-up-clause-ok :
    goal.returns-in_ok-push_component-in-len1-up-clause-ok
returns-in_ok-push_component-in-len1-up-clause-ok c =
    on_ok_weaker c.push_further.result
    (joined-parts (λ v. v.items) c.args.components.now _ c.args.out.now.items _ _ c.in-len1-up.len_at_least
    c.first-item.is
    (rw c.deref.ensures.value at c.in_ok-push_component-in-len1-up.ensures.ok))
    c.push_further.ensures.ok
