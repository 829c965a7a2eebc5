use Rattle.std.specs.Global.{Vec}
use Rattle.std.proofs.Common.{◌≡◌, map, reverse, subst, ◌∙◌}
use Rattle.std.proofs.lemmas.Result.{IfOk-weaker}
use Rattle.ot_logic.specs.Lists.{AreDistinct}
use Rattle.ot_lists.specs.Variables.{variable_of, list_at}
use Rattle.ot_lists.specs.declared.list.Key.{Key}
use Rattle.ot_class.specs.Numbers.{list_number}
use Rattle.ot_class.proofs.Freeing.{keys-free, keys-once}
use Rattle.ot_class.proofs.table.Classes.free_vars.Goals as goal

pub returns-clause-free : goal.returns-clause-free
returns-clause-free c =
    let same : list_at c.self.inside.lists c.list-list.result ≡ list_at c.args.self.now.lists (list_number c.args.id) =
    λ i. list_at (c.self.view_is i).lists (c.list-list.ensures i) in
    IfOk-weaker c.members.result _ _ (λ (keys : Vec Key) are. keys-free keys.items _ (are ∙ same)) c.members.ensures

pub returns-clause-once : goal.returns-clause-once
returns-clause-once c =
    IfOk-weaker c.members.result _ _ (λ (keys : Vec Key) are. keys-once keys.items _ are c.len-count.ensures.once)
    c.members.ensures
