use Rattle.std.proofs.Common.{subst}
use Rattle.std.proofs.lemmas.Result.{on_ok_weaker}
use Rattle.ot_leads.specs.Closing.{ArePut}
use Rattle.ot_leads.proofs.Inserting.{noted-added}
use Rattle.ot_leads.proofs.closing.Found.note_added.Goals as goal

pub returns-clause-ok : goal.returns-clause-ok
returns-clause-ok c =
    let before = c.args.self.now.places.keys in
    let after = c.put_all.new.set.keys in
    on_ok_weaker c.put_all.result
    (λ v. noted-added c.args.sets.now c.args.known c.args.self.now.definitions _ c.push_added.new.out.items before after
    c.new-added.ensures.items c.in_ok-push_added.ensures
    (subst (λ xs. ArePut before xs after) c.deref.ensures.value v)) c.put_all.ensures
