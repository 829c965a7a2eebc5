use Rattle.std.proofs.lemmas.Result.{IfOk-weaker}
use Rattle.ot_logic.proofs.Members.{All-from_members}
use Rattle.ot_term.proofs.Gathering.{mentioned}
use Rattle.ot_term.proofs.table.Terms.types_in.Goals as goal

pub subtypes-requires : goal.subtypes-requires
subtypes-requires c = All-from_members _ _ (λ k m. (c.in_ok-pending.ensures.each k m).0)

pub returns : goal.returns
returns c =
    IfOk-weaker c.subtypes.result _ _
    (λ types found. mentioned c.args.self.now c.args.ids.now c.in_ok-pending.pending.keys types.items
    c.in_ok-pending.ensures found) c.subtypes.ensures
