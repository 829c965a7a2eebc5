use Rattle.std.proofs.lemmas.Result.{IfOk-weaker}
use Rattle.ot_log_nodes.specs.Items.{term_at}
use Rattle.ot_log_nodes.specs.Lists.{types_of}
use Rattle.ot_log_nodes.proofs.TypingLemmas.{cut-agree, binders-both}
use Rattle.ot_log_nodes.proofs.table.Nodes.cut.Goals as goal

pub returns-clause-binders : goal.returns-clause-binders
returns-clause-binders c = binders-both c.args.self.now c.cut.new.self c.cut.result c.cut.ensures.has
    (c.cut.ensures.types c.args.self.now c.requires.binders.types)

pub returns-clause-cut : goal.returns-clause-cut
returns-clause-cut c =
    IfOk-weaker c.cut.result _ _
    (λ r h. cut-agree c.args.self.now (term_at c.args.self.now c.args.id) (types_of c.args.lists.now c.args.binders)
    (types_of c.cut.new.self r) (λ k p. h k (c.requires.places.each k p))) c.cut.ensures.agree
