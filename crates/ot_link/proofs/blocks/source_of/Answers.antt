use Rattle.std.proofs.Common.{◌∙◌, sym}
use Rattle.ot_link.proofs.Finding.{article-found, package-found}
use Rattle.ot_link.proofs.blocks.source_of.Goals as goal

pub returns-in-Article : goal.returns-in-Article
returns-in-Article c =
    sym (c.each.invariant ∙ article-found c.args.statements.now c.each.statement-index _ c.each-test.true
    (sym c.key_of.ensures ∙ c.in-Article.is))

pub returns-in-Package : goal.returns-in-Package
returns-in-Package c =
    sym (c.each.invariant ∙ package-found c.args.statements.now c.each.statement-index _ c.each-test.true
    (sym c.key_of.ensures ∙ c.in-Package.is))
