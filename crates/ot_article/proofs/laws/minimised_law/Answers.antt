use Rattle.ot_article.proofs.ArticleLaw.{minimised-of}
use Rattle.ot_article.proofs.laws.minimised_law.Goals as goal

pub returns : goal.returns
returns c = minimised-of c.fresh_law.ensures.written c.lines_law.ensures.said c.lines_law.ensures.written
