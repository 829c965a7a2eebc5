use Rattle.ot_article.proofs.ArticleLaw.{written-article-law}
use Rattle.ot_article.proofs.laws.written_article_law.Goals as goal

pub returns : goal.returns
returns c = written-article-law
