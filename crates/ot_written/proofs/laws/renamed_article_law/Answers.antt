use Rattle.ot_written.proofs.Renaming.{renamed-article-law}
use Rattle.ot_written.proofs.laws.renamed_article_law.Goals as goal

pub returns : goal.returns
returns c = renamed-article-law
