-- What a reader of the contracts has to believe: the text of the sample article.
pub mod Sample
